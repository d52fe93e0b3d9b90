use Rattle.std.proofs.Common.{refl, ap, subst, ◌∙◌}
use Rattle.un_core.specs.State.{State}
use Rattle.un_core.specs.Cover.{IsState}
use Rattle.un_core.specs.Validation.{IsKept}
use Rattle.un_core.specs.Answers.{kept_survey}
use Rattle.un_core.proofs.Asked.{kept_points}
use Rattle.un_core.proofs.Listed.{errors_kept, errors_listed}
use Rattle.un_core.proofs.net.Net.errors.Goals as goal

pub returns : goal.returns
returns c =
    let s = c.args.self.now in
    let is = subst IsState c.self.view_is c.self.invariant in
    let kept : IsKept s.kept = record { sorted = is.sorted; nonempty = is.nonempty } in
    c.new.ensures ∙ c.in_ok-errors.ensures ∙ ap (λ (t : State). errors_kept t.kept c.args.extent) c.self.view_is
    ∙ errors_listed (kept_survey s) s.kept kept (λ p. refl) (kept_points s.kept) c.args.extent
