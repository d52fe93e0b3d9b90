use Rattle.std.proofs.Common.{◌≡◌, ◌+◌, refl, sym, ap, subst, ◌∙◌}
use Rattle.std.proofs.lemmas.Result.{err_from_is_err_and}
use Rattle.un_ask.specs.declared.request.Command.TheVariants as command
use Rattle.un_core.specs.State.{State}
use Rattle.un_core.specs.Step.{batched}
use Rattle.un_core.specs.Cover.{IsState}
use Rattle.un_core.specs.Held.{held}
use Rattle.un_core.proofs.CoverKept.{cover_is_kept}
use Rattle.un_core.proofs.Batching.{batched_is}
use Rattle.un_core.proofs.net.Net.batch.Goals as goal

pub invariant_of-net : goal.invariant_of-net
invariant_of-net c =
    let s = c.args.self.now in
    let es = c.args.edits.now in
    let n = c.net.inside in
    let moment = c.self.inside.version + 1 in
    let state : held c.in_ok-net-inside.field-0 n.kept n.dirty n.stored moment n.ids ≡ batched s es =
    ap (λ K. held K n.kept n.dirty n.stored moment n.ids) c.in_ok-net-inside.ensures
    ∙ batched_is s es n.facts n.kept n.dirty n.stored n.version moment n.ids c.deref.result.now
    (c.net.view_is ∙ c.in_ok-net.ensures.state) (c.deref.ensures.value ∙ c.in_ok-net.ensures.touched) (ap (λ (t : State). t.version + 1) c.self.view_is) in
    subst IsState (sym state) (cover_is_kept s (command.Batch es) (subst IsState c.self.view_is c.self.invariant) c.in_ok-net.ensures.may)

pub returns-clause-state : goal.returns-clause-state
returns-clause-state c =
    let s = c.args.self.now in
    let es = c.args.edits.now in
    let n = c.net.inside in
    let moment = c.self.inside.version + 1 in
    ap (λ K. held K n.kept n.dirty n.stored moment n.ids) c.in_ok-net-inside.ensures
    ∙ batched_is s es n.facts n.kept n.dirty n.stored n.version moment n.ids c.deref.result.now
    (c.net.view_is ∙ c.in_ok-net.ensures.state) (c.deref.ensures.value ∙ c.in_ok-net.ensures.touched) (ap (λ (t : State). t.version + 1) c.self.view_is)

pub returns-in_err-net-inside-clause-bad : goal.returns-in_err-net-inside-clause-bad
returns-in_err-net-inside-clause-bad c =
    let p = err_from_is_err_and c.from_residual-in_err-net-inside.result c.from_residual-in_err-net-inside.ensures.1 in
    rw (p.1, p.2) (λ other. absurd (other refl))
