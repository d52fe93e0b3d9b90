use Rattle.std.proofs.Common.{refl, ◌≡◌, ◌+◌, sym, ap, ◌∙◌, subst, map}
use Rattle.std.proofs.lemmas.Result.{err_from_is_err_and}
use Rattle.un_index.specs.Kept.{stars_of}
use Rattle.un_subnet.specs.Changes.{changes_at}
use Rattle.un_subnet.specs.Stored.{marked}
use Rattle.un_rebuild.specs.Renewed.{IsRebuilt}
use Rattle.un_core.specs.State.{known}
use Rattle.un_core.specs.Cover.{IsState}
use Rattle.un_core.specs.Validation.{met, validated}
use Rattle.un_core.specs.Held.{held}
use Rattle.un_core.proofs.CoverKept.{validated_state}
use Rattle.un_core.proofs.Marking.{marks_are}
use Rattle.un_core.proofs.Replaced.{replaced, errors_counted}
use Rattle.un_core.proofs.net.Net.validate.Goals as goal

pub invariant_of-result : goal.invariant_of-result
invariant_of-result c =
    let v = c.self.inside.version in
    let ids = c.self.inside.ids in
    let s = held c.self.inside.facts c.self.inside.kept c.self.inside.dirty c.self.inside.stored v ids in
    let areas = met c.args.extent s.areas in
    let points = c.in_ok-rebuilt.rebuilt.points.items in
    let kept = c.in_ok-rebuilt.rebuilt.kept in
    let new = subst (λ t. IsRebuilt (known t) t.kept (met c.args.extent t.areas) c.in_ok-rebuilt.rebuilt) (sym c.self.view_is) c.in_ok-rebuilt.ensures in
    let is = replaced s c.self.invariant areas points new.points kept new.kept new.stars in
    let rows_are : c.in_ok-stored.stored ≡ map (marked (changes_at (stars_of s.kept) (stars_of kept) points)) s.stored =
    c.in_ok-stored.ensures
    ∙ (λ i. map (marked (changes_at (stars_of (sym c.self.view_is i).kept) (stars_of kept) (c.deref.ensures.value i))) (sym c.self.view_is i).stored) in
    let rows = marks_are s c.self.invariant c.args.extent points new.points kept is c.in_ok-stored.stored rows_are in
    subst IsState (λ i. held (sym c.in_ok-facts.ensures i) (sym is i) (sym c.in_ok-dirty.ensures i) (sym rows i) (v + 1) ids)
    (validated_state s c.self.invariant c.args.extent)

pub returns-clause-state : goal.returns-clause-state
returns-clause-state c =
    let v = c.self.inside.version in
    let ids = c.self.inside.ids in
    let s = held c.self.inside.facts c.self.inside.kept c.self.inside.dirty c.self.inside.stored v ids in
    let areas = met c.args.extent s.areas in
    let points = c.in_ok-rebuilt.rebuilt.points.items in
    let kept = c.in_ok-rebuilt.rebuilt.kept in
    let new = subst (λ t. IsRebuilt (known t) t.kept (met c.args.extent t.areas) c.in_ok-rebuilt.rebuilt) (sym c.self.view_is) c.in_ok-rebuilt.ensures in
    let is = replaced s c.self.invariant areas points new.points kept new.kept new.stars in
    let rows_are : c.in_ok-stored.stored ≡ map (marked (changes_at (stars_of s.kept) (stars_of kept) points)) s.stored =
    c.in_ok-stored.ensures
    ∙ (λ i. map (marked (changes_at (stars_of (sym c.self.view_is i).kept) (stars_of kept) (c.deref.ensures.value i))) (sym c.self.view_is i).stored) in
    let rows = marks_are s c.self.invariant c.args.extent points new.points kept is c.in_ok-stored.stored rows_are in
    (λ i. held (c.in_ok-facts.ensures i) (is i) (c.in_ok-dirty.ensures i) (rows i) (v + 1) ids)
    ∙ ap (λ t. validated t c.args.extent) c.self.view_is

pub returns-clause-errors : goal.returns-clause-errors
returns-clause-errors c =
    let s = c.args.self.now in
    c.in_ok-rebuilt.ensures.errors
    ∙ errors_counted s (subst IsState c.self.view_is c.self.invariant) (met c.args.extent s.areas) c.in_ok-rebuilt.rebuilt.points.items
    c.in_ok-rebuilt.ensures.points c.in_ok-rebuilt.ensures.sorted

pub returns-clause-cleared : goal.returns-clause-cleared
returns-clause-cleared c = c.in_ok-rebuilt.ensures.count

pub returns-in_err-dirty-clause-bad : goal.returns-in_err-dirty-clause-bad
returns-in_err-dirty-clause-bad c =
    let p = err_from_is_err_and c.from_residual-in_err-dirty.result c.from_residual-in_err-dirty.ensures.1 in
    rw (p.1, p.2) (λ memory. absurd (memory refl))
