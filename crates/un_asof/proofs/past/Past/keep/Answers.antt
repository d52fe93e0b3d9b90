use Rattle.std.proofs.Common.{◌≤◌, ℕ, List, ap, sym, ◌∙◌, subst, arith}
use Rattle.std.specs.Prelude.{insert, vec_capacity}
use Rattle.std.specs.Arc.{arc_value}
use Rattle.un_publish.specs.declared.session.View.{View}
use Rattle.un_asof.specs.Pasts.{StandsFor, keeping}
use Rattle.un_asof.proofs.Keeping.{kept_new, inserted_items}
use Rattle.un_asof.proofs.Standing.{keeping_stands}
use Rattle.un_asof.proofs.past.Past.keep.Goals as goal

pub invariant_of-self : goal.invariant_of-self
invariant_of-self g c =
    let w : View g.row.M.Denot = record { version = c.args.version; state = c.args.state } in
    let count = rw c.deref.ensures.value at c.count_up_to-place.ensures.count in
    let near = rw (← c.self.view_is) at c.near.ensures.nearest in
    let now = inserted_items c.insert.result (insert c.make_room.new.views.items c.count_up_to-place.result w) c.make_room.new.views.items c.insert.new.self.items (c.insert.ensures.succeeds (omega arith)) c.insert.ensures.items in
    let kept = kept_new c.self.inside.kept.items c.make_room.new.views.items c.insert.new.self.items c.count_up_to-place.result w (c.near.result.0, arc_value c.near.result.1.now) c.self.invariant.0 near c.if-near-version.false c.make_room.ensures.items count now in
    let room : 16 ≤ vec_capacity c.insert.new.self = omega arith in
    (kept.0, room)

pub returns-clause-kept : goal.returns-clause-kept
returns-clause-kept g c =
    let w : View g.row.M.Denot = record { version = c.args.version; state = c.args.state } in
    let count = rw c.deref.ensures.value at c.count_up_to-place.ensures.count in
    let near = rw (← c.self.view_is) at c.near.ensures.nearest in
    let now = inserted_items c.insert.result (insert c.make_room.new.views.items c.count_up_to-place.result w) c.make_room.new.views.items c.insert.new.self.items (c.insert.ensures.succeeds (omega arith)) c.insert.ensures.items in
    let kept = kept_new c.self.inside.kept.items c.make_room.new.views.items c.insert.new.self.items c.count_up_to-place.result w (c.near.result.0, arc_value c.near.result.1.now) c.self.invariant.0 near c.if-near-version.false c.make_room.ensures.items count now in
    kept.1 ∙ ap (λ (l : List (ℕ × g.row.M.Denot)). keeping (c.args.version, arc_value c.args.state) l) c.self.view_is

pub returns-clause-stands : goal.returns-clause-stands
returns-clause-stands g c log stands is =
    let p : ℕ × g.row.M.Denot = (c.args.version, arc_value c.args.state) in
    subst (λ (l : List (ℕ × g.row.M.Denot)). StandsFor g.M.Machine.step g.J.BoardName.opening l log) (sym (returns-clause-kept g c))
    (keeping_stands g.M.Machine.step g.J.BoardName.opening log c.args.self.now p stands is)
