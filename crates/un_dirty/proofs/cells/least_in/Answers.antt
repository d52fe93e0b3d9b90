use Rattle.std.proofs.Common.{rules, ◌≡◌, ◌&&◌, true, false, sym, ◌∙◌, ap, subst}
use Rattle.un_geom.specs.Places.{covers}
use Rattle.std.specs.Arc.{arc_value}
use Rattle.un_pages.specs.Pairs.{from_on}
use Rattle.un_dirty.specs.Cells.{entry_cmp, same_cell, covers_at}
use Rattle.un_dirty.proofs.Entries.{IsToCome, all_to_come, past, least_here, none_beyond, none_left}
use Rattle.un_dirty.proofs.cells.least_in.Goals as goal

pub loop-entry-init : goal.loop-entry-init
loop-entry-init c =
    let is = c.into_iter-entry-iterator.ensures.into_iter_gives ∙ c.range-entry-items.ensures.pairs ∙ ap (λ b. from_on entry_cmp b c.args.cells.now) c.first_entry.ensures in
    subst (IsToCome c.args.cell c.args.p c.args.areas.now c.args.cells.now) (sym is) (all_to_come c.args.cell c.args.p c.args.areas.now c.args.cells.now c.len-len.ensures.ordered)

pub returns-then-not-is_in-clause-least : goal.returns-then-not-is_in-clause-least
returns-then-not-is_in-clause-least c =
    let off : same_cell c.in-Some.entry.cell c.args.cell ≡ false = search rules in
    none_beyond c.args.cell c.args.p c.args.areas.now c.args.cells.now (c.in-Some.entry, arc_value c.in-Some.rect.now) c.next.new.self
    (subst (IsToCome c.args.cell c.args.p c.args.areas.now c.args.cells.now) c.in-Some.ensures.steps c.loop-entry.invariant) off

pub returns-then-covers_point-clause-least : goal.returns-then-covers_point-clause-least
returns-then-covers_point-clause-least c =
    let one : same_cell c.in-Some.entry.cell c.args.cell ≡ true = search rules in
    least_here c.args.cell c.args.p c.args.areas.now c.args.cells.now (c.in-Some.entry, arc_value c.in-Some.rect.now) c.next.new.self
    (subst (IsToCome c.args.cell c.args.p c.args.areas.now c.args.cells.now) c.in-Some.ensures.steps c.loop-entry.invariant) one

pub loop-entry-preserved : goal.loop-entry-preserved
loop-entry-preserved c =
    past c.args.cell c.args.p c.args.areas.now c.args.cells.now (c.in-Some.entry, arc_value c.in-Some.rect.now) c.next.new.self
    (subst (IsToCome c.args.cell c.args.p c.args.areas.now c.args.cells.now) c.in-Some.ensures.steps c.loop-entry.invariant)
    (ap (λ r. covers r c.args.p && covers_at c.args.p c.in-Some.entry.number c.args.areas.now) (sym c.deref.ensures) ∙ sym c.covers_point.ensures ∙ c.if-covers_point.false)

pub returns-clause-least : goal.returns-clause-least
returns-clause-least c =
    none_left c.args.cell c.args.p c.args.areas.now c.args.cells.now
    (subst (IsToCome c.args.cell c.args.p c.args.areas.now c.args.cells.now) c.in-None.ensures.steps.0 c.loop-entry.invariant)
