use Rattle.std.proofs.Common.{sym, ap, ◌∙◌, subst}
use Rattle.std.specs.Arc.{arc_value}
use Rattle.un_defs.specs.Laws.{AreNew, MayBeMade}
use Rattle.un_store.specs.Keyed.{row_with}
use Rattle.un_grid.specs.Grids.{IsGridOf}
use Rattle.un_grid.proofs.Inserting.{inserted}
use Rattle.un_grid.proofs.Changing.{removed, replaced, stayed}
use Rattle.un_facts.specs.Known.{Known, known_of, setting, next_at, edited}
use Rattle.un_facts.specs.Standing.{IsKnown}
use Rattle.un_facts.specs.Changing.{IsRowChange}
use Rattle.un_facts.proofs.Edited.{features_are, grid_after}
use Rattle.un_facts.proofs.Makeable.{edited_known}
use Rattle.un_facts.proofs.facts.Facts.with_row_change.Goals as goal

-- the features that the parts are have what holds of those that were given
pub of-requires-clause-known : goal.of-requires-clause-known
of-requires-clause-known c =
    let p = c.in_ok-parts.parts in
    let S = (arc_value p.frame).setup in
    let e = c.args.edit.now in
    let ids = c.args.ids in
    let K : Known = known_of (arc_value p.frame) p.rows p.assocs in
    let value = c.in_ok-parts.ensures.value in
    let new : AreNew (next_at ids c.args.moment) K.features = subst (λ (L : Known). AreNew (next_at ids c.args.moment) L.features) (sym value) c.requires.new in
    let may = subst (λ (L : Known). MayBeMade (setting L.setup) (next_at ids c.args.moment) L.features e) (sym value) c.requires.may in
    let after = subst (λ (L : Known). IsRowChange L ids c.args.moment e c.args.change) (sym value) c.requires.change in
    let left = features_are (setting S) (next_at ids c.args.moment) K.features e c.requires.word c.apply.new.self (c.in_ok-apply.ensures.ok ∙ after.rows) in
    subst IsKnown (ap (λ F. record { setup = S; features = F }) (sym left))
    (edited_known K ids c.args.moment e c.in_ok-parts.ensures.known new may)

pub of-requires-clause-grid : goal.of-requires-clause-grid
of-requires-clause-grid c =
    let p = c.in_ok-parts.parts in
    let S = (arc_value p.frame).setup in
    let e = c.args.edit.now in
    let ids = c.args.ids in
    let K : Known = known_of (arc_value p.frame) p.rows p.assocs in
    let T = setting S in
    let N = next_at ids c.args.moment in
    let value = c.in_ok-parts.ensures.value in
    let new : AreNew N K.features = subst (λ (L : Known). AreNew N L.features) (sym value) c.requires.new in
    let after = subst (λ (L : Known). IsRowChange L ids c.args.moment e c.args.change) (sym value) c.requires.change in
    let left = features_are T N K.features e c.requires.word c.apply.new.self (c.in_ok-apply.ensures.ok ∙ after.rows) in
    let grid = grid_after T N K.features new.feature e c.requires.word after.cause c.apply.new.self (c.in_ok-apply.ensures.ok ∙ after.rows) c.id-id.result (c.id-id.ensures ∙ after.id) _ _ c.row-before.ensures
    (c.row-after.ensures p.rows ∙ (λ i. row_with (sym c.in_ok-apply.ensures.ok i) (sym c.id-id.ensures i)))
    inserted removed replaced stayed c.in_ok-parts.ensures.known.sound.rows p.grid c.move_ports.new.grid c.in_ok-parts.ensures.grid c.in_ok-move_ports.ensures in
    subst (IsGridOf c.move_ports.new.grid) (sym left) grid

pub returns : goal.returns
returns c =
    let p = c.in_ok-parts.parts in
    let S = (arc_value p.frame).setup in
    let e = c.args.edit.now in
    let ids = c.args.ids in
    let K : Known = known_of (arc_value p.frame) p.rows p.assocs in
    let value = c.in_ok-parts.ensures.value in
    let after = subst (λ (L : Known). IsRowChange L ids c.args.moment e c.args.change) (sym value) c.requires.change in
    c.in_ok-facts.ensures
    ∙ ap (λ F. record { setup = S; features = F }) (features_are (setting S) (next_at ids c.args.moment) K.features e c.requires.word c.apply.new.self (c.in_ok-apply.ensures.ok ∙ after.rows))
    ∙ ap (λ L. edited L ids c.args.moment e) value
