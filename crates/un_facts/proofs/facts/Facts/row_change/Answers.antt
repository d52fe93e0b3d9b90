use Rattle.std.proofs.Common.{◌≡◌, ◌++◌, None, sym, ap, ◌∙◌, subst}
use Rattle.std.specs.Arc.{arc_value}
use Rattle.std.specs.Option.{option_copied}
use Rattle.un_schema.specs.Sound.{IsCatalog}
use Rattle.un_defs.specs.Dirtied.{dirtied}
use Rattle.un_defs.specs.Laws.{AreNew, MayBeMade}
use Rattle.un_store.specs.Changes.{applied}
use Rattle.un_store.specs.Edits.{rows_after}
use Rattle.un_store.specs.Keyed.{row_with}
use Rattle.un_store.specs.Refusals.{refusal_of as row_refusal}
use Rattle.un_tiers.specs.declared.setup.Setup.{Setup}
use Rattle.un_facts.specs.Frames.{Framed}
use Rattle.un_facts.specs.Known.{Known, known_of, setting, next_at}
use Rattle.un_facts.specs.Changing.{IsRowChange}
use Rattle.un_facts.specs.Refusals.{refusal_of, standing_refusal}
use Rattle.un_facts.specs.Rectangles.{own_rectangles, other_rectangles}
use Rattle.un_facts.proofs.Edited.{all_rectangles_are}
use Rattle.un_facts.proofs.Makeable.{made, row_word, row_good}
use Rattle.un_facts.proofs.facts.Facts.row_change.Goals as goal

pub returns-clause-good : goal.returns-clause-good
returns-clause-good c =
    let frame = arc_value c.parts-parts.result.now.frame in
    let S = frame.setup in
    let setup_is = c.setup.ensures ∙ ap (λ (f : Framed). f.setup) c.deref.ensures in
    let e = c.args.edit.now in
    let K : Known = known_of frame c.parts-parts.result.now.rows c.parts-parts.result.now.assocs in
    let cause : row_refusal S.schema c.parts-parts.result.now.rows e ≡ None =
    subst (λ (C : Setup). row_refusal C.schema c.parts-parts.result.now.rows e ≡ None) setup_is c.in_ok-change.ensures.good in
    let stands : standing_refusal K.features e ≡ None = subst (λ (L : Known). standing_refusal L.features e ≡ None) (sym c.parts-parts.ensures.value) c.in_ok-check_standing.ensures.good in
    subst (λ (L : Known). refusal_of L e ≡ None) c.parts-parts.ensures.value (row_good K e c.requires.word cause stands)

pub returns-clause-dirtied : goal.returns-clause-dirtied
returns-clause-dirtied c =
    let frame = arc_value c.parts-parts.result.now.frame in
    let S = frame.setup in
    let setup_is = c.setup.ensures ∙ ap (λ (f : Framed). f.setup) c.deref.ensures in
    let e = c.args.edit.now in
    let ids = c.args.ids in
    let K : Known = known_of frame c.parts-parts.result.now.rows c.parts-parts.result.now.assocs in
    let N = next_at ids c.args.moment in
    let new : AreNew N K.features = subst (λ (L : Known). AreNew N L.features) (sym c.parts-parts.ensures.value) c.requires.new in
    let cause : row_refusal S.schema c.parts-parts.result.now.rows e ≡ None =
    subst (λ (C : Setup). row_refusal C.schema c.parts-parts.result.now.rows e ≡ None) setup_is c.in_ok-change.ensures.good in
    let are : applied c.parts-parts.result.now.rows c.in_ok-change.change ≡ rows_after S.schema ids.feature c.args.moment c.parts-parts.result.now.rows e =
    subst (λ (C : Setup). applied c.parts-parts.result.now.rows c.in_ok-change.change ≡ rows_after C.schema ids.feature c.args.moment c.parts-parts.result.now.rows e) setup_is c.in_ok-change.ensures.rows in
    c.in_ok-dirtied.ensures
    ∙ subst (λ (L : Known). own_rectangles e (option_copied c.row-before.result) (option_copied c.row-after.result) ++ other_rectangles L.features e ≡ dirtied L.features e) c.parts-parts.ensures.value
    (all_rectangles_are (setting S) N K.features new.feature e c.requires.word cause _ are c.id-id.result (c.id-id.ensures ∙ c.in_ok-change.ensures.id) _ _ c.row-before.ensures
    (c.row-after.ensures c.parts-parts.result.now.rows ∙ ap (row_with (applied c.parts-parts.result.now.rows c.in_ok-change.change)) (sym c.id-id.ensures)))

pub returns-clause-may : goal.returns-clause-may
returns-clause-may c =
    let frame = arc_value c.parts-parts.result.now.frame in
    let S = frame.setup in
    let setup_is = c.setup.ensures ∙ ap (λ (f : Framed). f.setup) c.deref.ensures in
    let e = c.args.edit.now in
    let K : Known = known_of frame c.parts-parts.result.now.rows c.parts-parts.result.now.assocs in
    let cause : row_refusal S.schema c.parts-parts.result.now.rows e ≡ None =
    subst (λ (C : Setup). row_refusal C.schema c.parts-parts.result.now.rows e ≡ None) setup_is c.in_ok-change.ensures.good in
    let stands : standing_refusal K.features e ≡ None = subst (λ (L : Known). standing_refusal L.features e ≡ None) (sym c.parts-parts.ensures.value) c.in_ok-check_standing.ensures.good in
    let catalog = subst (λ (C : Setup). IsCatalog C.schema) setup_is c.rules-rules.ensures.catalog in
    subst (λ (L : Known). MayBeMade (setting L.setup) (next_at c.args.ids c.args.moment) L.features e) c.parts-parts.ensures.value
    (made K c.args.ids c.args.moment catalog c.parts-parts.ensures.known.sound e (row_word e c.requires.word) (row_good K e c.requires.word cause stands))

pub returns-clause-follows : goal.returns-clause-follows
returns-clause-follows c =
    let frame = arc_value c.parts-parts.result.now.frame in
    let S = frame.setup in
    let setup_is = c.setup.ensures ∙ ap (λ (f : Framed). f.setup) c.deref.ensures in
    let e = c.args.edit.now in
    let ids = c.args.ids in
    let cause : row_refusal S.schema c.parts-parts.result.now.rows e ≡ None =
    subst (λ (C : Setup). row_refusal C.schema c.parts-parts.result.now.rows e ≡ None) setup_is c.in_ok-change.ensures.good in
    let are : applied c.parts-parts.result.now.rows c.in_ok-change.change ≡ rows_after S.schema ids.feature c.args.moment c.parts-parts.result.now.rows e =
    subst (λ (C : Setup). applied c.parts-parts.result.now.rows c.in_ok-change.change ≡ rows_after C.schema ids.feature c.args.moment c.parts-parts.result.now.rows e) setup_is c.in_ok-change.ensures.rows in
    (c.requires.word, subst (λ (L : Known). IsRowChange L ids c.args.moment e c.in_ok-change.change) c.parts-parts.ensures.value (record { rows = are; id = c.in_ok-change.ensures.id; cause = cause }))
