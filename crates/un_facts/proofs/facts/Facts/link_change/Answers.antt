use Rattle.std.proofs.Common.{◌≡◌, ℕ, List, [], None, Some, sym, ap, ◌∙◌, subst}
use Rattle.std.proofs.lemmas.Result.{err_from_is_err_and}
use Rattle.std.specs.Arc.{arc_value}
use Rattle.un_schema.specs.Sound.{IsCatalog}
use Rattle.un_defs.specs.declared.row.Row.{Row}
use Rattle.un_defs.specs.declared.edit.Edit.{Edit}
use Rattle.un_defs.specs.Laws.{AreNew, MayBeMade}
use Rattle.un_store.specs.Edits.{only_rows}
use Rattle.un_assoc.specs.Links.{Links}
use Rattle.un_assoc.specs.Words.{IsLinkEdit}
use Rattle.un_assoc.specs.Lawful.{LinksAloneLaw}
use Rattle.un_assoc.specs.Edits.{IsMade}
use Rattle.un_facts.specs.declared.ids.NextIds.{NextIds}
use Rattle.un_assoc.specs.Refusals.{refusal_of as link_refusal}
use Rattle.un_tiers.specs.declared.setup.Setup.{Setup}
use Rattle.un_facts.specs.Frames.{Framed}
use Rattle.un_facts.specs.Known.{Known, known_of, setting, next_at, edited, linked}
use Rattle.un_facts.specs.Standing.{IsKnown}
use Rattle.un_facts.specs.Refusals.{refusal_of}
use Rattle.un_facts.proofs.Edited.{link_rectangles}
use Rattle.un_facts.proofs.Linked.{under, rules_aside, link_left}
use Rattle.un_facts.proofs.Makeable.{made, link_word, link_refused, edited_known}
use Rattle.un_facts.proofs.facts.Facts.link_change.Goals as goal

pub returns-clause-may : goal.returns-clause-may
returns-clause-may c =
    let frame = arc_value c.parts-parts.result.now.frame in
    let S = frame.setup in
    let setup_is = c.setup.ensures ∙ ap (λ (f : Framed). f.setup) c.deref.ensures in
    let e = c.args.edit.now in
    let rows = c.parts-parts.result.now.rows in
    let links = c.parts-parts.result.now.assocs in
    let K : Known = known_of frame rows links in
    let catalog = subst (λ (C : Setup). IsCatalog C.schema) setup_is c.rules-rules.ensures.catalog in
    let good : link_refusal (setting S) (under rows links []) e ≡ None =
    subst (λ (C : Setup). link_refusal (setting C) (under rows links []) e ≡ None) setup_is c.in_ok-assocs.ensures.good in
    let cause = link_refused K e c.requires.word None (rules_aside (setting S) rows links frame.rules [] e ∙ good) in
    subst (λ (L : Known). MayBeMade (setting L.setup) (next_at c.args.ids c.args.moment) L.features e) c.parts-parts.ensures.value
    (made K c.args.ids c.args.moment catalog c.parts-parts.ensures.known.sound e (link_word e c.requires.word) cause)

-- the features with the associations and controllers that the edit leaves
left_is : LinksAloneLaw → (K : Known) (f : Framed) (rows : List Row) (before after : Links) → known_of f rows before ≡ K
    → (ids : NextIds) (moment : ℕ) (e : Edit) → IsLinkEdit e → IsMade (setting f.setup) ids.association (only_rows rows) before e after → linked K after ≡ edited K ids moment e
left_is alone K f rows before after view ids moment e word made =
    ap (λ (L : Known). linked L after) (sym view)
    ∙ ap (λ F. record { setup = f.setup; features = F }) (link_left alone f.setup f.rules rows before after ids moment e word made)
    ∙ ap (λ (L : Known). edited L ids moment e) view

pub returns-in_err-assocs-clause-bad : goal.returns-in_err-assocs-clause-bad
returns-in_err-assocs-clause-bad c =
    let frame = arc_value c.parts-parts.result.now.frame in
    let S = frame.setup in
    let setup_is = c.setup.ensures ∙ ap (λ (f : Framed). f.setup) c.deref.ensures in
    let e = c.args.edit.now in
    let rows = c.parts-parts.result.now.rows in
    let links = c.parts-parts.result.now.assocs in
    let K : Known = known_of frame rows links in
    let r = c.in_err-assocs.field-0.0 in
    let p = err_from_is_err_and c.from_residual.result c.from_residual.ensures.1 in
    rw (p.1, p.2) (λ memory.
    let due : link_refusal (setting S) (under rows links []) e ≡ Some r =
    subst (λ (C : Setup). link_refusal (setting C) (under rows links []) e ≡ Some r) setup_is (c.in_err-assocs.ensures.bad memory) in
    subst (λ (L : Known). refusal_of L e ≡ Some r) c.parts-parts.ensures.value
    (link_refused K e c.requires.word (Some r) (rules_aside (setting S) rows links frame.rules [] e ∙ due)))

pub returns-clause-follows : goal.returns-clause-follows
returns-clause-follows c =
    let frame = arc_value c.parts-parts.result.now.frame in
    let S = frame.setup in
    let setup_is = c.setup.ensures ∙ ap (λ (f : Framed). f.setup) c.deref.ensures in
    let e = c.args.edit.now in
    let ids = c.args.ids in
    let rows = c.parts-parts.result.now.rows in
    let links = c.parts-parts.result.now.assocs in
    let K : Known = known_of frame rows links in
    let new : AreNew (next_at ids c.args.moment) K.features = subst (λ (L : Known). AreNew (next_at ids c.args.moment) L.features) (sym c.parts-parts.ensures.value) c.requires.new in
    let catalog = subst (λ (C : Setup). IsCatalog C.schema) setup_is c.rules-rules.ensures.catalog in
    let good : link_refusal (setting S) (under rows links []) e ≡ None =
    subst (λ (C : Setup). link_refusal (setting C) (under rows links []) e ≡ None) setup_is c.in_ok-assocs.ensures.good in
    let cause = link_refused K e c.requires.word None (rules_aside (setting S) rows links frame.rules [] e ∙ good) in
    let may = made K ids c.args.moment catalog c.parts-parts.ensures.known.sound e (link_word e c.requires.word) cause in
    let is_made : IsMade (setting S) ids.association (only_rows rows) links e c.in_ok-assocs.assocs =
    subst (λ (C : Setup). IsMade (setting C) ids.association (only_rows rows) links e c.in_ok-assocs.assocs) setup_is c.in_ok-assocs.ensures.links in
    let left = left_is c.links_alone.ensures.links c.args.self.now frame rows links c.in_ok-assocs.assocs c.parts-parts.ensures.value ids c.args.moment e c.requires.word is_made in (
      subst IsKnown (sym left)
          (subst (λ (L : Known). IsKnown (edited L ids c.args.moment e)) c.parts-parts.ensures.value (edited_known K ids c.args.moment e c.parts-parts.ensures.known new may)),
      left,
    )

pub returns-clause-dirtied : goal.returns-clause-dirtied
returns-clause-dirtied c = c.in_ok-dirtied.ensures ∙ link_rectangles c.args.self.now.features c.args.edit.now c.requires.word
