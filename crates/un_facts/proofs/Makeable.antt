-- An edit for which no refusal is due may be made.
use Rattle.std.proofs.Common.{◌≡◌, ℕ, true, false, true≢false, ◌∷◌, [], Option, None, Some, refl, sym, ◌∙◌}
use Rattle.un_schema.specs.Sound.{IsCatalog}
use Rattle.un_defs.specs.declared.edit.Edit.{Edit}
use Rattle.un_defs.specs.declared.edit.Edit.TheVariants as edit
use Rattle.un_defs.specs.declared.refusal.Refusal.{Refusal}
use Rattle.un_defs.specs.Refusing.{first_refusal}
use Rattle.un_defs.specs.Features.{Features}
use Rattle.un_defs.specs.Change.{Setting}
use Rattle.un_defs.specs.Laws.{AreNew, MayBeMade}
use Rattle.un_defs.proofs.KeepsSound.{keeps_sound}
use Rattle.un_store.specs.Words.{IsRowEdit}
use Rattle.un_store.specs.Edits.{IsOfRow}
use Rattle.un_store.specs.Refusals.{refusal_of as row_refusal}
use Rattle.un_store.proofs.Makings.{fits_alone}
use Rattle.un_store.proofs.Fitting.{none_refused}
use Rattle.un_store.proofs.EditsFit.{edit_fits}
use Rattle.un_assoc.specs.Words.{IsLinkEdit}
use Rattle.un_assoc.proofs.Making.{may_be_made}
use Rattle.un_assoc.specs.Refusals.{refusal_of as link_refusal}
use Rattle.un_facts.specs.declared.ids.NextIds.{NextIds}
use Rattle.un_facts.specs.Known.{Known, setting, next_at, edited}
use Rattle.un_facts.specs.Standing.{IsKnown}
use Rattle.un_defs.specs.Sound.{IsSound}
use Rattle.un_facts.specs.Refusals.{is_row_edit, is_of_features, standing_refusal, refusal_of}
use Rattle.un_facts.proofs.Alone.{alone}
use Rattle.un_facts.proofs.Attributes.{changed_has}

module _ (K : Known) (ids : NextIds) (moment : ℕ) (schema : IsCatalog K.setup.schema) (sound : IsSound K.setup.schema K.features) where
  abbrev MayBe : Edit → Type 0
  MayBe = MayBeMade (setting K.setup) (next_at ids moment) K.features

  -- the row that it leaves fits its kind
  fitting : (e : Edit) → IsOfRow e → row_refusal K.setup.schema K.features.rows e ≡ None → MayBe e
  fitting e word cause =
      fits_alone (setting K.setup) (next_at ids moment) K.features e word
      (edit_fits K.setup.schema ids.feature moment K.features.rows e schema sound.kinds word cause)

  of_link : (e : Edit) → IsLinkEdit e → link_refusal (setting K.setup) K.features e ≡ None → MayBe e
  of_link e word cause = may_be_made (setting K.setup) (next_at ids moment) K.features e word cause

  pub made : (e : Edit) → is_of_features e ≡ true → refusal_of K e ≡ None → MayBe e
  made e word cause =
      let behind_rows = none_refused (row_refusal K.setup.schema K.features.rows e) _ cause in
      let behind_standing = none_refused (standing_refusal K.features e) _ behind_rows.1 in
      let of_links = none_refused (link_refusal (setting K.setup) K.features e) [] behind_standing.1 in
      go e word behind_rows.0 behind_standing.0 of_links.0
    where
      go : (e : Edit) → is_of_features e ≡ true → row_refusal K.setup.schema K.features.rows e ≡ None → standing_refusal K.features e ≡ None
          → link_refusal (setting K.setup) K.features e ≡ None → MayBe e
      go (edit.Insert kind points attrs flow ends note) word cause stands none = fitting (edit.Insert kind points attrs flow ends note) tt cause
      go (edit.Reshape id base points) word cause stands none = fitting (edit.Reshape id base points) tt cause
      go (edit.Attrs id base attrs) word cause stands none = tt
      go (edit.Kind id base kind) word cause stands none = fitting (edit.Kind id base kind) tt cause
      go (edit.Path id base path) word cause stands none = fitting (edit.Path id base path) tt cause
      go (edit.Flow id base flow) word cause stands none = tt
      go (edit.Ends id base ends) word cause stands none = tt
      go (edit.Note id base note) word cause stands none = tt
      go (edit.Delete id base) word cause stands none = alone K.features id base stands
      go (edit.Connect from to) word cause stands none = of_link (edit.Connect from to) tt none
      go (edit.Contain container content) word cause stands none = of_link (edit.Contain container content) tt none
      go (edit.Attach structure content) word cause stands none = of_link (edit.Attach structure content) tt none
      go (edit.Detach assoc) word cause stands none = tt
      go (edit.Controller id terminal tier subnet) word cause stands none = of_link (edit.Controller id terminal tier subnet) tt none
      go (edit.Uncontroller id terminal) word cause stands none = tt
      go (edit.Rule rule) word cause stands none = absurd (true≢false (sym word))

-- ---- the words

pub row_word : (e : Edit) → IsRowEdit e → is_of_features e ≡ true
row_word (edit.Insert kind points attrs flow ends note) word = refl
row_word (edit.Reshape id base points) word = refl
row_word (edit.Attrs id base attrs) word = refl
row_word (edit.Kind id base kind) word = refl
row_word (edit.Path id base path) word = refl
row_word (edit.Flow id base flow) word = refl
row_word (edit.Ends id base ends) word = refl
row_word (edit.Note id base note) word = refl
row_word (edit.Delete id base) word = refl
row_word _ word = absurd word

pub link_word : (e : Edit) → IsLinkEdit e → is_of_features e ≡ true
link_word (edit.Connect from to) word = refl
link_word (edit.Contain container content) word = refl
link_word (edit.Attach structure content) word = refl
link_word (edit.Detach assoc) word = refl
link_word (edit.Controller id terminal tier subnet) word = refl
link_word (edit.Uncontroller id terminal) word = refl
link_word _ word = absurd word

pub is_row : (e : Edit) → is_row_edit e ≡ true → IsRowEdit e
is_row (edit.Insert kind points attrs flow ends note) is = tt
is_row (edit.Reshape id base points) is = tt
is_row (edit.Attrs id base attrs) is = tt
is_row (edit.Kind id base kind) is = tt
is_row (edit.Path id base path) is = tt
is_row (edit.Flow id base flow) is = tt
is_row (edit.Ends id base ends) is = tt
is_row (edit.Note id base note) is = tt
is_row (edit.Delete id base) is = tt
is_row _ is = absurd (true≢false (sym is))

pub is_link : (e : Edit) → is_of_features e ≡ true → is_row_edit e ≡ false → IsLinkEdit e
is_link (edit.Connect from to) of is = tt
is_link (edit.Contain container content) of is = tt
is_link (edit.Attach structure content) of is = tt
is_link (edit.Detach assoc) of is = tt
is_link (edit.Controller id terminal tier subnet) of is = tt
is_link (edit.Uncontroller id terminal) of is = tt
is_link (edit.Rule rule) of is = absurd (true≢false (sym of))
is_link _ of is = absurd (true≢false is)

-- ---- refusals, by the sort of the edit

row_alone : (T : Setting) (F : Features) (e : Edit) → IsRowEdit e → link_refusal T F e ≡ None
row_alone T F (edit.Insert kind points attrs flow ends note) word = refl
row_alone T F (edit.Reshape id base points) word = refl
row_alone T F (edit.Attrs id base attrs) word = refl
row_alone T F (edit.Kind id base kind) word = refl
row_alone T F (edit.Path id base path) word = refl
row_alone T F (edit.Flow id base flow) word = refl
row_alone T F (edit.Ends id base ends) word = refl
row_alone T F (edit.Note id base note) word = refl
row_alone T F (edit.Delete id base) word = refl
row_alone T F _ word = absurd word

module _ (K : Known) (e : Edit) where
  of_three : (a b c : Option Refusal) → row_refusal K.setup.schema K.features.rows e ≡ a → standing_refusal K.features e ≡ b → link_refusal (setting K.setup) K.features e ≡ c
      → refusal_of K e ≡ first_refusal (a ∷ b ∷ c ∷ [])
  of_three a b c p q r = λ i. first_refusal (p i ∷ q i ∷ r i ∷ [])

  pub row_good : IsRowEdit e → row_refusal K.setup.schema K.features.rows e ≡ None → standing_refusal K.features e ≡ None → refusal_of K e ≡ None
  row_good word p q = of_three None None None p q (row_alone (setting K.setup) K.features e word)

  pub row_bad : (r : Refusal) → row_refusal K.setup.schema K.features.rows e ≡ Some r → refusal_of K e ≡ Some r
  row_bad r p = of_three (Some r) _ _ p refl refl

  pub standing_bad : (r : Refusal) → row_refusal K.setup.schema K.features.rows e ≡ None → standing_refusal K.features e ≡ Some r → refusal_of K e ≡ Some r
  standing_bad r p q = of_three None (Some r) _ p q refl

  link_alone : IsLinkEdit e → (row_refusal K.setup.schema K.features.rows e ≡ None) × (standing_refusal K.features e ≡ None)
  link_alone = go e
    where
      go : (e : Edit) → IsLinkEdit e → (row_refusal K.setup.schema K.features.rows e ≡ None) × (standing_refusal K.features e ≡ None)
      go (edit.Connect from to) word = (refl, refl)
      go (edit.Contain container content) word = (refl, refl)
      go (edit.Attach structure content) word = (refl, refl)
      go (edit.Detach assoc) word = (refl, refl)
      go (edit.Controller id terminal tier subnet) word = (refl, refl)
      go (edit.Uncontroller id terminal) word = (refl, refl)
      go _ word = absurd word

  pub link_refused : IsLinkEdit e → (d : Option Refusal) → link_refusal (setting K.setup) K.features e ≡ d → refusal_of K e ≡ d
  link_refused word d r = let none = link_alone word in of_three None None d none.0 none.1 r ∙ alone_is d
    where
      alone_is : (d : Option Refusal) → first_refusal (None ∷ None ∷ d ∷ []) ≡ d
      alone_is None = refl
      alone_is (Some r) = refl

-- ---- what an edit leaves

pub edited_known : (K : Known) (ids : NextIds) (moment : ℕ) (e : Edit) → IsKnown K → AreNew (next_at ids moment) K.features
    → MayBeMade (setting K.setup) (next_at ids moment) K.features e → IsKnown (edited K ids moment e)
edited_known K ids moment e is new may = record {
  sound = keeps_sound (setting K.setup) (next_at ids moment) K.features e is.sound new may;
  attributes = changed_has (setting K.setup) (next_at ids moment) K.features e is.attributes;
}
