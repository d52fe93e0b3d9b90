-- An edit of a row for which no refusal is due leaves one that fits its kind, and may be made.
use Rattle.std.proofs.Common.{◌≡◌, ℕ, ◌<◌, ◌≢◌, ℤ, All, List, [], ◌∷◌, length, Option, Some, None, IsSome, Bool, true, false, not, ◌&&◌, refl, sym, ap, ◌∙◌, subst}
use Rattle.std.specs.Prelude.{position, is_some, option_and_then}
use Rattle.std.proofs.lemmas.List.Elements.{All-nil}
use Rattle.std.proofs.lemmas.List.Quantifiers.{position-Some}
use Rattle.un_schema.specs.declared.kind.Class.{Class}
use Rattle.un_schema.specs.declared.kind.Class.TheVariants.{Device, Junction, Line, Assembly, Structure}
use Rattle.un_schema.specs.declared.kind.Kind.{Kind}
use Rattle.un_schema.specs.Catalog.{Catalog, kind_at, kind_named, config_of, path_named, same_text}
use Rattle.un_schema.specs.Sound.{IsCatalog}
use Rattle.un_defs.specs.declared.row.Row.{Row}
use Rattle.un_defs.specs.declared.edit.Edit.{Edit}
use Rattle.un_defs.specs.declared.edit.Edit.TheVariants as edit
use Rattle.un_defs.specs.declared.refusal.Refusal.{Refusal}
use Rattle.un_defs.specs.declared.refusal.Refusal.TheVariants as refusal
use Rattle.un_defs.specs.Features.{Features, is_end_of}
use Rattle.un_defs.specs.Sound.{FitsKind}
use Rattle.un_defs.specs.Change.{Setting, Next, moved, on_path, of_kind as row_of_kind}
use Rattle.un_defs.specs.Laws.{StillFits, MayBeMade}
use Rattle.un_store.specs.Keyed.{row_with}
use Rattle.un_store.specs.Refusals.{refusal_of, first_refusal, refused_if, no_kind, of_kind, no_row, of_row, bad_shape, other_class, no_path, same_class, is_device}
use Rattle.un_store.specs.Edits.{next_of, only_rows, HasPaths, IsOfRow}
use Rattle.un_store.specs.Fitting.{EditFitsLaw, MayBeMadeLaw}
use Rattle.un_store.proofs.Makings.{some_at, moved_fits, kind_fits, path_fits, fits_alone}
use Rattle.un_store.proofs.Fitting.{none_refused, config_is, some_terminals, has_first, shape_count, insert_fits}

-- a refusal that is not due where a test fails: the test holds
holds : (b : Bool) (r : Refusal) → refused_if (not b) r ≡ None → b ≡ true
holds true r e = refl
holds false r e = let none : Some r ≡ None = e in cc

both_hold : (a b : Bool) → a && b ≡ true → b ≡ true
both_hold true b e = e
both_hold false b e = let no : false ≡ true = e in cc

same_is : (a b : Class) → same_class a b ≡ true → a ≡ b
same_is Device Device e = refl
same_is Junction Junction e = refl
same_is Line Line e = refl
same_is Assembly Assembly e = refl
same_is Structure Structure e = refl
same_is _ _ e = cc

pub has_paths : (S : Catalog) → IsCatalog S → HasPaths S
has_paths S is = λ i d h. (is.configs i d h).named

-- a name that is found is that of a kind
kind_within : (test : Kind → Bool) (kinds : List Kind) (k : ℕ) → position test kinds ≡ Some k → k < length kinds
kind_within test [] k e = cc
kind_within test (x ∷ xs) k e = (position-Some test (x ∷ xs) k x e).0

module _ (S : Catalog) (id moment : ℕ) (rows : List Row) (is : IsCatalog S) (fitting : All (FitsKind S) rows) (key base : ℕ) where
  reshape_fits : (points : List (List ℤ)) → first_refusal (no_row rows key base ∷ of_row rows key (λ r. bad_shape r.class points) ∷ []) ≡ None
      → StillFits S (only_rows rows) key (moved (next_of id moment) points)
  reshape_fits points cause r at =
      let behind_row = none_refused (no_row rows key base) _ cause in
      let shape = none_refused (of_row rows key (λ r. bad_shape r.class points)) [] behind_row.1 in
      let of_row_is : of_row rows key (λ r. bad_shape r.class points) ≡ bad_shape r.class points = ap (option_and_then (λ r. bad_shape r.class points)) at in
      let count = shape_count r.class points (sym of_row_is ∙ shape.0) in
      moved_fits S id moment rows fitting key r at points count.0 count.1 r at

  -- the kind that the edit names has the class of the row
  to_kind_fits : (name : List ℕ) (k : ℕ) (r : Row) → kind_named S name ≡ Some k → row_with rows key ≡ Some r
      → of_kind S name (λ kind. of_row rows key (other_class kind)) ≡ None → FitsKind S (row_of_kind S (next_of id moment) k r)
  to_kind_fits name k r named at cause = of_kind_at (kind_at S k) refl (some_at S.kinds k (kind_within (λ kind. same_text name kind.name) S.kinds k named))
    where
      of_number : option_and_then (λ kind. of_row rows key (other_class kind)) (kind_at S k) ≡ None
      of_number = sym (ap (option_and_then (λ k. option_and_then (λ kind. of_row rows key (other_class kind)) (kind_at S k))) named) ∙ cause

      of_kind_at : (o : Option Kind) → kind_at S k ≡ o → IsSome o → FitsKind S (row_of_kind S (next_of id moment) k r)
      of_kind_at None e some = let no : false ≡ true = some in cc
      of_kind_at (Some kind) e some =
          let of_kind_is : of_row rows key (other_class kind) ≡ None = sym (ap (option_and_then (λ kind. of_row rows key (other_class kind))) e) ∙ of_number in
          let of_row_is : other_class kind r ≡ None = sym (ap (option_and_then (other_class kind)) at) ∙ of_kind_is in
          let same = same_is kind.class r.class (holds (same_class kind.class r.class) refusal.WrongKind of_row_is) in
          let config = config_is S is k in
          kind_fits S id moment rows fitting key r at name k kind named e same (some_terminals (config_of S k) config) (has_first (config_of S k) config) k named r at

  other_kind_fits : (name : List ℕ) → first_refusal (no_row rows key base ∷ no_kind S name ∷ of_kind S name (λ kind. of_row rows key (other_class kind)) ∷ []) ≡ None
      → (k : ℕ) → kind_named S name ≡ Some k → StillFits S (only_rows rows) key (row_of_kind S (next_of id moment) k)
  other_kind_fits name cause k named r at =
      let behind_row = none_refused (no_row rows key base) _ cause in
      let behind_name = none_refused (no_kind S name) _ behind_row.1 in
      let class = none_refused (of_kind S name (λ kind. of_row rows key (other_class kind))) [] behind_name.1 in
      to_kind_fits name k r named at class.0

  other_path_fits : (name : List ℕ) → first_refusal (no_row rows key base ∷ of_row rows key (no_path S name) ∷ []) ≡ None
      → StillFits S (only_rows rows) key (on_path S (next_of id moment) name)
  other_path_fits name cause r at = of_path (path_named S r.kind name) refl there
    where
      there : is_some (path_named S r.kind name) ≡ true
      there =
          let behind_row = none_refused (no_row rows key base) _ cause in
          let path = none_refused (of_row rows key (no_path S name)) [] behind_row.1 in
          let of_row_is : no_path S name r ≡ None = sym (ap (option_and_then (no_path S name)) at) ∙ path.0 in
          both_hold (is_device r.class) (is_some (path_named S r.kind name)) (holds (is_device r.class && is_some (path_named S r.kind name)) refusal.BadPath of_row_is)

      of_path : (o : Option ℕ) → path_named S r.kind name ≡ o → is_some o ≡ true → FitsKind S (on_path S (next_of id moment) name r)
      of_path None e some = let no : false ≡ true = some in cc
      of_path (Some path) e some = path_fits S id moment rows fitting key r at name path (has_paths S is) e r at

pub edit_fits : EditFitsLaw
edit_fits S id moment rows (edit.Insert name points attrs flow ends note) is fitting word cause = insert_fits S id moment rows (edit.Insert name points attrs flow ends note) is tt cause
edit_fits S id moment rows (edit.Reshape key base points) is fitting word cause = reshape_fits S id moment rows is fitting key base points cause
edit_fits S id moment rows (edit.Kind key base name) is fitting word cause = other_kind_fits S id moment rows is fitting key base name cause
edit_fits S id moment rows (edit.Path key base name) is fitting word cause = other_path_fits S id moment rows is fitting key base name cause
edit_fits S id moment rows _ is fitting word cause = absurd word

-- what fits by the rows may be made of the network
fit_made : (T : Setting) (next : Next) (F : Features) (e : Edit) → IsCatalog T.catalog → All (FitsKind T.catalog) F.rows → IsOfRow e
    → refusal_of T.catalog F.rows e ≡ None → MayBeMade T next F e
fit_made T next F e is fitting word cause = fits_alone T next F e word (edit_fits T.catalog next.feature next.moment F.rows e is fitting word cause)

pub may_be_made : MayBeMadeLaw
may_be_made T next F (edit.Insert name points attrs flow ends note) is fitting no_association no_controller word cause = fit_made T next F (edit.Insert name points attrs flow ends note) is fitting tt cause
may_be_made T next F (edit.Reshape key base points) is fitting no_association no_controller word cause = fit_made T next F (edit.Reshape key base points) is fitting tt cause
may_be_made T next F (edit.Attrs key base attrs) is fitting no_association no_controller word cause = tt
may_be_made T next F (edit.Kind key base name) is fitting no_association no_controller word cause = fit_made T next F (edit.Kind key base name) is fitting tt cause
may_be_made T next F (edit.Path key base name) is fitting no_association no_controller word cause = fit_made T next F (edit.Path key base name) is fitting tt cause
may_be_made T next F (edit.Flow key base flow) is fitting no_association no_controller word cause = tt
may_be_made T next F (edit.Ends key base ends) is fitting no_association no_controller word cause = tt
may_be_made T next F (edit.Note key base note) is fitting no_association no_controller word cause = tt
may_be_made T next F (edit.Delete key base) is fitting no_association no_controller word cause = record {
  associations = subst (All (λ a. is_end_of key a ≡ false)) (sym no_association) (All-nil (λ a. is_end_of key a ≡ false));
  controllers = subst (All (λ c. c.port.feature ≢ key)) (sym no_controller) (All-nil (λ c. c.port.feature ≢ key));
}
may_be_made T next F _ is fitting no_association no_controller word cause = absurd word
