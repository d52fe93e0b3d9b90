-- A row on which nothing stands is alone.
use Rattle.std.proofs.Common.{◌≡◌, ◌≢◌, ◌==◌, ℕ, Bool, true, false, List, [], ◌∷◌, filter, Option, None, Some, refl, sym, ◌∙◌, subst, true≢false, eq-eqb}
use Rattle.std.specs.Prelude.{slice_get}
use Rattle.std.specs.List.{list_any}
use Rattle.std.specs.declared.cmp.Ordering.{Ordering}
use Rattle.std.specs.declared.cmp.Ordering.TheVariants.{Less, Equal, Greater}
use Rattle.std.specs.Ordering.{match_ordering}
use Rattle.std.specs.Option.{option_map}
use Rattle.std.specs.BTreeSet.{insert_key}
use Rattle.un_defs.specs.declared.refusal.Refusal.{Refusal}
use Rattle.un_defs.specs.declared.refusal.Refusal.TheVariants as refusal
use Rattle.un_defs.specs.declared.edit.Edit.TheVariants as edit
use Rattle.un_defs.specs.Orders.{rising}
use Rattle.un_defs.specs.Features.{Features, is_end_of, by_id, associations_of}
use Rattle.un_defs.specs.Laws.{IsAlone}
use Rattle.un_defs.proofs.Rising.{Among}
use Rattle.un_defs.proofs.Members.{among-filter}
use Rattle.un_defs.proofs.Near.{false_unless}
use Rattle.un_defs.proofs.ListLemmas.{none_passes}
use Rattle.un_defs.specs.Refusing.{refused_if}
use Rattle.un_defs.proofs.KeepsSound.{all_from}
use Rattle.un_store.proofs.Fitting.{none_refused}
use Rattle.un_facts.specs.Refusals.{has_associations, has_controllers, standing_refusal}

module _ {A : Type 0} (cmp : A → A → Ordering) where
  -- a list to which an element was added has a first
  added_first : (ys : List A) (x : A) → slice_get (insert_key cmp ys x) 0 ≡ None → ⊥
  added_first [] x e = let none : Some x ≡ None = e in cc
  added_first (y ∷ ys) x e = go (cmp x y) e
    where
      go : (k : Ordering) → slice_get (match_ordering k (x ∷ y ∷ ys) (y ∷ ys) (y ∷ insert_key cmp ys x)) 0 ≡ None → ⊥
      go Less e = let none : Some x ≡ None = e in cc
      go Equal e = let none : Some y ≡ None = e in cc
      go Greater e = let none : Some y ≡ None = e in cc

  -- a list that has no least element has none
  none_least : (xs : List A) → slice_get (rising cmp xs) 0 ≡ None → xs ≡ []
  none_least [] e = refl
  none_least (x ∷ xs) e = absurd (added_first (rising cmp xs) x e)

pub unmapped : {A : Type 0} (f : A → Refusal) (o : Option A) → option_map f o ≡ None → o ≡ None
unmapped f None e = refl
unmapped f (Some x) e = let none : Some (f x) ≡ None = e in cc

pub fails : (b : Bool) (r : Refusal) → refused_if b r ≡ None → b ≡ false
fails true r e = let none : Some r ≡ None = e in cc
fails false r e = refl

module _ (F : Features) (id : ℕ) where
  no_ends : has_associations F id ≡ None → filter (is_end_of id) F.associations ≡ []
  no_ends e = none_least by_id (filter (is_end_of id) F.associations) (unmapped (λ a. refusal.HasAssociations a.id) (slice_get (associations_of F id) 0) e)

  no_controllers : has_controllers F id ≡ None → list_any (λ c. c.port.feature == id) F.controllers ≡ false
  no_controllers = fails (list_any (λ c. c.port.feature == id) F.controllers) refusal.HasControllers

  pub alone : (base : ℕ) → standing_refusal F (edit.Delete id base) ≡ None → IsAlone F id
  alone base e =
      let ends = none_refused (has_associations F id) (has_controllers F id ∷ []) e in
      let controllers = none_refused (has_controllers F id) [] ends.1 in
      record {
        associations = all_from (λ a. is_end_of id a ≡ false) F.associations (λ a h.
            false_unless (is_end_of id a) (λ t. subst (λ l. Among l a) (no_ends ends.0) (among-filter (is_end_of id) F.associations a h t)));
        controllers = all_from (λ c. c.port.feature ≢ id) F.controllers (λ c h e.
            true≢false (sym (eq-eqb c.port.feature id e) ∙ none_passes (λ c. c.port.feature == id) F.controllers (no_controllers controllers.0) c h));
      }
