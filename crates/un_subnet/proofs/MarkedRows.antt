-- The rows that are gathered are those that the changes make dirty.
use Rattle.std.proofs.Common.{◌≡◌, ℕ, Bool, true, ◌==◌, ◌||◌, List, [], ◌∷◌, map, flat_map, inl, inr, if◌then◌else◌, refl, sym, ◌∙◌, ap, subst}
use Rattle.std.proofs.lemmas.List.Elements.{recursion_from_All, All-from_recursion}
use Rattle.std.proofs.lemmas.List.Folds.{list_any-append}
use Rattle.std.specs.Ordering.{nat_cmp}
use Rattle.std.specs.List.{list_any, AllByRecursion}
use Rattle.std.specs.List.Sorted.{IsStrictlySortedBy}
use Rattle.std.specs.Map.{values_of}
use Rattle.un_geom.specs.declared.point.Point.{Point}
use Rattle.un_geom.specs.Places.{point_cmp, same_point}
use Rattle.un_pages.specs.Pairs.{IsOrdered}
use Rattle.un_ask.specs.declared.stored.StoredSubnet.{StoredSubnet}
use Rattle.un_conds.specs.Names.{same_text}
use Rattle.un_defs.specs.declared.assoc.Controller.{Controller}
use Rattle.un_defs.specs.Features.{is_of_subnet}
use Rattle.un_defs.proofs.LinkCases.{both_true, true_both}
use Rattle.un_defs.proofs.Rising.{Among}
use Rattle.un_subnet.specs.declared.row_index.Subject.TheVariants.{At}
use Rattle.un_subnet.specs.declared.row_index.Key.{Key}
use Rattle.un_subnet.specs.Changes.{Changed, is_made_dirty}
use Rattle.un_subnet.specs.Outcome.{is_row_of}
use Rattle.un_subnet.specs.Stored.{marked, AreOrdered}
use Rattle.un_subnet.specs.RowIndex.{same_subject, concerns, dirty, numbers_at, numbers_with, changed_numbers, IsIndex, made_in}
use Rattle.un_subnet.proofs.Either.{same_truth}
use Rattle.un_subnet.proofs.Keys.{key_cmp}
use Rattle.un_subnet.proofs.Indexed.{numbers_are, number_itself, same_number}
use Rattle.un_subnet.proofs.Numbered.{own_passes}
use Rattle.un_subnet.proofs.Made.{made_kept}
use Rattle.un_defs.proofs.SameStar.{texts}

pub dirty_ordered : (ns : List ℕ) (rows : List (ℕ × StoredSubnet)) → AreOrdered (values_of rows) → AreOrdered (values_of (made_in dirty ns rows))
dirty_ordered ns rows h =
    All-from_recursion (λ (row : StoredSubnet). IsStrictlySortedBy point_cmp row.points) (values_of (made_in dirty ns rows))
    (made_kept dirty (λ row. IsStrictlySortedBy point_cmp row.points) (λ row is. is) ns rows
    (recursion_from_All (λ (row : StoredSubnet). IsStrictlySortedBy point_cmp row.points) (values_of rows) h))

any_flat : {A B : Type 0} (t : B → Bool) (f : A → List B) (g : A → Bool) → ((x : A) → list_any t (f x) ≡ g x) → (xs : List A) → list_any t (flat_map f xs) ≡ list_any g xs
any_flat t f g same [] = refl
any_flat t f g same (x ∷ xs) = list_any-append t (f x) (flat_map f xs) ∙ ap (λ b. b || list_any t (flat_map f xs)) (same x) ∙ ap (λ b. g x || b) (any_flat t f g same xs)

at_one : {A : Type 0} (P : A → Type 0) (xs : List A) (x : A) → AllByRecursion P xs → Among xs x → P x
at_one P [] x h i = absurd i
at_one P (y ∷ xs) x h (inl e) = subst P e h.0
at_one P (y ∷ xs) x h (inr i) = at_one P xs x h.1 i

-- a point concerns a row that has it
at_points : (p : Point) (points : List Point) → list_any (same_subject (At p)) (map At points) ≡ list_any (same_point p) points
at_points p [] = refl
at_points p (q ∷ points) = ap (λ b. same_point p q || b) (at_points p points)

-- a row is of a controller's subnetwork just where the controller is of the row's
either_subnet : (row : StoredSubnet) (c : Controller) → is_row_of c.tier c.subnet row ≡ is_of_subnet row.tier row.subnet c
either_subnet row c = same_truth (is_row_of c.tier c.subnet row) (is_of_subnet row.tier row.subnet c) to from
  where
    to : is_row_of c.tier c.subnet row ≡ true → is_of_subnet row.tier row.subnet c ≡ true
    to e =
        let parts = both_true (row.tier == c.tier) (same_text c.subnet row.subnet) e in
        true_both (c.tier == row.tier) (same_text row.subnet c.subnet) (subst (λ t. (c.tier == t) ≡ true) (sym (same_number row.tier c.tier parts.0)) (number_itself c.tier))
        ((texts row.subnet c.subnet).1 (sym ((texts c.subnet row.subnet).0 parts.1)))

    from : is_of_subnet row.tier row.subnet c ≡ true → is_row_of c.tier c.subnet row ≡ true
    from e =
        let parts = both_true (c.tier == row.tier) (same_text row.subnet c.subnet) e in
        true_both (row.tier == c.tier) (same_text c.subnet row.subnet) (subst (λ t. (row.tier == t) ≡ true) (sym (same_number c.tier row.tier parts.0)) (number_itself row.tier))
        ((texts c.subnet row.subnet).1 (sym ((texts row.subnet c.subnet).0 parts.1)))

module _ (changes : Changed) (rows : List (ℕ × StoredSubnet)) (keys : List (Key × Unit {0})) (index : IsIndex rows keys) (a : IsOrdered nat_cmp rows) (b : IsOrdered key_cmp keys) where
  gathered : (e : ℕ × StoredSubnet) → Among rows e → list_any (λ n. n == e.0) (changed_numbers rows keys changes) ≡ is_made_dirty e.1.tier e.1.subnet e.1.points changes
  gathered e i =
      list_any-append (λ n. n == e.0) (flat_map (λ p. numbers_at keys (At p)) changes.points) (flat_map (λ c. numbers_with (is_row_of c.tier c.subnet) rows) changes.controllers)
      ∙ ap (λ t. t || list_any (λ n. n == e.0) (flat_map (λ c. numbers_with (is_row_of c.tier c.subnet) rows) changes.controllers))
      (any_flat (λ n. n == e.0) (λ p. numbers_at keys (At p)) (λ p. list_any (same_point p) e.1.points)
      (λ p. ap (list_any (λ n. n == e.0)) (numbers_are (At p) rows keys index a b)
      ∙ at_one (λ e. list_any (λ n. n == e.0) (numbers_with (concerns (At p)) rows) ≡ concerns (At p) e.1) rows e (own_passes (concerns (At p)) rows a) i ∙ at_points p e.1.points) changes.points)
      ∙ ap (λ t. list_any (λ p. list_any (same_point p) e.1.points) changes.points || t)
      (any_flat (λ n. n == e.0) (λ c. numbers_with (is_row_of c.tier c.subnet) rows) (is_of_subnet e.1.tier e.1.subnet)
      (λ c. at_one (λ e. list_any (λ n. n == e.0) (numbers_with (is_row_of c.tier c.subnet) rows) ≡ is_row_of c.tier c.subnet e.1) rows e (own_passes (is_row_of c.tier c.subnet) rows a) i
      ∙ either_subnet e.1 c) changes.controllers)

  pub all_marked : (es : List (ℕ × StoredSubnet)) → ((e : ℕ × StoredSubnet) → Among es e → Among rows e)
      → AllByRecursion (λ e. (if list_any (λ m. m == e.0) (changed_numbers rows keys changes) then dirty e.1 else e.1) ≡ marked changes e.1) es
  all_marked [] all = tt
  all_marked (e ∷ es) all = (ap (λ b. if b then dirty e.1 else e.1) (gathered e (all e (inl refl))), all_marked es (λ x i. all x (inr i)))
