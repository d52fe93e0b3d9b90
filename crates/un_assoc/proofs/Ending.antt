-- The associations by their ends: one more, one less, and those of one feature.
use Rattle.std.proofs.Common.{◌≡◌, ◌≢◌, ℕ, ◌<◌, Bool, true, false, not, ◌==◌, ◌&&◌, ◌||◌, List, [], ◌∷◌, ◌++◌, map, find, All, Some, None, cond, refl, sym, ◌∙◌, ap, subst, arith, eqb-true, append_assoc}
use Rattle.std.proofs.lemmas.Bool.Decides.{nat_tests}
use Rattle.std.proofs.lemmas.List.{append-nil}
use Rattle.std.proofs.lemmas.List.Elements.{recursion_from_All}
use Rattle.std.specs.declared.cmp.Ordering.{Ordering}
use Rattle.std.specs.declared.cmp.Ordering.TheVariants.{Less, Equal, Greater}
use Rattle.std.specs.Ordering.{is_eq, match_ordering}
use Rattle.std.specs.Cmp.{IsTotalOrder}
use Rattle.std.specs.Prelude.{slice_get}
use Rattle.std.specs.declared.ops.Bound.TheVariants.{Included}
use Rattle.std.proofs.lemmas.List.Sums.{take_while-cons}
use Rattle.std.specs.List.{filter, take_while, AllByRecursion}
use Rattle.std.specs.List.Sorted.{IsStrictlySortedBy}
use Rattle.std.specs.Map.{values_of, remove_entry}
use Rattle.std.specs.BTreeMap.{is_at, insert_entry}
use Rattle.un_pages.specs.Pairs.{IsOrdered, IsAbove, from_on}
use Rattle.un_pages.proofs.Ordered.{above_lower, above_first}
use Rattle.un_defs.specs.declared.assoc.Assoc.{Assoc}
use Rattle.un_defs.specs.Features.{is_end_of, by_id}
use Rattle.un_defs.specs.Orders.{rising}
use Rattle.un_assoc.specs.declared.ends.End.{End}
use Rattle.un_assoc.specs.Indexes.{at_feature, AreEnds, IsRising}
use Rattle.un_assoc.proofs.PairKeys.{pair_cmp, pair_total, pair_tie, pair_same, pair_above, run_from, run_none, run_other, run_begun}
use Rattle.un_assoc.proofs.Lists.{others, split, filter_swapped, filter_twice, filter_last, filter_passed, all_filtered, rising_filtered, rising_already}

-- ends compare by feature, then by association
abbrev pub end_cmp : End → End → Ordering
end_cmp = pair_cmp (λ (e : End). e.feature) (λ (e : End). e.assoc)

pub end_total : IsTotalOrder end_cmp
end_total = pair_total (λ (e : End). e.feature) (λ (e : End). e.assoc)

end_tie : (a b : End) → end_cmp a b ≡ Equal → a ≡ b
end_tie a b e =
    let parts = pair_tie (λ (e : End). e.feature) (λ (e : End). e.assoc) a b e in
    let features : a.feature ≡ b.feature = parts.0 in
    let ids : a.assoc ≡ b.assoc = parts.1 in
    λ i. record { feature = features i; assoc = ids i }

end_same : (a b : End) → is_eq (end_cmp a b) ≡ ((b.feature == a.feature) && (b.assoc == a.assoc))
end_same = pair_same (λ (e : End). e.feature) (λ (e : End). e.assoc)

end_above : (a b : End) → end_cmp a b ≡ Less → b.feature ≡ a.feature → a.assoc < b.assoc
end_above = pair_above (λ (e : End). e.feature) (λ (e : End). e.assoc)

is_Equal : (r : Ordering) → is_eq r ≡ true → r ≡ Equal
is_Equal Less t = cc
is_Equal Equal t = refl
is_Equal Greater t = cc

itself : (n : ℕ) → (n == n) ≡ true
itself n = grind (arith, nat_tests)

-- the pairs of a feature
abbrev pairs_at : ℕ → List (End × Assoc) → List (End × Assoc)
pairs_at f = filter (λ p. p.0.feature == f)

-- each stands under its own id
abbrev AreOwn : List (End × Assoc) → Type 0
AreOwn ps = map (λ p. p.0.assoc) ps ≡ map (λ p. p.1.id) ps

head_own : (p : End × Assoc) (ps : List (End × Assoc)) → AreOwn (p ∷ ps) → p.0.assoc ≡ p.1.id
head_own p ps e = cc

tail_own : (p : End × Assoc) (ps : List (End × Assoc)) → AreOwn (p ∷ ps) → AreOwn ps
tail_own p ps e = cc

-- ---- one end more

module _ (k : End) where
  -- each has a smaller id
  abbrev AreBelow : List (End × Assoc) → Type 0
  AreBelow = AllByRecursion (λ p. p.0.assoc < k.assoc)

  none_past : (ps : List (End × Assoc)) → IsAbove end_cmp k ps → AreBelow (pairs_at k.feature ps) → pairs_at k.feature ps ≡ []
  none_past [] a b = refl
  none_past (p ∷ ps) a b = by (p.0.feature == k.feature) refl b (none_past ps a.1)
    where
      by : (t : Bool) → (p.0.feature == k.feature) ≡ t → AreBelow (cond t (p ∷ pairs_at k.feature ps) (pairs_at k.feature ps)) → (AreBelow (pairs_at k.feature ps) → pairs_at k.feature ps ≡ [])
          → cond t (p ∷ pairs_at k.feature ps) (pairs_at k.feature ps) ≡ []
      by true t b ih = let over : k.assoc < p.0.assoc = end_above k p.0 a.0 (eqb-true p.0.feature k.feature t) in let under : p.0.assoc < k.assoc = b.0 in absurd (omega arith)
      by false t b ih = ih b

  module _ (v : Assoc) where
    insert_here : (ps : List (End × Assoc)) → IsOrdered end_cmp ps → AreBelow (pairs_at k.feature ps) → at_feature k.feature (insert_entry end_cmp ps k v) ≡ at_feature k.feature ps ++ v ∷ []
    unfolding IsStrictlySortedBy
    insert_here [] s b = ap (λ t. values_of (cond t ((k, v) ∷ []) [])) (itself k.feature)
    insert_here (p ∷ ps) s b = by (end_cmp k p.0) refl (insert_here ps s.1)
      where
        there : (t : Bool) → AreBelow (cond t (p ∷ pairs_at k.feature ps) (pairs_at k.feature ps)) → (AreBelow (pairs_at k.feature ps) → at_feature k.feature (insert_entry end_cmp ps k v) ≡ at_feature k.feature ps ++ v ∷ [])
            → values_of (cond t (p ∷ pairs_at k.feature (insert_entry end_cmp ps k v)) (pairs_at k.feature (insert_entry end_cmp ps k v))) ≡ values_of (cond t (p ∷ pairs_at k.feature ps) (pairs_at k.feature ps)) ++ v ∷ []
        there true b ih = ap (λ l. p.1 ∷ l) (ih b.1)
        there false b ih = ih b

        same_below : (t : Bool) → t ≡ true → p.0.assoc ≡ k.assoc → AreBelow (cond t (p ∷ pairs_at k.feature ps) (pairs_at k.feature ps)) → ⊥
        same_below true t e b = let under : p.0.assoc < k.assoc = b.0 in omega arith
        same_below false t e b = cc

        by : (r : Ordering) → end_cmp k p.0 ≡ r → (AreBelow (pairs_at k.feature ps) → at_feature k.feature (insert_entry end_cmp ps k v) ≡ at_feature k.feature ps ++ v ∷ [])
            → at_feature k.feature (match_ordering r ((k, v) ∷ p ∷ ps) ((p.0, v) ∷ ps) (p ∷ insert_entry end_cmp ps k v)) ≡ at_feature k.feature (p ∷ ps) ++ v ∷ []
        by Less e ih =
            let none : pairs_at k.feature (p ∷ ps) ≡ [] = none_past (p ∷ ps) (e, above_lower end_total k p.0 ps e s.0) b in
            ap (λ t. values_of (cond t ((k, v) ∷ pairs_at k.feature (p ∷ ps)) (pairs_at k.feature (p ∷ ps)))) (itself k.feature)
            ∙ ap (λ l. v ∷ values_of l) none ∙ sym (ap (λ l. values_of l ++ v ∷ []) none)
        by Equal e ih =
            let one : k ≡ p.0 = end_tie k p.0 e in
            absurd (same_below (p.0.feature == k.feature) (ap (λ x. x.feature == k.feature) (sym one) ∙ itself k.feature) (sym (ap (λ x. x.assoc) one)) b)
        by Greater e ih = there (p.0.feature == k.feature) b ih

    insert_elsewhere : (f : ℕ) → (k.feature == f) ≡ false → (ps : List (End × Assoc)) → pairs_at f (insert_entry end_cmp ps k v) ≡ pairs_at f ps
    insert_elsewhere f off [] = ap (λ t. cond t ((k, v) ∷ []) []) off
    insert_elsewhere f off (p ∷ ps) = by (end_cmp k p.0) refl (insert_elsewhere f off ps)
      where
        by : (r : Ordering) → end_cmp k p.0 ≡ r → pairs_at f (insert_entry end_cmp ps k v) ≡ pairs_at f ps
            → pairs_at f (match_ordering r ((k, v) ∷ p ∷ ps) ((p.0, v) ∷ ps) (p ∷ insert_entry end_cmp ps k v)) ≡ pairs_at f (p ∷ ps)
        by Less e ih = ap (λ t. cond t ((k, v) ∷ pairs_at f (p ∷ ps)) (pairs_at f (p ∷ ps))) off
        by Equal e ih =
            let there : (p.0.feature == f) ≡ false = ap (λ x. x.feature == f) (sym (end_tie k p.0 e)) ∙ off in
            ap (λ t. cond t ((p.0, v) ∷ pairs_at f ps) (pairs_at f ps)) there ∙ sym (ap (λ t. cond t (p ∷ pairs_at f ps) (pairs_at f ps)) there)
        by Greater e ih = ap (λ l. cond (p.0.feature == f) (p ∷ l) l) ih

    insert_own : (ps : List (End × Assoc)) → v.id ≡ k.assoc → AreOwn ps → AreOwn (insert_entry end_cmp ps k v)
    insert_own [] own e = ap (λ n. n ∷ []) (sym own)
    insert_own (p ∷ ps) own e = by (end_cmp k p.0) refl (insert_own ps own (tail_own p ps e))
      where
        by : (r : Ordering) → end_cmp k p.0 ≡ r → AreOwn (insert_entry end_cmp ps k v) → AreOwn (match_ordering r ((k, v) ∷ p ∷ ps) ((p.0, v) ∷ ps) (p ∷ insert_entry end_cmp ps k v))
        by Less c ih = ap (λ n. n ∷ map (λ q. q.0.assoc) (p ∷ ps)) (sym own) ∙ ap (λ l. v.id ∷ l) e
        by Equal c ih = ap (λ n. n ∷ map (λ q. q.0.assoc) ps) (sym (ap (λ x. x.assoc) (end_tie k p.0 c)) ∙ sym own) ∙ ap (λ l. v.id ∷ l) (tail_own p ps e)
        by Greater c ih = ap (λ n. n ∷ map (λ q. q.0.assoc) (insert_entry end_cmp ps k v)) (head_own p ps e) ∙ ap (λ l. p.1.id ∷ l) ih

-- ids below another are those of pairs below it
below_own : (k : End) (f : ℕ) (ps : List (End × Assoc)) → AreOwn ps → AllByRecursion (λ a. a.id < k.assoc) (at_feature f ps) → AllByRecursion (λ p. p.0.assoc < k.assoc) (pairs_at f ps)
below_own k f [] e h = tt
below_own k f (p ∷ ps) e h = by (p.0.feature == f) h (below_own k f ps (tail_own p ps e))
  where
    by : (t : Bool) → AllByRecursion (λ a. a.id < k.assoc) (values_of (cond t (p ∷ pairs_at f ps) (pairs_at f ps)))
        → (AllByRecursion (λ a. a.id < k.assoc) (at_feature f ps) → AllByRecursion (λ p. p.0.assoc < k.assoc) (pairs_at f ps))
        → AllByRecursion (λ p. p.0.assoc < k.assoc) (cond t (p ∷ pairs_at f ps) (pairs_at f ps))
    by true h ih = let own = head_own p ps e in let low : p.1.id < k.assoc = h.0 in (omega arith, ih h.1)
    by false h ih = ih h

-- ---- one association more

-- where an association stands at one of its ends
abbrev pub end_at : ℕ → Assoc → End
end_at f a = record { feature = f; assoc = a.id }

pub one_more : (a : Assoc) (associations : List Assoc) (ps qs rs : List (End × Assoc)) → AreEnds ps associations → All (λ b. b.id < a.id) associations
    → a.from.feature ≢ a.to.feature → IsOrdered end_cmp ps → IsOrdered end_cmp qs
    → qs ≡ insert_entry end_cmp ps (end_at a.from.feature a) a → rs ≡ insert_entry end_cmp qs (end_at a.to.feature a) a → AreEnds rs (associations ++ a ∷ [])
one_more a associations ps qs rs are over apart s t q r = record {
  ends = λ id. by id (a.from.feature == id) (a.to.feature == id) refl refl;
  ids = ap (λ l. map (λ p. p.0.assoc) l) r ∙ insert_own (end_at a.to.feature a) a qs refl own ∙ sym (ap (λ l. map (λ p. p.1.id) l) r);
}
  where
    own : AreOwn qs
    own = ap (λ l. map (λ p. p.0.assoc) l) q ∙ insert_own (end_at a.from.feature a) a ps refl are.ids ∙ sym (ap (λ l. map (λ p. p.1.id) l) q)

    low : (f : ℕ) → AllByRecursion (λ b. b.id < a.id) (at_feature f ps)
    low f = subst (AllByRecursion (λ b. b.id < a.id)) (sym (are.ends f)) (all_filtered (λ b. b.id < a.id) (is_end_of f) associations (recursion_from_All (λ b. b.id < a.id) associations over))

    at_from : at_feature a.from.feature qs ≡ at_feature a.from.feature ps ++ a ∷ []
    at_from = ap (at_feature a.from.feature) q ∙ insert_here (end_at a.from.feature a) a ps s (below_own (end_at a.from.feature a) a.from.feature ps are.ids (low a.from.feature))

    kept_first : (f : ℕ) → (a.from.feature == f) ≡ false → pairs_at f qs ≡ pairs_at f ps
    kept_first f e = ap (pairs_at f) q ∙ insert_elsewhere (end_at a.from.feature a) a f e ps

    kept_second : (f : ℕ) → (a.to.feature == f) ≡ false → pairs_at f rs ≡ pairs_at f qs
    kept_second f e = ap (pairs_at f) r ∙ insert_elsewhere (end_at a.to.feature a) a f e qs

    not_from : (a.from.feature == a.to.feature) ≡ false
    not_from = grind (arith, nat_tests)

    at_to : at_feature a.to.feature rs ≡ at_feature a.to.feature ps ++ a ∷ []
    at_to =
        ap (at_feature a.to.feature) r
        ∙ insert_here (end_at a.to.feature a) a qs t (subst (AllByRecursion (λ p. p.0.assoc < a.id)) (sym (kept_first a.to.feature not_from)) (below_own (end_at a.to.feature a) a.to.feature ps are.ids (low a.to.feature)))
        ∙ ap (λ l. values_of l ++ a ∷ []) (kept_first a.to.feature not_from)

    by : (id : ℕ) (m n : Bool) → (a.from.feature == id) ≡ m → (a.to.feature == id) ≡ n → at_feature id rs ≡ filter (is_end_of id) (associations ++ a ∷ [])
    by id true true e g = absurd (apart (eqb-true a.from.feature id e ∙ sym (eqb-true a.to.feature id g)))
    by id true false e g =
        let end : is_end_of id a ≡ true = ap (λ b. b || (a.to.feature == id)) e in
        ap values_of (kept_second id g) ∙ subst (λ f. at_feature f qs ≡ at_feature f ps ++ a ∷ []) (eqb-true a.from.feature id e) at_from
        ∙ ap (λ l. l ++ a ∷ []) (are.ends id) ∙ sym (filter_last (is_end_of id) associations a true end)
    by id false true e g =
        let end : is_end_of id a ≡ true = ap (λ b. b || (a.to.feature == id)) e ∙ g in
        subst (λ f. at_feature f rs ≡ at_feature f ps ++ a ∷ []) (eqb-true a.to.feature id g) at_to
        ∙ ap (λ l. l ++ a ∷ []) (are.ends id) ∙ sym (filter_last (is_end_of id) associations a true end)
    by id false false e g =
        let end : is_end_of id a ≡ false = ap (λ b. b || (a.to.feature == id)) e ∙ g in
        ap values_of (kept_second id g ∙ kept_first id e) ∙ are.ends id
        ∙ sym (filter_last (is_end_of id) associations a false end ∙ append-nil (filter (is_end_of id) associations))

-- ---- one end less

module _ (k : End) where
  kept_here : (ps : List (End × Assoc)) → AreOwn ps → IsAbove end_cmp k ps → others k.assoc (at_feature k.feature ps) ≡ at_feature k.feature ps
  kept_here [] e a = refl
  kept_here (p ∷ ps) e a = by (p.0.feature == k.feature) refl (kept_here ps (tail_own p ps e) a.1)
    where
      by : (t : Bool) → (p.0.feature == k.feature) ≡ t → others k.assoc (at_feature k.feature ps) ≡ at_feature k.feature ps
          → others k.assoc (values_of (cond t (p ∷ pairs_at k.feature ps) (pairs_at k.feature ps))) ≡ values_of (cond t (p ∷ pairs_at k.feature ps) (pairs_at k.feature ps))
      by true t ih =
          let over : k.assoc < p.0.assoc = end_above k p.0 a.0 (eqb-true p.0.feature k.feature t) in
          let own = head_own p ps e in
          let other : (p.1.id == k.assoc) ≡ false = grind (arith, nat_tests) in
          ap (λ b. cond (not b) (p.1 ∷ others k.assoc (at_feature k.feature ps)) (others k.assoc (at_feature k.feature ps))) other ∙ ap (λ l. p.1 ∷ l) ih
      by false t ih = ih

  remove_here : (ps : List (End × Assoc)) → IsOrdered end_cmp ps → AreOwn ps → at_feature k.feature (remove_entry (is_at (end_cmp k)) ps) ≡ others k.assoc (at_feature k.feature ps)
  unfolding IsStrictlySortedBy
  remove_here [] s e = refl
  remove_here (p ∷ ps) s e = by (is_eq (end_cmp k p.0)) refl (remove_here ps s.1 (tail_own p ps e))
    where
      there : (t : Bool) → (p.0.feature == k.feature) ≡ t → is_eq (end_cmp k p.0) ≡ false
          → at_feature k.feature (remove_entry (is_at (end_cmp k)) ps) ≡ others k.assoc (at_feature k.feature ps)
          → values_of (cond t (p ∷ pairs_at k.feature (remove_entry (is_at (end_cmp k)) ps)) (pairs_at k.feature (remove_entry (is_at (end_cmp k)) ps)))
          ≡ others k.assoc (values_of (cond t (p ∷ pairs_at k.feature ps) (pairs_at k.feature ps)))
      there true t c ih =
          let other : (p.1.id == k.assoc) ≡ false = ap (λ n. n == k.assoc) (sym (head_own p ps e)) ∙ ap (λ b. b && (p.0.assoc == k.assoc)) (sym t) ∙ sym (end_same k p.0) ∙ c in
          ap (λ l. p.1 ∷ l) ih
          ∙ sym (ap (λ b. cond (not b) (p.1 ∷ others k.assoc (at_feature k.feature ps)) (others k.assoc (at_feature k.feature ps))) other)
      there false t c ih = ih

      by : (b : Bool) → is_eq (end_cmp k p.0) ≡ b → at_feature k.feature (remove_entry (is_at (end_cmp k)) ps) ≡ others k.assoc (at_feature k.feature ps)
          → at_feature k.feature (cond b ps (p ∷ remove_entry (is_at (end_cmp k)) ps)) ≡ others k.assoc (at_feature k.feature (p ∷ ps))
      by true c ih =
          let one : k ≡ p.0 = end_tie k p.0 (is_Equal (end_cmp k p.0) c) in
          let here : (p.0.feature == k.feature) ≡ true = ap (λ x. x.feature == k.feature) (sym one) ∙ itself k.feature in
          let gone : (p.1.id == k.assoc) ≡ true = ap (λ n. n == k.assoc) (sym (head_own p ps e)) ∙ ap (λ x. x.assoc == k.assoc) (sym one) ∙ itself k.assoc in
          let above : IsAbove end_cmp k ps = subst (λ n. IsAbove end_cmp n ps) (sym one) (above_first end_total p ps s) in
          sym (kept_here ps (tail_own p ps e) above)
          ∙ sym (ap (λ b. cond (not b) (p.1 ∷ others k.assoc (at_feature k.feature ps)) (others k.assoc (at_feature k.feature ps))) gone)
          ∙ sym (ap (λ t. others k.assoc (values_of (cond t (p ∷ pairs_at k.feature ps) (pairs_at k.feature ps)))) here)
      by false c ih = there (p.0.feature == k.feature) refl c ih

  remove_elsewhere : (f : ℕ) → (k.feature == f) ≡ false → (ps : List (End × Assoc)) → pairs_at f (remove_entry (is_at (end_cmp k)) ps) ≡ pairs_at f ps
  remove_elsewhere f off [] = refl
  remove_elsewhere f off (p ∷ ps) = by (is_eq (end_cmp k p.0)) refl (remove_elsewhere f off ps)
    where
      by : (b : Bool) → is_eq (end_cmp k p.0) ≡ b → pairs_at f (remove_entry (is_at (end_cmp k)) ps) ≡ pairs_at f ps
          → pairs_at f (cond b ps (p ∷ remove_entry (is_at (end_cmp k)) ps)) ≡ pairs_at f (p ∷ ps)
      by true c ih =
          let there : (p.0.feature == f) ≡ false = ap (λ x. x.feature == f) (sym (end_tie k p.0 (is_Equal (end_cmp k p.0) c))) ∙ off in
          sym (ap (λ t. cond t (p ∷ pairs_at f ps) (pairs_at f ps)) there)
      by false c ih = ap (λ l. cond (p.0.feature == f) (p ∷ l) l) ih

  remove_own : (ps : List (End × Assoc)) → AreOwn ps → AreOwn (remove_entry (is_at (end_cmp k)) ps)
  remove_own [] e = refl
  remove_own (p ∷ ps) e = elim (is_eq (end_cmp k p.0)) as (λ b. AreOwn (cond b ps (p ∷ remove_entry (is_at (end_cmp k)) ps))) [
    | true ↦ tail_own p ps e
    | false ↦ ap (λ n. n ∷ map (λ q. q.0.assoc) (remove_entry (is_at (end_cmp k)) ps)) (head_own p ps e) ∙ ap (λ l. p.1.id ∷ l) (remove_own ps (tail_own p ps e))
  ]

-- ---- one association less

pub one_less : (a : Assoc) (associations : List Assoc) (ps qs rs : List (End × Assoc)) → AreEnds ps associations → IsRising associations
    → find (λ b. b.id == a.id) associations ≡ Some a → IsOrdered end_cmp ps → IsOrdered end_cmp qs
    → qs ≡ remove_entry (is_at (end_cmp (end_at a.from.feature a))) ps → rs ≡ remove_entry (is_at (end_cmp (end_at a.to.feature a))) qs → AreEnds rs (others a.id associations)
one_less a associations ps qs rs are rises here s t q r = record {
  ends = λ id. by id (a.from.feature == id) (a.to.feature == id) refl refl;
  ids = ap (λ l. map (λ p. p.0.assoc) l) r ∙ remove_own (end_at a.to.feature a) qs own ∙ sym (ap (λ l. map (λ p. p.1.id) l) r);
}
  where
    own : AreOwn qs
    own = ap (λ l. map (λ p. p.0.assoc) l) q ∙ remove_own (end_at a.from.feature a) ps are.ids ∙ sym (ap (λ l. map (λ p. p.1.id) l) q)

    kept_first : (f : ℕ) → (a.from.feature == f) ≡ false → at_feature f qs ≡ at_feature f ps
    kept_first f e = ap (at_feature f) q ∙ ap values_of (remove_elsewhere (end_at a.from.feature a) f e ps)

    kept_second : (f : ℕ) → (a.to.feature == f) ≡ false → at_feature f rs ≡ at_feature f qs
    kept_second f e = ap (at_feature f) r ∙ ap values_of (remove_elsewhere (end_at a.to.feature a) f e qs)

    less_first : (f : ℕ) → (a.from.feature == f) ≡ true → at_feature f qs ≡ others a.id (at_feature f ps)
    less_first f e = subst (λ f. at_feature f qs ≡ others a.id (at_feature f ps)) (eqb-true a.from.feature f e) (ap (at_feature a.from.feature) q ∙ remove_here (end_at a.from.feature a) ps s are.ids)

    less_second : (f : ℕ) → (a.to.feature == f) ≡ true → at_feature f rs ≡ others a.id (at_feature f qs)
    less_second f e = subst (λ f. at_feature f rs ≡ others a.id (at_feature f qs)) (eqb-true a.to.feature f e) (ap (at_feature a.to.feature) r ∙ remove_here (end_at a.to.feature a) qs t own)

    left : (f : ℕ) → others a.id (at_feature f ps) ≡ filter (is_end_of f) (others a.id associations)
    left f = ap (others a.id) (are.ends f) ∙ filter_swapped (λ b. not (b.id == a.id)) (is_end_of f) associations

    by : (id : ℕ) (m n : Bool) → (a.from.feature == id) ≡ m → (a.to.feature == id) ≡ n → at_feature id rs ≡ filter (is_end_of id) (others a.id associations)
    by id true true e g = less_second id g ∙ ap (others a.id) (less_first id e) ∙ filter_twice (λ b. not (b.id == a.id)) (at_feature id ps) ∙ left id
    by id true false e g = kept_second id g ∙ less_first id e ∙ left id
    by id false true e g = less_second id g ∙ ap (others a.id) (kept_first id e) ∙ left id
    by id false false e g =
        let off : is_end_of id a ≡ false = ap (λ b. b || (a.to.feature == id)) e ∙ g in
        kept_second id g ∙ kept_first id e ∙ are.ends id ∙ sym (filter_passed (is_end_of id) associations a (split a associations rises here) off)

-- ---- those of one feature

-- by rising id they are those of which it is an end
pub ends_of : (associations : List Assoc) (ps : List (End × Assoc)) → AreEnds ps associations → IsRising associations → (id : ℕ) → at_feature id ps ≡ rising by_id (filter (is_end_of id) associations)
ends_of associations ps are rises id = are.ends id ∙ sym (rising_already (filter (is_end_of id) associations) (rising_filtered (is_end_of id) associations rises))

module _ (f : ℕ) (ps rest : List (End × Assoc)) (s : IsOrdered end_cmp ps) (is : rest ≡ from_on end_cmp (Included (record { feature = f; assoc = 0 })) ps) where
  pub run_of : values_of (take_while (λ p. p.0.feature == f) rest) ≡ at_feature f ps
  run_of = ap values_of (run_from (λ (e : End). e.feature) (λ (e : End). e.assoc) f (record { feature = f; assoc = 0 }) refl refl ps rest s is)

  pub first_none : rest ≡ [] → slice_get (at_feature f ps) 0 ≡ None
  first_none e = ap (λ l. slice_get (values_of l) 0) (run_none (λ (e : End). e.feature) (λ (e : End). e.assoc) f (record { feature = f; assoc = 0 }) refl refl ps rest s is e)

  pub first_other : (p : End × Assoc) (more : List (End × Assoc)) → rest ≡ p ∷ more → p.0.feature ≢ f → slice_get (at_feature f ps) 0 ≡ None
  first_other p more e other =
      let test : (p.0.feature == f) ≡ false = grind (arith, nat_tests) in
      ap (λ l. slice_get (values_of l) 0) (run_other (λ (e : End). e.feature) (λ (e : End). e.assoc) f (record { feature = f; assoc = 0 }) refl refl ps rest s is p more e test)

  pub first_one : (p : End × Assoc) (more : List (End × Assoc)) → rest ≡ p ∷ more → p.0.feature ≡ f → slice_get (at_feature f ps) 0 ≡ Some p.1
  first_one p more e same =
      let test : (p.0.feature == f) ≡ true = grind (arith, nat_tests) in
      ap (λ l. slice_get (values_of l) 0) (run_begun (λ (e : End). e.feature) (λ (e : End). e.assoc) f (record { feature = f; assoc = 0 }) refl refl ps rest s is p more e test)

-- one step along the run
pub run_on : (f : ℕ) (found : List Assoc) (rest more : List (End × Assoc)) (p : End × Assoc) (whole : List Assoc) → rest ≡ p ∷ more → p.0.feature ≡ f
    → found ++ values_of (take_while (λ p. p.0.feature == f) rest) ≡ whole → (found ++ p.1 ∷ []) ++ values_of (take_while (λ p. p.0.feature == f) more) ≡ whole
run_on f found rest more p whole e same before =
    let test : (p.0.feature == f) ≡ true = grind (arith, nat_tests) in
    append_assoc found (p.1 ∷ []) (values_of (take_while (λ p. p.0.feature == f) more))
    ∙ ap (λ l. found ++ values_of l)
    (sym (ap (take_while (λ p. p.0.feature == f)) e ∙ take_while-cons (λ p. p.0.feature == f) p more
    ∙ ap (λ b. cond b (p ∷ take_while (λ p. p.0.feature == f) more) []) test))
    ∙ before

pub run_over : (f : ℕ) (found : List Assoc) (rest more : List (End × Assoc)) (p : End × Assoc) (whole : List Assoc) → rest ≡ p ∷ more → p.0.feature ≢ f
    → found ++ values_of (take_while (λ p. p.0.feature == f) rest) ≡ whole → found ≡ whole
run_over f found rest more p whole e other before =
    let test : (p.0.feature == f) ≡ false = grind (arith, nat_tests) in
    sym (append-nil found)
    ∙ ap (λ l. found ++ values_of l)
    (sym (ap (take_while (λ p. p.0.feature == f)) e ∙ take_while-cons (λ p. p.0.feature == f) p more
    ∙ ap (λ b. cond b (p ∷ take_while (λ p. p.0.feature == f) more) []) test))
    ∙ before
