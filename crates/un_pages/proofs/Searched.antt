-- What a binary search among ordered keys finds.
use Rattle.std.proofs.Common.{◌≡◌, ℕ, zero, suc, ◌-◌, ◌<◌, ◌≤◌, false, List, [], ◌∷◌, ◌++◌, length, take, drop, slice_get, get_or, Some, None, Option, Result, Ok, Err, IfOk, IfErr, IfSome, refl, sym, ◌∙◌, ap, subst, arith}
use Rattle.std.specs.declared.cmp.Ordering.{Ordering}
use Rattle.std.specs.declared.cmp.Ordering.TheVariants.{Less, Equal, Greater}
use Rattle.std.specs.declared.sync.Arc.{Arc}
use Rattle.std.specs.Ordering.{is_lt, ordering_reverse, ordering_index}
use Rattle.std.specs.Cmp.{IsTotalOrder}
use Rattle.std.specs.List.{AllWithin}
use Rattle.std.specs.List.Sorted.{IsStrictlySortedBy, IsSortedBy, IsNonDecreasingBy, IsBinarySearchResult, IsSearchInRange}
use Rattle.std.proofs.lemmas.List.Sorted.{searchable_from_sorted}
use Rattle.std.proofs.lemmas.List.{length-map}
use native.Mathlib.Numerals.{unary_clauses}
use Rattle.un_pages.specs.Pairs.{pairs_of, IsOrdered, IsAbove, IsBelow, IsFound, IsGap, IsPlace}
use Rattle.un_pages.proofs.Ordered.{below_pair, below_higher, above_first, ordered-right}
use Rattle.un_pages.proofs.Rows.{around}

-- an entry, as the row shows it
pub pairs_of_at : {K X Z : Type 0} (l : List (K × Arc X Z)) (i : ℕ) (x : K × Arc X Z) → i < length l → x ≡ get_or l i x → slice_get (pairs_of l) i ≡ Some (x.0, x.1.value)
pairs_of_at [] i x h e = absurd (omega arith)
pairs_of_at (y ∷ l) zero x h e = ap (λ z. Some (z.0, z.1.value)) (sym e)
pairs_of_at (y ∷ l) (suc i) x h e = pairs_of_at l i x (omega arith) e

pub length_pairs_of : {K X Z : Type 0} (l : List (K × Arc X Z)) → length (pairs_of l) ≡ length l
length_pairs_of l = length-map l _

module _ {K X : Type 0} {cmp : K → K → Ordering} (o : IsTotalOrder cmp) (key : K) where
  above_equal : (a : K) (xs : List (K × X)) → cmp key a ≡ Equal → IsAbove cmp a xs → IsAbove cmp key xs
  above_equal a [] e s = tt
  above_equal a (x ∷ xs) e s = (o.congr key a x.0 e ∙ s.0, above_equal a xs e s.1)

  found_here : (row : List (K × X)) (i : ℕ) (x : K × X) → IsOrdered cmp row → slice_get row i ≡ Some x → cmp key x.0 ≡ Equal → i < length row → IsFound cmp row key i
  found_here row i x s here e within =
      let s' : IsOrdered cmp (take i row ++ x ∷ drop (suc i) row) = subst (IsOrdered cmp) (around row i x here) s in
      let lower : is_lt (cmp key x.0) ≡ false = ap is_lt e in
      record {
        within = within;
        before = below_higher o x.0 key (take i row) (below_pair o (take i row) x (drop (suc i) row) s') lower;
        equal = subst (λ q. IfSome q (λ p. cmp key p.0 ≡ Equal)) (sym here) e;
        after = above_equal x.0 (drop (suc i) row) e (above_first o x (drop (suc i) row) (ordered-right o (take i row) (x ∷ drop (suc i) row) s'));
      }

module _ {K X Z : Type 0} {cmp : K → K → Ordering} (o : IsTotalOrder cmp) (key : K) where
  below_within : (l : List (K × Arc X Z)) (i : ℕ) → AllWithin (λ p. cmp p.0 key ≡ Less) l 0 i → i ≤ length l → IsBelow cmp (take i (pairs_of l)) key
  below_within [] zero h b = tt
  below_within [] (suc i) h b = tt
  below_within (x ∷ l) zero h b = tt
  below_within (x ∷ l) (suc i) h b = (h 0 x (omega arith) (omega arith), below_within l i (λ k d low high. h (suc k) d (omega arith) (omega arith)) (omega arith))

  above_within : (l : List (K × Arc X Z)) (i : ℕ) → AllWithin (λ p. cmp p.0 key ≡ Greater) l i (length l) → IsAbove cmp key (drop i (pairs_of l))
  above_within [] zero h = tt
  above_within [] (suc i) h = tt
  above_within (x ∷ l) zero h = (o.antisymm key x.0 ∙ ap ordering_reverse (h 0 x (omega arith) (omega arith)), above_within l zero (λ k d low high. h (suc k) d (omega arith) (omega arith)))
  above_within (x ∷ l) (suc i) h = above_within l i (λ k d low high. h (suc k) d (omega arith) (omega arith))

  adjacent : (l : List (K × Arc X Z)) → IsOrdered cmp (pairs_of l) → IsSortedBy (λ a b. is_lt (cmp a.0 b.0)) l
  unfolding IsStrictlySortedBy
  adjacent [] s k d low high = absurd (omega arith)
  adjacent (x ∷ []) s k d low high = absurd (omega arith)
  adjacent (x ∷ y ∷ l) s zero d low high = ap is_lt (o.antisymm y.0 x.0 ∙ ap ordering_reverse s.0.0)
  adjacent (x ∷ y ∷ l) s (suc k) d low high =
      let h = simp unary_clauses at (adjacent (y ∷ l) s.1 k d (omega arith) (omega arith)) in
      simp unary_clauses h

  rising : (l : List (K × Arc X Z)) → IsOrdered cmp (pairs_of l) → IsNonDecreasingBy (λ p. ordering_index (cmp p.0 key)) l
  rising l s = searchable_from_sorted o (λ p. p.0) l key (adjacent l s)

  get_or_any : (l : List (K × Arc X Z)) (i : ℕ) → i < length l → (x : K × Arc X Z) × (x ≡ get_or l i x)
  get_or_any [] i h = absurd (omega arith)
  get_or_any (y ∷ l) zero h = (y, refl)
  get_or_any (y ∷ l) (suc i) h = get_or_any l i (omega arith)

  -- a binary search ends at the key, or at the gap for it
  pub searched : (l : List (K × Arc X Z)) → IsOrdered cmp (pairs_of l) → (r : Result ℕ ℕ) → IsSearchInRange r (length l) → IsBinarySearchResult (λ p. cmp p.0 key) l r → IfOk r (IsFound cmp (pairs_of l) key) × IfErr r (IsGap cmp (pairs_of l) key)
  searched l s (Ok i) range result =
      let x = get_or_any l i range in
      let e : cmp x.0.0 key ≡ Equal = subst (λ p. cmp p.0 key ≡ Equal) (sym x.1) (result x.0) in
      (found_here o key (pairs_of l) i (x.0.0, x.0.1.value) s (pairs_of_at l i x.0 range x.1) (o.antisymm key x.0.0 ∙ ap ordering_reverse e) (omega (arith, length_pairs_of l)), tt)
  searched l s (Err i) range result =
      let p = result (rising l s) in (
        tt,
        record {
          within = omega (arith, length_pairs_of l);
          before = below_within l i (λ k d low high. p.0 k d low high) range;
          after = above_within l i (λ k d low high. p.1 k d low high);
        },
      )

-- where a key was found, or where its gap is, tells the part that may have it
module _ {K X : Type 0} {cmp : K → K → Ordering} (o : IsTotalOrder cmp) (key : K) where
  pub place_found : (row : List (K × X)) (i : ℕ) → IsFound cmp row key i → IsPlace cmp row key i
  place_found row i f = record { within = f.within; reached = λ _. reach (slice_get row i) f.equal; after = f.after }
    where
      reach : (q : Option (K × X)) → IfSome q (λ p. cmp key p.0 ≡ Equal) → IfSome q (λ p. is_lt (cmp key p.0) ≡ false)
      reach None h = tt
      reach (Some p) h = ap is_lt h

  above_tail : (row : List (K × X)) (i : ℕ) → IsAbove cmp key (drop i row) → IsAbove cmp key (drop (suc i) row)
  above_tail [] zero a = tt
  above_tail [] (suc i) a = tt
  above_tail (x ∷ row) zero a = a.1
  above_tail (x ∷ row) (suc i) a = above_tail row i a

  last_below : (row : List (K × X)) (i : ℕ) → IsBelow cmp (take (suc i) row) key → IfSome (slice_get row i) (λ p. is_lt (cmp key p.0) ≡ false)
  last_below [] i b = tt
  last_below (x ∷ row) zero b = ap is_lt (o.antisymm key x.0 ∙ ap ordering_reverse b.0)
  last_below (x ∷ row) (suc i) b = last_below row i b.1

  pub place_first : (row : List (K × X)) → IsGap cmp row key 0 → 0 < length row → IsPlace cmp row key 0
  place_first row gap some = record { within = some; reached = λ h. absurd (omega arith); after = above_tail row 0 gap.after }

  pub place_gap : (row : List (K × X)) (i : ℕ) → IsGap cmp row key (suc i) → IsPlace cmp row key i
  place_gap row i gap = record { within = omega (arith, gap.within); reached = λ h. last_below row i gap.before; after = gap.after }

  pub place_before : (row : List (K × X)) (i : ℕ) → (i ≡ 0 → ⊥) → IsGap cmp row key i → IsPlace cmp row key (i - 1)
  place_before row zero h gap = absurd (h refl)
  place_before row (suc i) h gap = subst (IsPlace cmp row key) {x = i} (omega arith) (place_gap row i gap)
