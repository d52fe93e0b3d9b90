-- What a search, an insertion and a removal do in a list of ordered pairs that is put together from parts.
use Rattle.std.proofs.Common.{◌≡◌, true, false, List, [], ◌∷◌, ◌++◌, Some, None, cond, refl, ◌∙◌, ap, arith}
use Rattle.std.specs.declared.cmp.Ordering.{Ordering}
use Rattle.std.specs.declared.cmp.Ordering.TheVariants.{Less, Equal, Greater}
use Rattle.std.specs.Ordering.{is_lt, is_eq, ordering_reverse, match_ordering}
use Rattle.std.specs.Cmp.{IsTotalOrder}
use Rattle.std.specs.List.Sorted.{IsStrictlySortedBy}
use Rattle.std.specs.Map.{lookup, remove_entry}
use Rattle.std.specs.BTreeMap.{insert_entry, is_at}
use Rattle.un_pages.specs.Pairs.{IsOrdered, IsAbove, IsBelow, past}

module _ {K : Type 0} {cmp : K → K → Ordering} (o : IsTotalOrder cmp) where
  -- the other way round
  pub turned : (a b : K) → cmp a b ≡ Less → cmp b a ≡ Greater
  turned a b h = o.antisymm b a ∙ ap ordering_reverse h

  -- below a key that is not above the other
  pub below_upto : (x a key : K) → cmp x a ≡ Less → is_lt (cmp key a) ≡ false → cmp x key ≡ Less
  below_upto x a key h g = by (cmp key a) refl
    where
      by : (r : Ordering) → cmp key a ≡ r → cmp x key ≡ Less
      by Less e = absurd (grind (arith, e, g))
      by Equal e = o.antisymm x key ∙ ap ordering_reverse (o.congr key a x e ∙ o.antisymm a x ∙ ap ordering_reverse h)
      by Greater e = o.trans x a key h (o.antisymm a key ∙ ap ordering_reverse e)

module _ {K V : Type 0} {cmp : K → K → Ordering} (o : IsTotalOrder cmp) where
  pub above-append : (key : K) (xs ys : List (K × V)) → IsAbove cmp key xs → IsAbove cmp key ys → IsAbove cmp key (xs ++ ys)
  above-append key [] ys a b = b
  above-append key (x ∷ xs) ys a b = (a.0, above-append key xs ys a.1 b)

  pub above-left : (key : K) (xs ys : List (K × V)) → IsAbove cmp key (xs ++ ys) → IsAbove cmp key xs
  above-left key [] ys a = tt
  above-left key (x ∷ xs) ys a = (a.0, above-left key xs ys a.1)

  pub above-right : (key : K) (xs ys : List (K × V)) → IsAbove cmp key (xs ++ ys) → IsAbove cmp key ys
  above-right key [] ys a = a
  above-right key (x ∷ xs) ys a = above-right key xs ys a.1

  pub above_lower : (key a : K) (xs : List (K × V)) → cmp key a ≡ Less → IsAbove cmp a xs → IsAbove cmp key xs
  above_lower key a [] h b = tt
  above_lower key a (x ∷ xs) h b = (o.trans key a x.0 h b.0, above_lower key a xs h b.1)

  pub below-append : (key : K) (xs ys : List (K × V)) → IsBelow cmp xs key → IsBelow cmp ys key → IsBelow cmp (xs ++ ys) key
  below-append key [] ys a b = b
  below-append key (x ∷ xs) ys a b = (a.0, below-append key xs ys a.1 b)

  -- what is below a key is below each key that is not lower
  pub below_higher : (a key : K) (xs : List (K × V)) → IsBelow cmp xs a → is_lt (cmp key a) ≡ false → IsBelow cmp xs key
  below_higher a key [] b h = tt
  below_higher a key (x ∷ xs) b h = (below_upto o x.0 a key b.0 h, below_higher a key xs b.1 h)

  -- in an ordered list, what stands before a pair is below its key
  pub below_pair : (xs : List (K × V)) (p : K × V) (ys : List (K × V)) → IsOrdered cmp (xs ++ p ∷ ys) → IsBelow cmp xs p.0
  unfolding IsStrictlySortedBy
  below_pair [] p ys s = tt
  below_pair (x ∷ xs) p ys s = ((above-right x.0 xs (p ∷ ys) s.0).0, below_pair xs p ys s.1)

  pub ordered-left : (xs ys : List (K × V)) → IsOrdered cmp (xs ++ ys) → IsOrdered cmp xs
  unfolding IsStrictlySortedBy
  ordered-left [] ys s = tt
  ordered-left (x ∷ xs) ys s = (above-left x.0 xs ys s.0, ordered-left xs ys s.1)

  pub ordered-right : (xs ys : List (K × V)) → IsOrdered cmp (xs ++ ys) → IsOrdered cmp ys
  unfolding IsStrictlySortedBy
  ordered-right [] ys s = s
  ordered-right (x ∷ xs) ys s = ordered-right xs ys s.1

  pub above_first : (p : K × V) (ys : List (K × V)) → IsOrdered cmp (p ∷ ys) → IsAbove cmp p.0 ys
  unfolding IsStrictlySortedBy
  above_first p ys s = s.0

  module _ (key : K) where
    pub lookup-below : (xs ys : List (K × V)) → IsBelow cmp xs key → lookup (is_at (cmp key)) (xs ++ ys) ≡ lookup (is_at (cmp key)) ys
    lookup-below [] ys b = refl
    lookup-below (x ∷ xs) ys b = rw (turned o x.0 key b.0) (lookup-below xs ys b.1)

    pub lookup_all_above : (ys : List (K × V)) → IsAbove cmp key ys → lookup (is_at (cmp key)) ys ≡ None
    lookup_all_above [] a = refl
    lookup_all_above (y ∷ ys) a = rw a.0 (lookup_all_above ys a.1)

    pub lookup-above : (xs ys : List (K × V)) → IsAbove cmp key ys → lookup (is_at (cmp key)) (xs ++ ys) ≡ lookup (is_at (cmp key)) xs
    lookup-above [] ys a = lookup_all_above ys a
    lookup-above (x ∷ xs) ys a = ap (cond (is_eq (cmp key x.0)) (Some x.1)) (lookup-above xs ys a)

    pub remove-below : (xs ys : List (K × V)) → IsBelow cmp xs key → remove_entry (is_at (cmp key)) (xs ++ ys) ≡ xs ++ remove_entry (is_at (cmp key)) ys
    remove-below [] ys b = refl
    remove-below (x ∷ xs) ys b = rw (turned o x.0 key b.0) (ap (λ l. x ∷ l) (remove-below xs ys b.1))

    pub remove_all_above : (ys : List (K × V)) → IsAbove cmp key ys → remove_entry (is_at (cmp key)) ys ≡ ys
    remove_all_above [] a = refl
    remove_all_above (y ∷ ys) a = rw a.0 (ap (λ l. y ∷ l) (remove_all_above ys a.1))

    pub remove-above : (xs ys : List (K × V)) → IsAbove cmp key ys → remove_entry (is_at (cmp key)) (xs ++ ys) ≡ remove_entry (is_at (cmp key)) xs ++ ys
    remove-above [] ys a = remove_all_above ys a
    remove-above (x ∷ xs) ys a = elim (is_eq (cmp key x.0)) as (λ b. cond b (xs ++ ys) (x ∷ remove_entry (is_at (cmp key)) (xs ++ ys)) ≡ cond b xs (x ∷ remove_entry (is_at (cmp key)) xs) ++ ys) [ true ↦ refl | false ↦ ap (λ l. x ∷ l) (remove-above xs ys a) ]

    pub insert-below : (xs ys : List (K × V)) (v : V) → IsBelow cmp xs key → insert_entry cmp (xs ++ ys) key v ≡ xs ++ insert_entry cmp ys key v
    insert-below [] ys v b = refl
    insert-below (x ∷ xs) ys v b = rw (turned o x.0 key b.0) (ap (λ l. x ∷ l) (insert-below xs ys v b.1))

    pub insert_all_above : (ys : List (K × V)) (v : V) → IsAbove cmp key ys → insert_entry cmp ys key v ≡ (key, v) ∷ ys
    insert_all_above [] v a = refl
    insert_all_above (y ∷ ys) v a = rw a.0 refl

    pub insert-above : (xs ys : List (K × V)) (v : V) → IsAbove cmp key ys → insert_entry cmp (xs ++ ys) key v ≡ insert_entry cmp xs key v ++ ys
    insert-above [] ys v a = insert_all_above ys v a
    insert-above (x ∷ xs) ys v a = elim (cmp key x.0) as (λ r. match_ordering r ((key, v) ∷ x ∷ xs ++ ys) ((x.0, v) ∷ xs ++ ys) (x ∷ insert_entry cmp (xs ++ ys) key v) ≡ match_ordering r ((key, v) ∷ x ∷ xs) ((x.0, v) ∷ xs) (x ∷ insert_entry cmp xs key v) ++ ys) [ Less ↦ refl | Equal ↦ refl | Greater ↦ ap (λ l. x ∷ l) (insert-above xs ys v a) ]

    pub past-below : (xs ys : List (K × V)) → IsBelow cmp xs key → past cmp (Some key) (xs ++ ys) ≡ past cmp (Some key) ys
    past-below [] ys b = refl
    past-below (x ∷ xs) ys b = rw (turned o x.0 key b.0) (past-below xs ys b.1)

    pub past_all_above : (ys : List (K × V)) → IsAbove cmp key ys → past cmp (Some key) ys ≡ ys
    past_all_above [] a = refl
    past_all_above (y ∷ ys) a = rw a.0 (ap (λ l. y ∷ l) (past_all_above ys a.1))

    pub past-above : (xs ys : List (K × V)) → IsAbove cmp key ys → past cmp (Some key) (xs ++ ys) ≡ past cmp (Some key) xs ++ ys
    past-above [] ys a = past_all_above ys a
    past-above (x ∷ xs) ys a = elim (is_lt (cmp key x.0)) as (λ b. cond b (x ∷ past cmp (Some key) (xs ++ ys)) (past cmp (Some key) (xs ++ ys)) ≡ cond b (x ∷ past cmp (Some key) xs) (past cmp (Some key) xs) ++ ys) [ true ↦ ap (λ l. x ∷ l) (past-above xs ys a) | false ↦ past-above xs ys a ]

    -- an insertion and a removal keep what stands below all of it
    pub insert_kept_above : (a : K) (xs : List (K × V)) (v : V) → cmp a key ≡ Less → IsAbove cmp a xs → IsAbove cmp a (insert_entry cmp xs key v)
    insert_kept_above a [] v h s = (h, tt)
    insert_kept_above a (x ∷ xs) v h s = elim (cmp key x.0) as (λ r. IsAbove cmp a (match_ordering r ((key, v) ∷ x ∷ xs) ((x.0, v) ∷ xs) (x ∷ insert_entry cmp xs key v))) [ Less ↦ (h, s) | Equal ↦ s | Greater ↦ (s.0, insert_kept_above a xs v h s.1) ]

    pub insert_ordered : (xs : List (K × V)) (v : V) → IsOrdered cmp xs → IsOrdered cmp (insert_entry cmp xs key v)
    unfolding IsStrictlySortedBy
    insert_ordered [] v s = (tt, tt)
    insert_ordered (x ∷ xs) v s = by (insert_ordered xs v s.1) (cmp key x.0) refl
      where
        by : IsOrdered cmp (insert_entry cmp xs key v) → (r : Ordering) → cmp key x.0 ≡ r → IsOrdered cmp (match_ordering r ((key, v) ∷ x ∷ xs) ((x.0, v) ∷ xs) (x ∷ insert_entry cmp xs key v))
        by ih Less h = ((h, above_lower key x.0 xs h s.0), s)
        by ih Equal h = s
        by ih Greater h = (insert_kept_above x.0 xs v (o.antisymm x.0 key ∙ ap ordering_reverse h) s.0, ih)

    pub remove_kept_above : (a : K) (xs : List (K × V)) → IsAbove cmp a xs → IsAbove cmp a (remove_entry (is_at (cmp key)) xs)
    remove_kept_above a [] s = tt
    remove_kept_above a (x ∷ xs) s = elim (is_eq (cmp key x.0)) as (λ b. IsAbove cmp a (cond b xs (x ∷ remove_entry (is_at (cmp key)) xs))) [ true ↦ s.1 | false ↦ (s.0, remove_kept_above a xs s.1) ]

    pub remove_ordered : (xs : List (K × V)) → IsOrdered cmp xs → IsOrdered cmp (remove_entry (is_at (cmp key)) xs)
    unfolding IsStrictlySortedBy
    remove_ordered [] s = tt
    remove_ordered (x ∷ xs) s = elim (is_eq (cmp key x.0)) as (λ b. IsOrdered cmp (cond b xs (x ∷ remove_entry (is_at (cmp key)) xs))) [ true ↦ s.1 | false ↦ (remove_kept_above x.0 xs s.0, remove_ordered xs s.1) ]
