-- Look-ups in a map, in what is left of it by a test, and once a pair was put in or taken out.
use Rattle.std.proofs.Common.{◌≡◌, Bool, true, false, cond, List, [], ◌∷◌, filter, Some, None, refl, sym, ◌∙◌, ap, subst, true≢false}
use Rattle.std.specs.declared.cmp.Ordering.{Ordering}
use Rattle.std.specs.declared.cmp.Ordering.TheVariants.{Less, Equal, Greater}
use Rattle.std.specs.Ordering.{is_eq, match_ordering}
use Rattle.std.specs.Cmp.{Equal-is}
use Rattle.std.specs.List.{AllByRecursion}
use Rattle.std.specs.List.Sorted.{IsStrictlySortedBy}
use Rattle.std.specs.Map.{lookup, remove_entry, keys_of}
use Rattle.std.specs.BTreeMap.{is_at, insert_entry}
use Rattle.std.specs.Option.{is_some}
use Rattle.un_pages.specs.Pairs.{IsOrdered, IsAbove}

-- ---- the pairs that pass a test

module _ {K V : Type 0} (test : K × V → Bool) where
  pub kept_keys : (P : K → Type 0) (m : List (K × V)) → AllByRecursion P (keys_of m) → AllByRecursion P (keys_of (filter test m))
  kept_keys P [] h = tt
  kept_keys P (x ∷ m) h = elim (test x) as (λ b. AllByRecursion P (keys_of (cond b (x ∷ filter test m) (filter test m)))) [ true ↦ (h.0, kept_keys P m h.1) | false ↦ kept_keys P m h.1 ]

  pub kept_ordered : (cmp : K → K → Ordering) (m : List (K × V)) → IsOrdered cmp m → IsOrdered cmp (filter test m)
  unfolding IsStrictlySortedBy
  kept_ordered cmp [] s = tt
  kept_ordered cmp (x ∷ m) s = elim (test x) as (λ b. IsOrdered cmp (cond b (x ∷ filter test m) (filter test m))) [ true ↦ (kept_keys (λ k. cmp x.0 k ≡ Less) m s.0, kept_ordered cmp m s.1) | false ↦ kept_ordered cmp m s.1 ]

pub all_pass : {K V : Type 0} (test : K → Bool) (m : List (K × V)) → AllByRecursion (λ k. test k ≡ true) (keys_of (filter (λ p. test p.0) m))
all_pass test [] = tt
all_pass test (x ∷ m) = by (test x.0) refl (all_pass test m)
  where
    by : (b : Bool) → test x.0 ≡ b → AllByRecursion (λ k. test k ≡ true) (keys_of (filter (λ p. test p.0) m))
        → AllByRecursion (λ k. test k ≡ true) (keys_of (cond b (x ∷ filter (λ p. test p.0) m) (filter (λ p. test p.0) m)))
    by true e ih = (e, ih)
    by false e ih = ih

-- ---- look-ups

module _ {K V : Type 0} (cmp : K → K → Ordering) where
  pub put_here : ((k : K) → cmp k k ≡ Equal) → (p : K) (v : V) (m : List (K × V)) → lookup (is_at (cmp p)) (insert_entry cmp m p v) ≡ Some v
  put_here itself p v [] = ap (λ o. cond (is_eq o) (Some v) None) (itself p)
  put_here itself p v (x ∷ m) = by (cmp p x.0) refl (put_here itself p v m)
    where
      by : (o : Ordering) → cmp p x.0 ≡ o → lookup (is_at (cmp p)) (insert_entry cmp m p v) ≡ Some v
          → lookup (is_at (cmp p)) (match_ordering o ((p, v) ∷ x ∷ m) ((x.0, v) ∷ m) (x ∷ insert_entry cmp m p v)) ≡ Some v
      by Less e ih = ap (λ o. cond (is_eq o) (Some v) (lookup (is_at (cmp p)) (x ∷ m))) (itself p)
      by Equal e ih = ap (λ o. cond (is_eq o) (Some v) (lookup (is_at (cmp p)) m)) e
      by Greater e ih = ap (λ o. cond (is_eq o) (Some x.1) (lookup (is_at (cmp p)) (insert_entry cmp m p v))) e ∙ ih

  module _ (same : (p q : K) → cmp p q ≡ Equal → p ≡ q) (p q : K) where
    pub put_elsewhere : (v : V) (m : List (K × V)) → is_eq (cmp q p) ≡ false → lookup (is_at (cmp q)) (insert_entry cmp m p v) ≡ lookup (is_at (cmp q)) m
    put_elsewhere v [] h = ap (λ b. cond b (Some v) None) h
    put_elsewhere v (x ∷ m) h = by (cmp p x.0) refl (put_elsewhere v m h)
      where
        by : (o : Ordering) → cmp p x.0 ≡ o → lookup (is_at (cmp q)) (insert_entry cmp m p v) ≡ lookup (is_at (cmp q)) m
            → lookup (is_at (cmp q)) (match_ordering o ((p, v) ∷ x ∷ m) ((x.0, v) ∷ m) (x ∷ insert_entry cmp m p v)) ≡ lookup (is_at (cmp q)) (x ∷ m)
        by Less e ih = ap (λ b. cond b (Some v) (lookup (is_at (cmp q)) (x ∷ m))) h
        by Equal e ih =
            let off : is_eq (cmp q x.0) ≡ false = subst (λ k. is_eq (cmp q k) ≡ false) (same p x.0 e) h in
            ap (λ b. cond b (Some v) (lookup (is_at (cmp q)) m)) off ∙ sym (ap (λ b. cond b (Some x.1) (lookup (is_at (cmp q)) m)) off)
        by Greater e ih = ap (cond (is_eq (cmp q x.0)) (Some x.1)) ih

    pub taken_elsewhere : (m : List (K × V)) → is_eq (cmp q p) ≡ false → lookup (is_at (cmp q)) (remove_entry (is_at (cmp p)) m) ≡ lookup (is_at (cmp q)) m
    taken_elsewhere [] h = refl
    taken_elsewhere (x ∷ m) h = by (is_eq (cmp p x.0)) refl (taken_elsewhere m h)
      where
        by : (b : Bool) → is_eq (cmp p x.0) ≡ b → lookup (is_at (cmp q)) (remove_entry (is_at (cmp p)) m) ≡ lookup (is_at (cmp q)) m
            → lookup (is_at (cmp q)) (cond b m (x ∷ remove_entry (is_at (cmp p)) m)) ≡ lookup (is_at (cmp q)) (x ∷ m)
        by true e ih =
            let off : is_eq (cmp q x.0) ≡ false = subst (λ k. is_eq (cmp q k) ≡ false) (same p x.0 ((Equal-is (cmp p x.0)).0 e)) h in
            sym (ap (λ b. cond b (Some x.1) (lookup (is_at (cmp q)) m)) off)
        by false e ih = ap (cond (is_eq (cmp q x.0)) (Some x.1)) ih

    -- a key that is there is over each key below them all
    pub found_above : (m : List (K × V)) → IsAbove cmp p m → is_some (lookup (is_at (cmp q)) m) ≡ true → cmp p q ≡ Less
    found_above [] h e = absurd (true≢false (sym e))
    found_above (x ∷ m) h e = by (is_eq (cmp q x.0)) refl (found_above m h.1) e
      where
        by : (b : Bool) → is_eq (cmp q x.0) ≡ b → (is_some (lookup (is_at (cmp q)) m) ≡ true → cmp p q ≡ Less)
            → is_some (cond b (Some x.1) (lookup (is_at (cmp q)) m)) ≡ true → cmp p q ≡ Less
        by true t ih e = subst (λ k. cmp p k ≡ Less) (sym (same q x.0 ((Equal-is (cmp q x.0)).0 t))) h.0
        by false t ih e = ih e

  -- a key that passes is looked up in the pairs that pass as in all
  pub found_kept : ((p q : K) → cmp p q ≡ Equal → p ≡ q) → (test : K → Bool) (q : K) (m : List (K × V)) → test q ≡ true
      → lookup (is_at (cmp q)) (filter (λ p. test p.0) m) ≡ lookup (is_at (cmp q)) m
  found_kept same test q [] t = refl
  found_kept same test q (x ∷ m) t = by (test x.0) refl (is_eq (cmp q x.0)) refl (found_kept same test q m t)
    where
      by : (c : Bool) → test x.0 ≡ c → (b : Bool) → is_eq (cmp q x.0) ≡ b → lookup (is_at (cmp q)) (filter (λ p. test p.0) m) ≡ lookup (is_at (cmp q)) m
          → lookup (is_at (cmp q)) (cond c (x ∷ filter (λ p. test p.0) m) (filter (λ p. test p.0) m)) ≡ cond b (Some x.1) (lookup (is_at (cmp q)) m)
      by true f b e ih = ap (λ b. cond b (Some x.1) (lookup (is_at (cmp q)) (filter (λ p. test p.0) m))) e ∙ ap (cond b (Some x.1)) ih
      by false f true e ih = absurd (true≢false (sym t ∙ ap test (same q x.0 ((Equal-is (cmp q x.0)).0 e)) ∙ f))
      by false f false e ih = ih
