-- Rows that a change makes dirty, by their numbers.
use Rattle.std.proofs.Common.{◌≡◌, ℕ, ◌<◌, Bool, true, false, ◌==◌, ◌&&◌, ◌||◌, List, [], ◌∷◌, ◌++◌, map, Some, None, if◌then◌else◌, cond, refl, sym, ◌∙◌, ap, subst}
use Rattle.std.proofs.lemmas.List.Folds.{list_any-append}
use Rattle.std.specs.declared.cmp.Ordering.{Ordering}
use Rattle.std.specs.declared.cmp.Ordering.TheVariants.{Less, Equal, Greater}
use Rattle.std.specs.Ordering.{nat_cmp, is_eq, match_ordering}
use Rattle.std.specs.Cmp.{nat_cmp_total}
use Rattle.std.specs.List.{list_any, AllByRecursion}
use Rattle.std.specs.List.Sorted.{IsStrictlySortedBy}
use Rattle.std.specs.Map.{values_of, lookup}
use Rattle.std.specs.BTreeMap.{is_at, insert_entry}
use Rattle.un_pages.specs.Pairs.{IsOrdered, IsAbove}
use Rattle.un_ask.specs.declared.stored.StoredSubnet.{StoredSubnet}
use Rattle.un_subnet.specs.declared.row_index.Key.{Key}
use Rattle.un_subnet.specs.RowIndex.{concerns, is_concerned, made_in}
use Rattle.un_subnet.proofs.Keys.{nat_same, nat_tie, is_equal}

module _ (f : StoredSubnet → StoredSubnet) where
  -- ---- one row

  made_above : (n : ℕ) (rows : List (ℕ × StoredSubnet)) → IsAbove nat_cmp n rows → made_in f (n ∷ []) rows ≡ rows
  made_above n [] a = refl
  made_above n (e ∷ rows) a =
      let off : ((n == e.0) || false) ≡ false = ap (λ b. b || false) (sym (nat_same n e.0) ∙ ap is_eq a.0) in
      ap (λ b. (e.0, if b then f e.1 else e.1) ∷ made_in f (n ∷ []) rows) off ∙ ap (λ l. e ∷ l) (made_above n rows a.1)

  pub made_none : (n : ℕ) (rows : List (ℕ × StoredSubnet)) → lookup (is_at (nat_cmp n)) rows ≡ None → made_in f (n ∷ []) rows ≡ rows
  made_none n [] h = refl
  made_none n (e ∷ rows) h = by (is_eq (nat_cmp n e.0)) refl h (made_none n rows)
    where
      by : (b : Bool) → is_eq (nat_cmp n e.0) ≡ b → cond b (Some e.1) (lookup (is_at (nat_cmp n)) rows) ≡ None
          → (lookup (is_at (nat_cmp n)) rows ≡ None → made_in f (n ∷ []) rows ≡ rows) → made_in f (n ∷ []) (e ∷ rows) ≡ e ∷ rows
      by true t h ih = cc
      by false t h ih =
          let off : ((n == e.0) || false) ≡ false = ap (λ b. b || false) (sym (nat_same n e.0) ∙ t) in
          ap (λ b. (e.0, if b then f e.1 else e.1) ∷ made_in f (n ∷ []) rows) off ∙ ap (λ l. e ∷ l) (ih h)

  module _ (n : ℕ) (v : StoredSubnet) where
    at_number : (e : ℕ × StoredSubnet) (rows : List (ℕ × StoredSubnet)) → is_eq (nat_cmp n e.0) ≡ true → IsAbove nat_cmp e.0 rows → e.1 ≡ v
        → made_in f (n ∷ []) (e ∷ rows) ≡ (e.0, f v) ∷ rows
    at_number e rows t a one =
        let on : ((n == e.0) || false) ≡ true = ap (λ b. b || false) (sym (nat_same n e.0) ∙ t) in
        ap (λ b. (e.0, if b then f e.1 else e.1) ∷ made_in f (n ∷ []) rows) on
        ∙ ap (λ l. (e.0, f e.1) ∷ l) (made_above n rows (subst (λ m. IsAbove nat_cmp m rows) (sym (nat_tie n e.0 (is_equal (nat_cmp n e.0) t))) a))
        ∙ ap (λ w. (e.0, f w) ∷ rows) one

    off_number : (e : ℕ × StoredSubnet) (rows : List (ℕ × StoredSubnet)) → is_eq (nat_cmp n e.0) ≡ false → made_in f (n ∷ []) (e ∷ rows) ≡ e ∷ made_in f (n ∷ []) rows
    off_number e rows t =
        let off : ((n == e.0) || false) ≡ false = ap (λ b. b || false) (sym (nat_same n e.0) ∙ t) in
        ap (λ b. (e.0, if b then f e.1 else e.1) ∷ made_in f (n ∷ []) rows) off

    pub made_same : (rows : List (ℕ × StoredSubnet)) → IsOrdered nat_cmp rows → lookup (is_at (nat_cmp n)) rows ≡ Some v → f v ≡ v → made_in f (n ∷ []) rows ≡ rows
    unfolding IsStrictlySortedBy
    made_same [] s h g = refl
    made_same (e ∷ rows) s h g = by (is_eq (nat_cmp n e.0)) refl h (made_same rows s.1)
      where
        by : (b : Bool) → is_eq (nat_cmp n e.0) ≡ b → cond b (Some e.1) (lookup (is_at (nat_cmp n)) rows) ≡ Some v
            → (lookup (is_at (nat_cmp n)) rows ≡ Some v → f v ≡ v → made_in f (n ∷ []) rows ≡ rows) → made_in f (n ∷ []) (e ∷ rows) ≡ e ∷ rows
        by true t h ih = let one : e.1 ≡ v = cc in at_number e rows t s.0 one ∙ ap (λ w. (e.0, w) ∷ rows) (g ∙ sym one)
        by false t h ih = off_number e rows t ∙ ap (λ l. e ∷ l) (ih h g)

    pub made_put : (rows : List (ℕ × StoredSubnet)) → IsOrdered nat_cmp rows → lookup (is_at (nat_cmp n)) rows ≡ Some v → insert_entry nat_cmp rows n (f v) ≡ made_in f (n ∷ []) rows
    unfolding IsStrictlySortedBy
    made_put [] s h = cc
    made_put (e ∷ rows) s h = by (nat_cmp n e.0) refl h (made_put rows s.1)
      where
        nowhere : (ps : List (ℕ × StoredSubnet)) → nat_cmp n e.0 ≡ Less → IsAbove nat_cmp e.0 ps → lookup (is_at (nat_cmp n)) ps ≡ Some v → ⊥
        nowhere [] l a h = cc
        nowhere (p ∷ ps) l a h =
            let off : is_eq (nat_cmp n p.0) ≡ false = ap is_eq (nat_cmp_total.trans n e.0 p.0 l a.0) in
            nowhere ps l a.1 (sym (ap (λ b. cond b (Some p.1) (lookup (is_at (nat_cmp n)) ps)) off) ∙ h)

        by : (r : Ordering) → nat_cmp n e.0 ≡ r → cond (is_eq r) (Some e.1) (lookup (is_at (nat_cmp n)) rows) ≡ Some v
            → (lookup (is_at (nat_cmp n)) rows ≡ Some v → insert_entry nat_cmp rows n (f v) ≡ made_in f (n ∷ []) rows)
            → match_ordering r ((n, f v) ∷ e ∷ rows) ((e.0, f v) ∷ rows) (e ∷ insert_entry nat_cmp rows n (f v)) ≡ made_in f (n ∷ []) (e ∷ rows)
        by Less t h ih = absurd (nowhere rows t s.0 h)
        by Equal t h ih = let one : e.1 ≡ v = cc in sym (at_number e rows (ap is_eq t) s.0 one)
        by Greater t h ih = ap (λ l. e ∷ l) (ih h) ∙ sym (off_number e rows (ap is_eq t))

  -- ---- several rows

  pub made_nothing : (rows : List (ℕ × StoredSubnet)) → rows ≡ made_in f [] rows
  made_nothing [] = refl
  made_nothing (e ∷ rows) = ap (λ l. e ∷ l) (made_nothing rows)

  -- a row that is made twice is made once
  pub made_more : ((v : StoredSubnet) → f (f v) ≡ f v) → (ns : List ℕ) (n : ℕ) (rows : List (ℕ × StoredSubnet)) → made_in f (n ∷ []) (made_in f ns rows) ≡ made_in f (ns ++ n ∷ []) rows
  made_more once ns n [] = refl
  made_more once ns n (e ∷ rows) =
      ap (λ l. (e.0, if (n == e.0) || false then f (if list_any (λ m. m == e.0) ns then f e.1 else e.1) else (if list_any (λ m. m == e.0) ns then f e.1 else e.1)) ∷ l) (made_more once ns n rows)
      ∙ ap (λ v. (e.0, v) ∷ made_in f (ns ++ n ∷ []) rows)
      (by (list_any (λ m. m == e.0) ns) ((n == e.0) || false) ∙ ap (λ b. if b then f e.1 else e.1) (sym (list_any-append (λ m. m == e.0) ns (n ∷ []))))
    where
      by : (a b : Bool) → (if b then f (if a then f e.1 else e.1) else (if a then f e.1 else e.1)) ≡ (if a || b then f e.1 else e.1)
      by true true = once e.1
      by true false = refl
      by false true = refl
      by false false = refl

  -- what each row keeps, all rows keep
  pub made_kept : (P : StoredSubnet → Type 0) → ((v : StoredSubnet) → P v → P (f v)) → (ns : List ℕ) (rows : List (ℕ × StoredSubnet))
      → AllByRecursion P (values_of rows) → AllByRecursion P (values_of (made_in f ns rows))
  made_kept P keeps ns [] h = tt
  made_kept P keeps ns (e ∷ rows) h = (by (list_any (λ m. m == e.0) ns), made_kept P keeps ns rows h.1)
    where
      by : (b : Bool) → P (if b then f e.1 else e.1)
      by true = keeps e.1 h.0
      by false = h.0

  pub made_below : (ns : List ℕ) (next : ℕ) (rows : List (ℕ × StoredSubnet)) → AllByRecursion (λ e. e.0 < next) rows → AllByRecursion (λ e. e.0 < next) (made_in f ns rows)
  made_below ns next [] h = tt
  made_below ns next (e ∷ rows) h = (h.0, made_below ns next rows h.1)

  -- a change that leaves what concerns the rows leaves the keys
  pub made_concerned : ((q : Key) (v : StoredSubnet) → concerns q.subject (f v) ≡ concerns q.subject v) → (ns : List ℕ) (q : Key) (rows : List (ℕ × StoredSubnet))
      → is_concerned q (made_in f ns rows) ≡ is_concerned q rows
  made_concerned same ns q [] = refl
  made_concerned same ns q (e ∷ rows) =
      ap (λ b. ((q.number == e.0) && b) || is_concerned q (made_in f ns rows)) (by (list_any (λ m. m == e.0) ns))
      ∙ ap (λ b. ((q.number == e.0) && concerns q.subject e.1) || b) (made_concerned same ns q rows)
    where
      by : (b : Bool) → concerns q.subject (if b then f e.1 else e.1) ≡ concerns q.subject e.1
      by true = same q e.1
      by false = refl

  -- all rows, where what is made of each is known
  pub made_all : (g : StoredSubnet → StoredSubnet) (ns : List ℕ) (rows : List (ℕ × StoredSubnet))
      → AllByRecursion (λ e. (if list_any (λ m. m == e.0) ns then f e.1 else e.1) ≡ g e.1) rows → values_of (made_in f ns rows) ≡ map g (values_of rows)
  made_all g ns [] h = refl
  made_all g ns (e ∷ rows) h = ap (λ v. v ∷ values_of (made_in f ns rows)) h.0 ∙ ap (λ l. g e.1 ∷ l) (made_all g ns rows h.1)
