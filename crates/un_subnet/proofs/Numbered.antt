-- Rows under rising numbers: look-ups, one more, one less, and a search.
use Rattle.std.proofs.Common.{◌≡◌, ℕ, ◌<◌, ◌+◌, Bool, true, false, not, ◌==◌, ◌||◌, List, [], ◌∷◌, ◌++◌, map, find, length, Option, Some, None, cond, refl, sym, ◌∙◌, ap, subst, arith, true≢false}
use Rattle.std.proofs.lemmas.Bool.Decides.{nat_tests}
use Rattle.std.specs.declared.cmp.Ordering.TheVariants.{Less, Greater}
use Rattle.std.specs.Ordering.{nat_cmp, is_eq, match_ordering, ordering_reverse}
use Rattle.std.specs.Cmp.{nat_cmp_total, tied_itself}
use Rattle.std.specs.List.{list_any, filter, AllByRecursion}
use Rattle.std.specs.List.Sorted.{IsStrictlySortedBy}
use Rattle.std.specs.Map.{values_of, lookup, remove_entry}
use Rattle.std.specs.Option.{option_map_or, option_map, is_some}
use Rattle.std.specs.BTreeMap.{is_at, insert_entry}
use Rattle.un_pages.specs.Pairs.{IsOrdered, IsAbove}
use Rattle.un_subnet.proofs.Keys.{nat_same}

other : (k n : ℕ) → nat_cmp k n ≡ Less → is_eq (nat_cmp n k) ≡ false
other k n h = ap is_eq (nat_cmp_total.antisymm n k ∙ ap ordering_reverse h)

itself : (n : ℕ) → is_eq (nat_cmp n n) ≡ true
itself n = ap is_eq (tied_itself nat_cmp_total n)

module _ {V : Type 0} where
  -- ---- look-ups

  -- each row stands under its own number
  pub lookups_own : (rows : List (ℕ × V)) → IsOrdered nat_cmp rows → AllByRecursion (λ e. lookup (is_at (nat_cmp e.0)) rows ≡ Some e.1) rows
  unfolding IsStrictlySortedBy
  lookups_own [] s = tt
  lookups_own (e ∷ rows) s = (ap (λ b. cond b (Some e.1) (lookup (is_at (nat_cmp e.0)) rows)) (itself e.0), behind rows s.0 (lookups_own rows s.1))
    where
      behind : (fs : List (ℕ × V)) → IsAbove nat_cmp e.0 fs → AllByRecursion (λ f. lookup (is_at (nat_cmp f.0)) rows ≡ Some f.1) fs
          → AllByRecursion (λ f. lookup (is_at (nat_cmp f.0)) (e ∷ rows) ≡ Some f.1) fs
      behind [] a h = tt
      behind (f ∷ fs) a h = (ap (λ b. cond b (Some e.1) (lookup (is_at (nat_cmp f.0)) rows)) (other e.0 f.0 a.0) ∙ h.0, behind fs a.1 h.1)

  -- ---- one more, one less

  pub insert_last : (n : ℕ) (v : V) (rows : List (ℕ × V)) → AllByRecursion (λ e. e.0 < n) rows → insert_entry nat_cmp rows n v ≡ rows ++ (n, v) ∷ []
  insert_last n v [] h = refl
  insert_last n v (e ∷ rows) h =
      let over : nat_cmp n e.0 ≡ Greater = let below : e.0 < n = h.0 in grind (arith, nat_tests) in
      ap (λ r. match_ordering r ((n, v) ∷ e ∷ rows) ((e.0, v) ∷ rows) (e ∷ insert_entry nat_cmp rows n v)) over ∙ ap (λ l. e ∷ l) (insert_last n v rows h.1)

  pub remove_none : (n : ℕ) (rows : List (ℕ × V)) → lookup (is_at (nat_cmp n)) rows ≡ None → remove_entry (is_at (nat_cmp n)) rows ≡ rows
  remove_none n [] h = refl
  remove_none n (e ∷ rows) h = by (is_eq (nat_cmp n e.0)) h (remove_none n rows)
    where
      by : (b : Bool) → cond b (Some e.1) (lookup (is_at (nat_cmp n)) rows) ≡ None → (lookup (is_at (nat_cmp n)) rows ≡ None → remove_entry (is_at (nat_cmp n)) rows ≡ rows)
          → cond b rows (e ∷ remove_entry (is_at (nat_cmp n)) rows) ≡ e ∷ rows
      by true h ih = cc
      by false h ih = ap (λ l. e ∷ l) (ih h)

  -- ---- the first that passes a test

  module _ (p : V → Bool) where
    found_above : (k : ℕ) (rows : List (ℕ × V)) (n : ℕ) (v : V) → IsAbove nat_cmp k rows → find (λ e. p e.1) rows ≡ Some (n, v) → nat_cmp k n ≡ Less
    found_above k [] n v a f = cc
    found_above k (e ∷ rows) n v a f = by (p e.1) f (found_above k rows n v a.1)
      where
        by : (b : Bool) → cond b (Some e) (find (λ e. p e.1) rows) ≡ Some (n, v) → (find (λ e. p e.1) rows ≡ Some (n, v) → nat_cmp k n ≡ Less) → nat_cmp k n ≡ Less
        by true f ih = let one : e.0 ≡ n = ap (λ o. option_map_or (λ (x : ℕ × V). x.0) o n) f in subst (λ m. nat_cmp k m ≡ Less) one a.0
        by false f ih = ih f

    -- without it, the others that pass and do not pass
    pub removed_found : (rows : List (ℕ × V)) (n : ℕ) (v : V) → IsOrdered nat_cmp rows → find (λ e. p e.1) rows ≡ Some (n, v)
        → (filter (λ e. not (p e.1)) (remove_entry (is_at (nat_cmp n)) rows) ≡ filter (λ e. not (p e.1)) rows)
        × (length (remove_entry (is_at (nat_cmp n)) rows) + 1 ≡ length rows)
    unfolding IsStrictlySortedBy
    removed_found [] n v s f = cc
    removed_found (e ∷ rows) n v s f = by (p e.1) refl f (λ g. let rest = removed_found rows n v s.1 g in (other e.0 n (found_above e.0 rows n v s.0 g), rest.0, rest.1))
      where
        by : (b : Bool) → p e.1 ≡ b → cond b (Some e) (find (λ e. p e.1) rows) ≡ Some (n, v)
            → (find (λ e. p e.1) rows ≡ Some (n, v) → (is_eq (nat_cmp n e.0) ≡ false) × (filter (λ e. not (p e.1)) (remove_entry (is_at (nat_cmp n)) rows) ≡ filter (λ e. not (p e.1)) rows)
            × (length (remove_entry (is_at (nat_cmp n)) rows) + 1 ≡ length rows))
            → (filter (λ e. not (p e.1)) (remove_entry (is_at (nat_cmp n)) (e ∷ rows)) ≡ filter (λ e. not (p e.1)) (e ∷ rows))
            × (length (remove_entry (is_at (nat_cmp n)) (e ∷ rows)) + 1 ≡ length (e ∷ rows))
        by true t f ih =
            let one : e.0 ≡ n = ap (λ o. option_map_or (λ (x : ℕ × V). x.0) o n) f in
            let here : is_eq (nat_cmp n e.0) ≡ true = subst (λ m. is_eq (nat_cmp n m) ≡ true) (sym one) (itself n) in
            let gone : remove_entry (is_at (nat_cmp n)) (e ∷ rows) ≡ rows = ap (λ b. cond b rows (e ∷ remove_entry (is_at (nat_cmp n)) rows)) here in (
              ap (filter (λ e. not (p e.1))) gone ∙ sym (ap (λ b. cond (not b) (e ∷ filter (λ e. not (p e.1)) rows) (filter (λ e. not (p e.1)) rows)) t),
              (let l = ap length gone in omega arith),
            )
        by false t f ih =
            let rest = ih f in
            let kept : remove_entry (is_at (nat_cmp n)) (e ∷ rows) ≡ e ∷ remove_entry (is_at (nat_cmp n)) rows = ap (λ b. cond b rows (e ∷ remove_entry (is_at (nat_cmp n)) rows)) rest.0 in (
              ap (filter (λ e. not (p e.1))) kept ∙ ap (λ l. cond (not (p e.1)) (e ∷ l) l) rest.1,
              (let l = ap length kept in let m = rest.2 in omega arith),
            )

    pub none_left : (rows : List (ℕ × V)) → find (λ e. p e.1) rows ≡ None → filter (λ e. not (p e.1)) rows ≡ rows
    none_left [] f = refl
    none_left (e ∷ rows) f = by (p e.1) f (none_left rows)
      where
        by : (b : Bool) → cond b (Some e) (find (λ e. p e.1) rows) ≡ None → (find (λ e. p e.1) rows ≡ None → filter (λ e. not (p e.1)) rows ≡ rows)
            → cond (not b) (e ∷ filter (λ e. not (p e.1)) rows) (filter (λ e. not (p e.1)) rows) ≡ e ∷ rows
        by true f ih = cc
        by false f ih = ap (λ l. e ∷ l) (ih f)

    -- ---- the same by the values alone

    pub found_any : (rows : List (ℕ × V)) (found : Option (ℕ × V)) → found ≡ find (λ e. p e.1) rows → is_some found ≡ list_any p (values_of rows)
    found_any [] found f = ap is_some f
    found_any (e ∷ rows) found f = ap is_some f ∙ by (p e.1) (found_any rows (find (λ e. p e.1) rows) refl)
      where
        by : (b : Bool) → is_some (find (λ e. p e.1) rows) ≡ list_any p (values_of rows)
            → is_some (cond b (Some e) (find (λ e. p e.1) rows)) ≡ (b || list_any p (values_of rows))
        by true ih = refl
        by false ih = ih

    pub found_value : (rows : List (ℕ × V)) → option_map (λ e. e.1) (find (λ e. p e.1) rows) ≡ find p (values_of rows)
    found_value [] = refl
    found_value (e ∷ rows) = by (p e.1) (found_value rows)
      where
        by : (b : Bool) → option_map (λ e. e.1) (find (λ e. p e.1) rows) ≡ find p (values_of rows)
            → option_map (λ e. e.1) (cond b (Some e) (find (λ e. p e.1) rows)) ≡ cond b (Some e.1) (find p (values_of rows))
        by true ih = refl
        by false ih = ih

    pub others_values : (rows : List (ℕ × V)) → values_of (filter (λ e. not (p e.1)) rows) ≡ filter (λ v. not (p v)) (values_of rows)
    others_values [] = refl
    others_values (e ∷ rows) = by (p e.1) (others_values rows)
      where
        by : (b : Bool) → values_of (filter (λ e. not (p e.1)) rows) ≡ filter (λ v. not (p v)) (values_of rows)
            → values_of (cond (not b) (e ∷ filter (λ e. not (p e.1)) rows) (filter (λ e. not (p e.1)) rows))
            ≡ cond (not b) (e.1 ∷ filter (λ v. not (p v)) (values_of rows)) (filter (λ v. not (p v)) (values_of rows))
        by true ih = ih
        by false ih = ap (λ l. e.1 ∷ l) ih

    -- ---- a search along a list of numbers

    -- the first of these rows that passes
    abbrev pub found_in : List (ℕ × V) → List ℕ → Option (ℕ × V)
    found_in rows [] = None
    found_in rows (n ∷ ns) = option_map_or (λ v. cond (p v) (Some (n, v)) (found_in rows ns)) (lookup (is_at (nat_cmp n)) rows) (found_in rows ns)

    pub found_along : (q : V → Bool) → ((v : V) → p v ≡ true → q v ≡ true) → (rows es : List (ℕ × V)) → AllByRecursion (λ e. lookup (is_at (nat_cmp e.0)) rows ≡ Some e.1) es
        → found_in rows (map (λ e. e.0) (filter (λ e. q e.1) es)) ≡ find (λ e. p e.1) es
    found_along q all rows [] own = refl
    found_along q all rows (e ∷ es) own = by (q e.1) (p e.1) refl refl (found_along q all rows es own.1)
      where
        by : (b c : Bool) → q e.1 ≡ b → p e.1 ≡ c → found_in rows (map (λ e. e.0) (filter (λ e. q e.1) es)) ≡ find (λ e. p e.1) es
            → found_in rows (map (λ e. e.0) (cond b (e ∷ filter (λ e. q e.1) es) (filter (λ e. q e.1) es))) ≡ cond c (Some e) (find (λ e. p e.1) es)
        by true c t u ih =
            ap (λ o. option_map_or (λ v. cond (p v) (Some (e.0, v)) (found_in rows (map (λ e. e.0) (filter (λ e. q e.1) es)))) o (found_in rows (map (λ e. e.0) (filter (λ e. q e.1) es)))) own.0
            ∙ ap (λ b. cond b (Some e) (found_in rows (map (λ e. e.0) (filter (λ e. q e.1) es)))) u
            ∙ ap (cond c (Some e)) ih
        by false true t u ih = absurd (true≢false (sym (all e.1 u) ∙ t))
        by false false t u ih = ih

    -- the numbers of these rows that pass
    abbrev pub named_in : List (ℕ × V) → List ℕ → List ℕ
    named_in rows [] = []
    named_in rows (n ∷ ns) = option_map_or (λ v. cond (p v) (n ∷ named_in rows ns) (named_in rows ns)) (lookup (is_at (nat_cmp n)) rows) (named_in rows ns)

    pub named_along : (q : V → Bool) → ((v : V) → p v ≡ true → q v ≡ true) → (rows es : List (ℕ × V)) → AllByRecursion (λ e. lookup (is_at (nat_cmp e.0)) rows ≡ Some e.1) es
        → named_in rows (map (λ e. e.0) (filter (λ e. q e.1) es)) ≡ map (λ e. e.0) (filter (λ e. p e.1) es)
    named_along q all rows [] own = refl
    named_along q all rows (e ∷ es) own = by (q e.1) (p e.1) refl refl (named_along q all rows es own.1)
      where
        by : (b c : Bool) → q e.1 ≡ b → p e.1 ≡ c → named_in rows (map (λ e. e.0) (filter (λ e. q e.1) es)) ≡ map (λ e. e.0) (filter (λ e. p e.1) es)
            → named_in rows (map (λ e. e.0) (cond b (e ∷ filter (λ e. q e.1) es) (filter (λ e. q e.1) es))) ≡ map (λ e. e.0) (cond c (e ∷ filter (λ e. p e.1) es) (filter (λ e. p e.1) es))
        by true c t u ih =
            ap (λ o. option_map_or (λ v. cond (p v) (e.0 ∷ named_in rows (map (λ e. e.0) (filter (λ e. q e.1) es))) (named_in rows (map (λ e. e.0) (filter (λ e. q e.1) es)))) o
            (named_in rows (map (λ e. e.0) (filter (λ e. q e.1) es)))) own.0
            ∙ ap (λ b. cond b (e.0 ∷ named_in rows (map (λ e. e.0) (filter (λ e. q e.1) es))) (named_in rows (map (λ e. e.0) (filter (λ e. q e.1) es)))) u
            ∙ ap (λ l. cond c (e.0 ∷ l) l) ih ∙ either c
          where
            either : (c : Bool) → cond c (e.0 ∷ map (λ e. e.0) (filter (λ e. p e.1) es)) (map (λ e. e.0) (filter (λ e. p e.1) es)) ≡ map (λ e. e.0) (cond c (e ∷ filter (λ e. p e.1) es) (filter (λ e. p e.1) es))
            either true = refl
            either false = refl
        by false true t u ih = absurd (true≢false (sym (all e.1 u) ∙ t))
        by false false t u ih = ih

    -- a row's number is one of those just where the row passes
    pub own_passes : (rows : List (ℕ × V)) → IsOrdered nat_cmp rows → AllByRecursion (λ e. list_any (λ n. n == e.0) (map (λ e. e.0) (filter (λ e. p e.1) rows)) ≡ p e.1) rows
    unfolding IsStrictlySortedBy
    own_passes [] s = tt
    own_passes (e ∷ rows) s = (here (p e.1), behind rows s.0 (own_passes rows s.1))
      where
        none : (fs : List (ℕ × V)) → IsAbove nat_cmp e.0 fs → list_any (λ n. n == e.0) (map (λ e. e.0) (filter (λ e. p e.1) fs)) ≡ false
        none [] a = refl
        none (f ∷ fs) a = by (p f.1) (none fs a.1)
          where
            by : (b : Bool) → list_any (λ n. n == e.0) (map (λ e. e.0) (filter (λ e. p e.1) fs)) ≡ false
                → list_any (λ n. n == e.0) (map (λ e. e.0) (cond b (f ∷ filter (λ e. p e.1) fs) (filter (λ e. p e.1) fs))) ≡ false
            by true ih = ap (λ b. b || list_any (λ n. n == e.0) (map (λ e. e.0) (filter (λ e. p e.1) fs))) (sym (nat_same f.0 e.0) ∙ other e.0 f.0 a.0) ∙ ih
            by false ih = ih

        here : (b : Bool) → list_any (λ n. n == e.0) (map (λ e. e.0) (cond b (e ∷ filter (λ e. p e.1) rows) (filter (λ e. p e.1) rows))) ≡ b
        here true = ap (λ b. b || list_any (λ n. n == e.0) (map (λ e. e.0) (filter (λ e. p e.1) rows))) (sym (nat_same e.0 e.0) ∙ itself e.0)
        here false = none rows s.0

        behind : (fs : List (ℕ × V)) → IsAbove nat_cmp e.0 fs → AllByRecursion (λ f. list_any (λ n. n == f.0) (map (λ e. e.0) (filter (λ e. p e.1) rows)) ≡ p f.1) fs
            → AllByRecursion (λ f. list_any (λ n. n == f.0) (map (λ e. e.0) (filter (λ e. p e.1) (e ∷ rows))) ≡ p f.1) fs
        behind [] a h = tt
        behind (f ∷ fs) a h = (by (p e.1), behind fs a.1 h.1)
          where
            by : (b : Bool) → list_any (λ n. n == f.0) (map (λ e. e.0) (cond b (e ∷ filter (λ e. p e.1) rows) (filter (λ e. p e.1) rows))) ≡ p f.1
            by true = ap (λ b. b || list_any (λ n. n == f.0) (map (λ e. e.0) (filter (λ e. p e.1) rows))) (sym (nat_same e.0 f.0) ∙ ap is_eq a.0) ∙ h.0
            by false = h.0
