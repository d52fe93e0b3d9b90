-- What the keys of rows tell: the numbers of the rows that a subject concerns, after one row more or less too.
use Rattle.std.proofs.Common.{◌≡◌, ℕ, Bool, true, false, not, ◌==◌, ◌&&◌, ◌||◌, List, [], ◌∷◌, ◌++◌, map, Some, cond, refl, sym, ◌∙◌, ap, subst, arith, true≢false}
use Rattle.std.proofs.lemmas.Bool.Decides.{nat_tests}
use Rattle.std.proofs.lemmas.List.Folds.{list_any-append}
use Rattle.std.specs.declared.cmp.Ordering.TheVariants.{Less}
use Rattle.std.specs.Ordering.{nat_cmp, is_eq}
use Rattle.std.specs.Cmp.{nat_cmp_total}
use Rattle.std.specs.List.{filter, AllByRecursion}
use Rattle.std.specs.List.Sorted.{IsStrictlySortedBy}
use Rattle.std.specs.Map.{lookup, remove_entry}
use Rattle.std.specs.BTreeMap.{is_at}
use Rattle.un_pages.specs.Pairs.{IsOrdered, IsAbove}
use Rattle.un_ask.specs.declared.stored.StoredSubnet.{StoredSubnet}
use Rattle.un_defs.proofs.Rising.{Among, sorted_unique}
use Rattle.un_defs.proofs.Members.{among_from-filter, among-filter, among_from-map, among-map, list_any_from_among, among_from_list_any}
use Rattle.un_defs.proofs.LinkCases.{both_true, true_both}
use Rattle.un_subnet.specs.declared.row_index.Subject.{Subject}
use Rattle.un_subnet.specs.declared.row_index.Key.{Key}
use Rattle.un_subnet.specs.RowIndex.{same_subject, same_key, concerns, has_key, numbers_at, numbers_with, is_concerned, IsIndex}
use Rattle.un_subnet.proofs.Keys.{key_cmp, number_above, subject_is, nat_same, nat_tie, is_equal}

pub same_number : (a b : ℕ) → (a == b) ≡ true → a ≡ b
same_number a b e = grind (arith, nat_tests)

pub number_itself : (a : ℕ) → (a == a) ≡ true
number_itself a = grind (arith, nat_tests)

-- ---- the numbers that a subject concerns

-- of the rows
abbrev concerned_numbers : List (ℕ × StoredSubnet) → Subject → List ℕ
concerned_numbers rows s = numbers_with (concerns s) rows

module _ (s : Subject) where
  numbers_above : (k : Key) (keys : List (Key × Unit {0})) → s ≡ k.subject → IsAbove key_cmp k keys → AllByRecursion (λ n. nat_cmp k.number n ≡ Less) (numbers_at keys s)
  numbers_above k [] one a = tt
  numbers_above k (x ∷ keys) one a = by (same_subject s x.0.subject) refl (numbers_above k keys one a.1)
    where
      by : (t : Bool) → same_subject s x.0.subject ≡ t → AllByRecursion (λ n. nat_cmp k.number n ≡ Less) (numbers_at keys s)
          → AllByRecursion (λ n. nat_cmp k.number n ≡ Less) (map (λ k. k.0.number) (cond t (x ∷ filter (λ k. same_subject s k.0.subject) keys) (filter (λ k. same_subject s k.0.subject) keys)))
      by true t ih = (number_above k x.0 a.0 (sym one ∙ subject_is s x.0.subject t), ih)
      by false t ih = ih

  pub numbers_sorted : (keys : List (Key × Unit {0})) → IsOrdered key_cmp keys → IsStrictlySortedBy nat_cmp (numbers_at keys s)
  unfolding IsStrictlySortedBy
  numbers_sorted [] h = tt
  numbers_sorted (k ∷ keys) h = by (same_subject s k.0.subject) refl (numbers_sorted keys h.1)
    where
      by : (t : Bool) → same_subject s k.0.subject ≡ t → IsStrictlySortedBy nat_cmp (numbers_at keys s)
          → IsStrictlySortedBy nat_cmp (map (λ k. k.0.number) (cond t (k ∷ filter (λ k. same_subject s k.0.subject) keys) (filter (λ k. same_subject s k.0.subject) keys)))
      by true t ih = (numbers_above k.0 keys (subject_is s k.0.subject t) h.0, ih)
      by false t ih = ih

  concerned_above : (n : ℕ) (rows : List (ℕ × StoredSubnet)) → IsAbove nat_cmp n rows → AllByRecursion (λ m. nat_cmp n m ≡ Less) (concerned_numbers rows s)
  concerned_above n [] a = tt
  concerned_above n (e ∷ rows) a = by (concerns s e.1) (concerned_above n rows a.1)
    where
      by : (t : Bool) → AllByRecursion (λ m. nat_cmp n m ≡ Less) (concerned_numbers rows s)
          → AllByRecursion (λ m. nat_cmp n m ≡ Less) (map (λ e. e.0) (cond t (e ∷ filter (λ e. concerns s e.1) rows) (filter (λ e. concerns s e.1) rows)))
      by true ih = (a.0, ih)
      by false ih = ih

  concerned_sorted : (rows : List (ℕ × StoredSubnet)) → IsOrdered nat_cmp rows → IsStrictlySortedBy nat_cmp (concerned_numbers rows s)
  unfolding IsStrictlySortedBy
  concerned_sorted [] h = tt
  concerned_sorted (e ∷ rows) h = by (concerns s e.1) (concerned_sorted rows h.1)
    where
      by : (t : Bool) → IsStrictlySortedBy nat_cmp (concerned_numbers rows s)
          → IsStrictlySortedBy nat_cmp (map (λ e. e.0) (cond t (e ∷ filter (λ e. concerns s e.1) rows) (filter (λ e. concerns s e.1) rows)))
      by true ih = (concerned_above e.0 rows h.0, ih)
      by false ih = ih

  -- ---- by membership

  abbrev key_of : ℕ → Key
  key_of n = record { subject = s; number = n }

  pub has_from_number : (keys : List (Key × Unit {0})) (n : ℕ) → Among (numbers_at keys s) n → has_key (key_of n) keys ≡ true
  has_from_number keys n i =
      let k = among_from-map (λ (k : Key × Unit {0}). k.0.number) (filter (λ k. same_subject s k.0.subject) keys) n i in
      let parts = among_from-filter (λ (k : Key × Unit {0}). same_subject s k.0.subject) keys k.0 k.1 in
      list_any_from_among (λ x. same_key (key_of n) x.0) keys k.0 parts.0
      (true_both _ _ parts.1 (subst (λ m. (n == m) ≡ true) (sym k.2) (number_itself n)))

  pub number_from_has : (keys : List (Key × Unit {0})) (n : ℕ) → has_key (key_of n) keys ≡ true → Among (numbers_at keys s) n
  number_from_has keys n e =
      let k = among_from_list_any (λ (x : Key × Unit {0}). same_key (key_of n) x.0) keys e in
      let parts = both_true (same_subject s k.0.0.subject) (n == k.0.0.number) k.2 in
      subst (Among (numbers_at keys s)) (sym (same_number n k.0.0.number parts.1))
      (among-map (λ (k : Key × Unit {0}). k.0.number) (filter (λ k. same_subject s k.0.subject) keys) k.0
      (among-filter (λ (k : Key × Unit {0}). same_subject s k.0.subject) keys k.0 k.1 parts.0))

  concerned_from_number : (rows : List (ℕ × StoredSubnet)) (n : ℕ) → Among (concerned_numbers rows s) n → is_concerned (key_of n) rows ≡ true
  concerned_from_number rows n i =
      let e = among_from-map (λ (e : ℕ × StoredSubnet). e.0) (filter (λ e. concerns s e.1) rows) n i in
      let parts = among_from-filter (λ (e : ℕ × StoredSubnet). concerns s e.1) rows e.0 e.1 in
      list_any_from_among (λ x. (n == x.0) && concerns s x.1) rows e.0 parts.0
      (true_both _ _ (subst (λ m. (n == m) ≡ true) (sym e.2) (number_itself n)) parts.1)

  number_from_concerned : (rows : List (ℕ × StoredSubnet)) (n : ℕ) → is_concerned (key_of n) rows ≡ true → Among (concerned_numbers rows s) n
  number_from_concerned rows n h =
      let e = among_from_list_any (λ (x : ℕ × StoredSubnet). (n == x.0) && concerns s x.1) rows h in
      let parts = both_true (n == e.0.0) (concerns s e.0.1) e.2 in
      subst (Among (concerned_numbers rows s)) (sym (same_number n e.0.0 parts.0))
      (among-map (λ (e : ℕ × StoredSubnet). e.0) (filter (λ e. concerns s e.1) rows) e.0
      (among-filter (λ (e : ℕ × StoredSubnet). concerns s e.1) rows e.0 e.1 parts.1))

  -- the keys of a subject have the numbers of the rows that it concerns, rising
  pub numbers_are : (rows : List (ℕ × StoredSubnet)) (keys : List (Key × Unit {0})) → IsIndex rows keys → IsOrdered nat_cmp rows → IsOrdered key_cmp keys
      → numbers_at keys s ≡ numbers_with (concerns s) rows
  numbers_are rows keys index a b =
      sorted_unique nat_cmp_total (numbers_at keys s) (concerned_numbers rows s) (numbers_sorted keys b) (concerned_sorted rows a)
      (λ n i. number_from_concerned rows n (sym (index (key_of n)) ∙ has_from_number keys n i))
      (λ n i. number_from_has keys n (index (key_of n) ∙ concerned_from_number rows n i))

-- ---- one row more, one row less

module _ (q : Key) where
  turned : (a b : Bool) → (a || b) ≡ (b || (a || false))
  turned true true = refl
  turned true false = refl
  turned false true = refl
  turned false false = refl

  pub concerned_more : (rows : List (ℕ × StoredSubnet)) (n : ℕ) (row : StoredSubnet)
      → (((q.number == n) && concerns q.subject row) || is_concerned q rows) ≡ is_concerned q (rows ++ (n, row) ∷ [])
  concerned_more rows n row =
      turned ((q.number == n) && concerns q.subject row) (is_concerned q rows)
      ∙ sym (list_any-append (λ e. (q.number == e.0) && concerns q.subject e.1) rows ((n, row) ∷ []))

  not_above : (n : ℕ) (rows : List (ℕ × StoredSubnet)) → IsAbove nat_cmp n rows → (q.number == n) ≡ true → is_concerned q rows ≡ false
  not_above n [] a e = refl
  not_above n (x ∷ rows) a e =
      let off : (q.number == x.0) ≡ false =
      ap (λ m. m == x.0) (same_number q.number n e) ∙ sym (nat_same n x.0) ∙ ap is_eq a.0 in
      ap (λ b. (b && concerns q.subject x.1) || is_concerned q rows) off ∙ not_above n rows a.1 e

  pub concerned_less : (rows : List (ℕ × StoredSubnet)) (n : ℕ) (row : StoredSubnet) → IsOrdered nat_cmp rows → lookup (is_at (nat_cmp n)) rows ≡ Some row
      → (not ((q.number == n) && concerns q.subject row) && is_concerned q rows) ≡ is_concerned q (remove_entry (is_at (nat_cmp n)) rows)
  unfolding IsStrictlySortedBy
  concerned_less [] n row s l = cc
  concerned_less (x ∷ rows) n row s l = by (is_eq (nat_cmp n x.0)) refl l (concerned_less rows n row s.1)
    where
      here : (a c : Bool) → (q.number == n) ≡ a → (a ≡ true → is_concerned q rows ≡ false)
          → (not (a && c) && ((a && c) || is_concerned q rows)) ≡ is_concerned q rows
      here true true e none = sym (none refl)
      here true false e none = refl
      here false c e none = refl

      apart : (a b c d h t : Bool) → (a ≡ true → b ≡ true → ⊥) → (not (a && c) && h) ≡ t → (not (a && c) && ((b && d) || h)) ≡ ((b && d) || t)
      apart true true c d h t off e = absurd (off refl refl)
      apart true false c d h t off e = e
      apart false b c d h t off e = ap (λ x. (b && d) || x) e

      by : (t : Bool) → is_eq (nat_cmp n x.0) ≡ t → cond t (Some x.1) (lookup (is_at (nat_cmp n)) rows) ≡ Some row
          → (lookup (is_at (nat_cmp n)) rows ≡ Some row → (not ((q.number == n) && concerns q.subject row) && is_concerned q rows) ≡ is_concerned q (remove_entry (is_at (nat_cmp n)) rows))
          → (not ((q.number == n) && concerns q.subject row) && (((q.number == x.0) && concerns q.subject x.1) || is_concerned q rows))
          ≡ is_concerned q (cond t rows (x ∷ remove_entry (is_at (nat_cmp n)) rows))
      by true t l ih =
          let number : n ≡ x.0 = nat_tie n x.0 (is_equal (nat_cmp n x.0) t) in
          let value : x.1 ≡ row = cc in
          subst (λ m. (not ((q.number == n) && concerns q.subject row) && (((q.number == m) && concerns q.subject x.1) || is_concerned q rows)) ≡ is_concerned q rows) number
          (subst (λ v. (not ((q.number == n) && concerns q.subject row) && (((q.number == n) && concerns q.subject v) || is_concerned q rows)) ≡ is_concerned q rows) (sym value)
          (here (q.number == n) (concerns q.subject row) refl (λ e. not_above n rows (subst (λ m. IsAbove nat_cmp m rows) (sym number) s.0) e)))
      by false t l ih =
          apart (q.number == n) (q.number == x.0) (concerns q.subject row) (concerns q.subject x.1) (is_concerned q rows) (is_concerned q (remove_entry (is_at (nat_cmp n)) rows))
          (λ e f. true≢false (sym (nat_same n x.0 ∙ subst (λ m. (m == x.0) ≡ true) (same_number q.number n e) f) ∙ t)) (ih l)
