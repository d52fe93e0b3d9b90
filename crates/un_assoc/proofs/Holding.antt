-- The container of each content and the counts of contents: one association more, and one less.
use Rattle.std.proofs.Common.{◌≡◌, ℕ, ◌+◌, ◌-◌, Bool, true, false, ◌==◌, ◌&&◌, List, [], ◌∷◌, ◌++◌, map, find, length, Option, Some, None, unwrap_or, cond, if◌then◌else◌, refl, sym, ◌∙◌, ap, subst, arith, length-append}
use Rattle.std.proofs.lemmas.Bool.Decides.{nat_tests}
use Rattle.std.proofs.lemmas.Cmp.{nat_cmp_total}
use Rattle.std.proofs.lemmas.List.{append-nil, map-append}
use Rattle.std.specs.Prelude.{option_to_list}
use Rattle.std.specs.declared.cmp.Ordering.{Ordering}
use Rattle.std.specs.declared.cmp.Ordering.TheVariants.{Less, Equal, Greater}
use Rattle.std.specs.Ordering.{nat_cmp, is_eq, match_ordering}
use Rattle.std.specs.Option.{option_map}
use Rattle.std.specs.List.{filter}
use Rattle.std.specs.List.Sorted.{IsStrictlySortedBy}
use Rattle.std.specs.Map.{lookup, remove_entry}
use Rattle.std.specs.BTreeMap.{is_at, insert_entry}
use Rattle.un_pages.specs.Pairs.{IsOrdered, IsAbove}
use Rattle.un_pages.proofs.Ordered.{lookup_all_above}
use Rattle.un_defs.specs.declared.assoc.Assoc.{Assoc}
use Rattle.un_defs.specs.Star.{is_containment}
use Rattle.un_assoc.specs.Containing.{is_content, is_container, container_of, contents_count}
use Rattle.un_assoc.specs.Indexes.{container_in, count_in, AreContained, IsRising}
use Rattle.un_assoc.proofs.PairKeys.{nat_tie}
use Rattle.un_assoc.proofs.Lists.{others, IsSplit, split, filter_last, filter_passed, filter_took, filter_rest}

-- ---- look-ups by number

number_same : (a b : ℕ) → is_eq (nat_cmp a b) ≡ (a == b)
number_same a b = grind (arith, nat_tests)

is_Equal : (r : Ordering) → is_eq r ≡ true → r ≡ Equal
is_Equal Less t = cc
is_Equal Equal t = refl
is_Equal Greater t = cc

module _ (k q : ℕ) where
  pub number_put : (ps : List (ℕ × ℕ)) (v : ℕ) → lookup (is_at (nat_cmp q)) (insert_entry nat_cmp ps k v) ≡ cond (q == k) (Some v) (lookup (is_at (nat_cmp q)) ps)
  number_put [] v = ap (λ b. cond b (Some v) None) (number_same q k)
  number_put (p ∷ ps) v = by (nat_cmp k p.0) refl (number_put ps v)
    where
      twice : (b : Bool) (x y z : Option ℕ) → cond b x z ≡ cond b x (cond b y z)
      twice true x y z = refl
      twice false x y z = refl

      swapped : (b c : Bool) (x y z : Option ℕ) → (b ≡ true → c ≡ true → ⊥) → cond b x (cond c y z) ≡ cond c y (cond b x z)
      swapped true true x y z h = absurd (h refl refl)
      swapped true false x y z h = refl
      swapped false c x y z h = refl

      by : (r : Ordering) → nat_cmp k p.0 ≡ r → lookup (is_at (nat_cmp q)) (insert_entry nat_cmp ps k v) ≡ cond (q == k) (Some v) (lookup (is_at (nat_cmp q)) ps)
          → lookup (is_at (nat_cmp q)) (match_ordering r ((k, v) ∷ p ∷ ps) ((p.0, v) ∷ ps) (p ∷ insert_entry nat_cmp ps k v)) ≡ cond (q == k) (Some v) (lookup (is_at (nat_cmp q)) (p ∷ ps))
      by Less e ih = ap (λ b. cond b (Some v) (lookup (is_at (nat_cmp q)) (p ∷ ps))) (number_same q k)
      by Equal e ih =
          let one : k ≡ p.0 = nat_tie k p.0 e in
          let here : is_eq (nat_cmp q p.0) ≡ (q == k) = number_same q p.0 ∙ ap (λ n. q == n) (sym one) in
          ap (λ b. cond b (Some v) (lookup (is_at (nat_cmp q)) ps)) here ∙ twice (q == k) (Some v) (Some p.1) (lookup (is_at (nat_cmp q)) ps)
          ∙ ap (λ b. cond (q == k) (Some v) (cond b (Some p.1) (lookup (is_at (nat_cmp q)) ps))) (sym here)
      by Greater e ih =
          let apart : is_eq (nat_cmp q p.0) ≡ true → (q == k) ≡ true → ⊥ = λ f g. absurd (grind (arith, nat_tests)) in
          ap (cond (is_eq (nat_cmp q p.0)) (Some p.1)) ih ∙ swapped (is_eq (nat_cmp q p.0)) (q == k) (Some p.1) (Some v) (lookup (is_at (nat_cmp q)) ps) apart

  either : (b : Bool) (x : Option ℕ) → x ≡ cond b x x
  either true x = refl
  either false x = refl

  pub number_cut : (ps : List (ℕ × ℕ)) → IsOrdered nat_cmp ps → lookup (is_at (nat_cmp q)) (remove_entry (is_at (nat_cmp k)) ps) ≡ cond (q == k) None (lookup (is_at (nat_cmp q)) ps)
  unfolding IsStrictlySortedBy
  number_cut [] s = either (q == k) None
  number_cut (p ∷ ps) s = by (is_eq (nat_cmp k p.0)) (q == k) refl refl (number_cut ps s.1)
    where
      by : (b c : Bool) → is_eq (nat_cmp k p.0) ≡ b → (q == k) ≡ c
          → lookup (is_at (nat_cmp q)) (remove_entry (is_at (nat_cmp k)) ps) ≡ cond (q == k) None (lookup (is_at (nat_cmp q)) ps)
          → lookup (is_at (nat_cmp q)) (cond b ps (p ∷ remove_entry (is_at (nat_cmp k)) ps)) ≡ cond c None (lookup (is_at (nat_cmp q)) (p ∷ ps))
      by true true e g ih =
          let one : k ≡ p.0 = nat_tie k p.0 (is_Equal (nat_cmp k p.0) e) in
          let same : q ≡ p.0 = grind (arith, nat_tests) in
          lookup_all_above nat_cmp_total q ps (subst (λ n. IsAbove nat_cmp n ps) (sym same) s.0)
      by true false e g ih =
          let one : k ≡ p.0 = nat_tie k p.0 (is_Equal (nat_cmp k p.0) e) in
          let off : is_eq (nat_cmp q p.0) ≡ false = grind (arith, nat_tests) in
          sym (ap (λ b. cond b (Some p.1) (lookup (is_at (nat_cmp q)) ps)) off)
      by false true e g ih =
          let same : q ≡ k = grind (arith, nat_tests) in
          let off : is_eq (nat_cmp q p.0) ≡ false = ap (λ n. is_eq (nat_cmp n p.0)) same ∙ e in
          ap (λ b. cond b (Some p.1) (lookup (is_at (nat_cmp q)) (remove_entry (is_at (nat_cmp k)) ps))) off ∙ ih ∙ ap (λ b. cond b None (lookup (is_at (nat_cmp q)) ps)) g
      by false false e g ih = ap (cond (is_eq (nat_cmp q p.0)) (Some p.1)) (ih ∙ ap (λ b. cond b None (lookup (is_at (nat_cmp q)) ps)) g)

-- ---- the containers by the associations

abbrev holders : ℕ → List Assoc → List ℕ
holders id associations = map (λ a. a.from.feature) (filter (is_content id) associations)

-- the first container of a row is the one in the list of them
first_holder : (id : ℕ) (associations : List Assoc) (o : Option ℕ) → holders id associations ≡ option_to_list o → container_of associations id ≡ o
first_holder id [] None e = refl
first_holder id [] (Some c) e = cc
first_holder id (a ∷ more) o e = by (is_content id a) o e (first_holder id more o)
  where
    by : (t : Bool) (o : Option ℕ) → map (λ a. a.from.feature) (cond t (a ∷ filter (is_content id) more) (filter (is_content id) more)) ≡ option_to_list o → (holders id more ≡ option_to_list o → container_of more id ≡ o)
        → option_map (λ a. a.from.feature) (cond t (Some a) (find (is_content id) more)) ≡ o
    by true None e ih = cc
    by true (Some c) e ih = cc
    by false o e ih = ih e

pub container_is : (by_content by_container : List (ℕ × ℕ)) (associations : List Assoc) → AreContained by_content by_container associations
    → (id : ℕ) → container_of associations id ≡ lookup (is_at (nat_cmp id)) by_content
container_is by_content by_container associations are id = first_holder id associations (lookup (is_at (nat_cmp id)) by_content) (are.containers id)

no_holder : (id : ℕ) (associations : List Assoc) → container_of associations id ≡ None → holders id associations ≡ []
no_holder id [] e = refl
no_holder id (a ∷ more) e = by (is_content id a) e (no_holder id more)
  where
    by : (t : Bool) → option_map (λ a. a.from.feature) (cond t (Some a) (find (is_content id) more)) ≡ None → (container_of more id ≡ None → holders id more ≡ [])
        → map (λ a. a.from.feature) (cond t (a ∷ filter (is_content id) more) (filter (is_content id) more)) ≡ []
    by true e ih = cc
    by false e ih = ih e

-- ---- one association more

module _ (a : Assoc) (associations : List Assoc) where
  holders_more : (id : ℕ) (t : Bool) → is_content id a ≡ t → holders id (associations ++ a ∷ []) ≡ holders id associations ++ map (λ a. a.from.feature) (cond t (a ∷ []) [])
  holders_more id t e = ap (map (λ a. a.from.feature)) (filter_last (is_content id) associations a t e) ∙ map-append (λ a. a.from.feature) (filter (is_content id) associations) (cond t (a ∷ []) [])

  count_more : (id : ℕ) (t : Bool) → is_container id a ≡ t → contents_count (associations ++ a ∷ []) id ≡ contents_count associations id + (if t then 1 else 0)
  count_more id true e = ap length (filter_last (is_container id) associations a true e) ∙ length-append (filter (is_container id) associations) (a ∷ [])
  count_more id false e = ap length (filter_last (is_container id) associations a false e) ∙ length-append (filter (is_container id) associations) []

  pub content_more : (by_content by_container contents counts : List (ℕ × ℕ)) → is_containment a.sort ≡ true → AreContained by_content by_container associations
      → container_of associations a.to.feature ≡ None → contents ≡ insert_entry nat_cmp by_content a.to.feature a.from.feature
      → ((id : ℕ) → count_in counts id ≡ count_in by_container id + (if id == a.from.feature then 1 else 0))
      → AreContained contents counts (associations ++ a ∷ [])
  content_more by_content by_container contents counts sort are alone is counted = record {
    containers = λ id. by id (a.to.feature == id) refl;
    counts = λ id. counts_by id (a.from.feature == id) refl;
  }
    where
      here : (id : ℕ) (t : Bool) → (a.to.feature == id) ≡ t → is_content id a ≡ t
      here id t e = ap (λ b. b && (a.to.feature == id)) sort ∙ e

      put : (id : ℕ) (t : Bool) → (a.to.feature == id) ≡ t → container_in contents id ≡ option_to_list (cond t (Some a.from.feature) (lookup (is_at (nat_cmp id)) by_content))
      put id t e =
          let turned : (id == a.to.feature) ≡ (a.to.feature == id) = grind (arith, nat_tests) in
          ap (λ l. container_in l id) is ∙ ap option_to_list (number_put a.to.feature id by_content a.from.feature)
          ∙ ap (λ b. option_to_list (cond b (Some a.from.feature) (lookup (is_at (nat_cmp id)) by_content))) (turned ∙ e)

      by : (id : ℕ) (t : Bool) → (a.to.feature == id) ≡ t → holders id (associations ++ a ∷ []) ≡ container_in contents id
      by id true e =
          let same : a.to.feature ≡ id = grind (arith, nat_tests) in
          let none : holders id associations ≡ [] = subst (λ n. holders n associations ≡ []) same (no_holder a.to.feature associations alone) in
          holders_more id true (here id true e) ∙ ap (λ l. l ++ a.from.feature ∷ []) none ∙ sym (put id true e)
      by id false e = holders_more id false (here id false e) ∙ append-nil (holders id associations) ∙ are.containers id ∙ sym (put id false e)

      counts_by : (id : ℕ) (t : Bool) → (a.from.feature == id) ≡ t → contents_count (associations ++ a ∷ []) id ≡ count_in counts id
      counts_by id t e =
          let turned : (id == a.from.feature) ≡ (a.from.feature == id) = grind (arith, nat_tests) in
          count_more id t (ap (λ b. b && (a.from.feature == id)) sort ∙ e)
          ∙ ap (λ n. n + (if t then 1 else 0)) (are.counts id)
          ∙ sym (counted id ∙ ap (λ b. count_in by_container id + (if b then 1 else 0)) (turned ∙ e))

  pub none_more : (by_content by_container : List (ℕ × ℕ)) → is_containment a.sort ≡ false → AreContained by_content by_container associations
      → AreContained by_content by_container (associations ++ a ∷ [])
  none_more by_content by_container sort are = record {
    containers = λ id. holders_more id false (ap (λ b. b && (a.to.feature == id)) sort) ∙ append-nil (holders id associations) ∙ are.containers id;
    counts = λ id. count_more id false (ap (λ b. b && (a.from.feature == id)) sort) ∙ omega (arith, are.counts id);
  }

-- ---- one association less

single : (xs ys : List ℕ) (x : ℕ) (o : Option ℕ) → xs ++ x ∷ ys ≡ option_to_list o → xs ++ ys ≡ []
single [] ys x None e = cc
single [] ys x (Some z) e = cc
single (w ∷ xs) ys x None e = cc
single (w ∷ []) ys x (Some z) e = cc
single (w ∷ v ∷ xs) ys x (Some z) e = cc

module _ (a : Assoc) (associations : List Assoc) (rises : IsRising associations) (there : find (λ b. b.id == a.id) associations ≡ Some a) where
  parts : IsSplit associations a
  parts = split a associations rises there

  pub content_less : (by_content by_container contents counts : List (ℕ × ℕ)) → is_containment a.sort ≡ true → AreContained by_content by_container associations
      → IsOrdered nat_cmp by_content → contents ≡ remove_entry (is_at (nat_cmp a.to.feature)) by_content
      → ((id : ℕ) → count_in counts id ≡ count_in by_container id - (if id == a.from.feature then 1 else 0))
      → AreContained contents counts (others a.id associations)
  content_less by_content by_container contents counts sort are s is counted = record {
    containers = λ id. by id (a.to.feature == id) refl;
    counts = λ id. counts_by id (a.from.feature == id) refl;
  }
    where
      here : (id : ℕ) (t : Bool) → (a.to.feature == id) ≡ t → is_content id a ≡ t
      here id t e = ap (λ b. b && (a.to.feature == id)) sort ∙ e

      cut : (id : ℕ) (t : Bool) → (a.to.feature == id) ≡ t → container_in contents id ≡ option_to_list (cond t None (lookup (is_at (nat_cmp id)) by_content))
      cut id t e =
          let turned : (id == a.to.feature) ≡ (a.to.feature == id) = grind (arith, nat_tests) in
          ap (λ l. container_in l id) is ∙ ap option_to_list (number_cut a.to.feature id by_content s)
          ∙ ap (λ b. option_to_list (cond b None (lookup (is_at (nat_cmp id)) by_content))) (turned ∙ e)

      by : (id : ℕ) (t : Bool) → (a.to.feature == id) ≡ t → holders id (others a.id associations) ≡ container_in contents id
      by id true e =
          let whole : holders id parts.before ++ a.from.feature ∷ holders id parts.after ≡ option_to_list (lookup (is_at (nat_cmp id)) by_content) =
          sym (map-append (λ a. a.from.feature) (filter (is_content id) parts.before) (a ∷ filter (is_content id) parts.after))
          ∙ sym (ap (map (λ a. a.from.feature)) (filter_took (is_content id) associations a parts (here id true e))) ∙ are.containers id in
          ap (map (λ a. a.from.feature)) (filter_rest (is_content id) associations a parts)
          ∙ map-append (λ a. a.from.feature) (filter (is_content id) parts.before) (filter (is_content id) parts.after)
          ∙ single (holders id parts.before) (holders id parts.after) a.from.feature (lookup (is_at (nat_cmp id)) by_content) whole ∙ sym (cut id true e)
      by id false e = ap (map (λ a. a.from.feature)) (filter_passed (is_content id) associations a parts (here id false e)) ∙ are.containers id ∙ sym (cut id false e)

      counts_by : (id : ℕ) (t : Bool) → (a.from.feature == id) ≡ t → contents_count (others a.id associations) id ≡ count_in counts id
      counts_by id true e =
          let turned : (id == a.from.feature) ≡ true = grind (arith, nat_tests) in
          let took = ap length (filter_took (is_container id) associations a parts (ap (λ b. b && (a.from.feature == id)) sort ∙ e)) in
          let rest = ap length (filter_rest (is_container id) associations a parts) in
          let sums = length-append (filter (is_container id) parts.before) (a ∷ filter (is_container id) parts.after) in
          let sum = length-append (filter (is_container id) parts.before) (filter (is_container id) parts.after) in
          let now : count_in counts id ≡ count_in by_container id - 1 = counted id ∙ ap (λ b. count_in by_container id - (if b then 1 else 0)) turned in
          let old : contents_count associations id ≡ count_in by_container id = are.counts id in
          omega arith
      counts_by id false e =
          let turned : (id == a.from.feature) ≡ false = grind (arith, nat_tests) in
          let now : count_in counts id ≡ count_in by_container id - 0 = counted id ∙ ap (λ b. count_in by_container id - (if b then 1 else 0)) turned in
          let passed : contents_count (others a.id associations) id ≡ contents_count associations id = ap length (filter_passed (is_container id) associations a parts (ap (λ b. b && (a.from.feature == id)) sort ∙ e)) in
          let old : contents_count associations id ≡ count_in by_container id = are.counts id in
          omega arith

  pub none_less : (by_content by_container : List (ℕ × ℕ)) → is_containment a.sort ≡ false → AreContained by_content by_container associations
      → AreContained by_content by_container (others a.id associations)
  none_less by_content by_container sort are = record {
    containers = λ id. ap (map (λ a. a.from.feature)) (filter_passed (is_content id) associations a parts (ap (λ b. b && (a.to.feature == id)) sort)) ∙ are.containers id;
    counts = λ id. ap length (filter_passed (is_container id) associations a parts (ap (λ b. b && (a.from.feature == id)) sort)) ∙ are.counts id;
  }

-- ---- the counts

count_put : (k : ℕ) (ps : List (ℕ × ℕ)) (v : ℕ) (id : ℕ) → count_in (insert_entry nat_cmp ps k v) id ≡ (if id == k then v else count_in ps id)
count_put k ps v id = ap (λ o. unwrap_or o 0) (number_put k id ps v) ∙ elim (id == k) as (λ b. unwrap_or (cond b (Some v) (lookup (is_at (nat_cmp id)) ps)) 0 ≡ (if b then v else count_in ps id)) [ true ↦ refl | false ↦ refl ]

pub counted_more : (k : ℕ) (ps : List (ℕ × ℕ)) (v : ℕ) → v ≡ count_in ps k + 1 → (id : ℕ) → count_in (insert_entry nat_cmp ps k v) id ≡ count_in ps id + (if id == k then 1 else 0)
counted_more k ps v is id = count_put k ps v id ∙ by (id == k) refl
  where
    by : (t : Bool) → (id == k) ≡ t → (if t then v else count_in ps id) ≡ count_in ps id + (if t then 1 else 0)
    by true e = let same : k ≡ id = grind (arith, nat_tests) in is ∙ ap (λ n. count_in ps n + 1) same
    by false e = omega arith

pub counted_less : (k : ℕ) (ps : List (ℕ × ℕ)) (v : ℕ) → v ≡ count_in ps k - 1 → (id : ℕ) → count_in (insert_entry nat_cmp ps k v) id ≡ count_in ps id - (if id == k then 1 else 0)
counted_less k ps v is id = count_put k ps v id ∙ by (id == k) refl
  where
    by : (t : Bool) → (id == k) ≡ t → (if t then v else count_in ps id) ≡ count_in ps id - (if t then 1 else 0)
    by true e = let same : k ≡ id = grind (arith, nat_tests) in is ∙ ap (λ n. count_in ps n - 1) same
    by false e = omega arith

pub counted_none : (k : ℕ) (ps : List (ℕ × ℕ)) → IsOrdered nat_cmp ps → count_in ps k - 1 ≡ 0 → (id : ℕ) → count_in (remove_entry (is_at (nat_cmp k)) ps) id ≡ count_in ps id - (if id == k then 1 else 0)
counted_none k ps s last id = ap (λ o. unwrap_or o 0) (number_cut k id ps s) ∙ by (id == k) refl
  where
    by : (t : Bool) → (id == k) ≡ t → unwrap_or (cond t None (lookup (is_at (nat_cmp id)) ps)) 0 ≡ count_in ps id - (if t then 1 else 0)
    by true e = let same : k ≡ id = grind (arith, nat_tests) in sym (subst (λ n. count_in ps n - 1 ≡ 0) same last)
    by false e = omega arith
