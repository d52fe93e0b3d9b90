-- Attributes in the byte order of their names.
use Rattle.std.proofs.Common.{◌≡◌, ℕ, ◌+◌, ◌-◌, ◌<◌, ◌≤◌, suc, ℤ, List, [], ◌∷◌, map, filter_map, length, drop, get_or, Some, sym, ap, ◌∙◌, arith, rules}
use Rattle.std.specs.declared.cmp.Ordering.TheVariants.{Less}
use Rattle.std.specs.Ordering.{nat_cmp}
use Rattle.std.specs.Cmp.{IsTotalOrder}
use Rattle.std.specs.Cmp.Lexicographic.{slice_cmp}
use Rattle.std.specs.List.{AllByRecursion, cons_option}
use Rattle.std.specs.List.Sorted.{IsStrictlySortedBy}
use Rattle.std.proofs.lemmas.Cmp.{on_total, nat_list_cmp_total}
use Rattle.std.proofs.Math.Seq.{drop-cons}
use Rattle.un_schema.specs.Catalog.{Catalog}
use Rattle.un_defs.specs.NamedAttributes.{IsNamedAttrs}
use Rattle.un_defs.specs.Orders.{rising}
use Rattle.un_defs.proofs.Rising.{sorted-rising}
use Rattle.un_star.proofs.OrdersAlike.{rising-map}
use Rattle.un_core.specs.contracts.feature.NamedValueOrd.TheImpl as order
use Rattle.un_core.specs.declared.feature.NamedValue.{NamedValue}
use Rattle.un_core.specs.Feature.{by_name, named, with_name}
use Rattle.un_core.specs.Named.{pair_of}

-- ---- the names rise

by_name_total : IsTotalOrder by_name
by_name_total = on_total (λ p. p.0) nat_list_cmp_total

names_above : (x : List ℕ × ℤ) (xs : List (List ℕ × ℤ)) → AllByRecursion (λ y. by_name x y ≡ Less) xs
    → AllByRecursion (λ n. slice_cmp nat_cmp x.0 n ≡ Less) (map (λ pair. pair.0) xs)
names_above x [] h = tt
names_above x (y ∷ xs) h = (h.0, names_above x xs h.1)

names_rise : (xs : List (List ℕ × ℤ)) → IsStrictlySortedBy by_name xs → IsStrictlySortedBy (slice_cmp nat_cmp) (map (λ pair. pair.0) xs)
unfolding IsStrictlySortedBy
names_rise [] h = tt
names_rise (x ∷ xs) h = (names_above x xs h.0, names_rise xs h.1)

pub named_rises : (S : Catalog) (attrs : List (ℕ × ℤ)) → IsNamedAttrs (named S attrs)
named_rises S attrs = record { rising = names_rise (named S attrs) (sorted-rising by_name_total (filter_map (with_name S) attrs)) }

-- ---- as code sorts them

alike : (x y : NamedValue) → by_name (pair_of x) (pair_of y) ≡ order.ghosts.cmp x y
alike x y = search rules

-- in order by their names, the same pairs
pub in_order : (S : Catalog) (attrs : List (ℕ × ℤ)) (all : List NamedValue) → map pair_of all ≡ filter_map (with_name S) attrs
    → map pair_of (rising order.ghosts.cmp all) ≡ named S attrs
in_order S attrs all same = sym (rising-map pair_of order.ghosts.cmp by_name alike all) ∙ ap (rising by_name) same

-- one attribute more
pub one_more : (S : Catalog) (attrs : List (ℕ × ℤ)) (d : ℕ × ℤ) (count done : ℕ) → count ≡ length attrs → done < count
    → (all : List NamedValue) (new : NamedValue) → map pair_of all ≡ filter_map (with_name S) (drop (count - done) attrs)
    → Some (pair_of new) ≡ with_name S (get_or attrs (count - 1 - done) d)
    → map pair_of (new ∷ all) ≡ filter_map (with_name S) (drop (count - (done + 1)) attrs)
one_more S attrs d count done is below all new before pair =
    let i : ℕ = count - 1 - done in
    let here : count - (done + 1) ≡ i = omega arith in
    let next : suc i ≡ count - done = omega (arith, below) in
    let inside : i < length attrs = omega (arith, is, below) in
    (λ k. cons_option (pair k) (before k))
    ∙ ap (λ n. cons_option (with_name S (get_or attrs i d)) (filter_map (with_name S) (drop n attrs))) (sym next)
    ∙ ap (filter_map (with_name S)) (sym (drop-cons attrs i d inside))
    ∙ ap (λ n. filter_map (with_name S) (drop n attrs)) (sym here)

-- all attributes
pub all_named : (S : Catalog) (attrs : List (ℕ × ℤ)) (done : ℕ) → length attrs ≤ done → (all : List NamedValue)
    → map pair_of all ≡ filter_map (with_name S) (drop (length attrs - done) attrs) → map pair_of (rising order.ghosts.cmp all) ≡ named S attrs
all_named S attrs done over all same =
    let none : length attrs - done ≡ 0 = omega (arith, over) in
    in_order S attrs all (same ∙ ap (λ n. filter_map (with_name S) (drop n attrs)) none)
