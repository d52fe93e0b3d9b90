-- The points, the attributes and the terminals that an edit gives are in range where no refusal is due for them.
use Rattle.std.proofs.Common.{◌≡◌, ℕ, suc, ◌<◌, ◌≤◌, ℤ, pos, List, [], ◌∷◌, length, map, filter_map, slice_get, All, IsTrue, Option, Some, None, IfSome, IsSome, true, true≢false, refl, sym, ap, ◌∙◌, arith}
use Rattle.std.specs.Prelude.{option_and_then, int_le, neg_ℤ}
use Rattle.std.specs.declared.cmp.Ordering.{Ordering}
use Rattle.std.specs.declared.cmp.Ordering.TheVariants.{Less, Equal, Greater}
use Rattle.std.specs.Ordering.{nat_cmp, match_ordering}
use Rattle.std.specs.List.{list_all, cons_option}
use Rattle.std.specs.Option.{option_map, option_map_or}
use Rattle.std.specs.BTreeSet.{insert_key}
use Rattle.std.proofs.lemmas.List.{length-map}
use Rattle.std.proofs.lemmas.List.Elements.{All-map, All-weaker}
use Rattle.std.proofs.lemmas.List.Quantifiers.{position-Some}
use Rattle.un_geom.specs.Rectangle.{IsCoordinate}
use Rattle.un_geom.specs.Places.{in_range, point_of, IsPlace, bad_place}
use Rattle.un_geom.proofs.BadPlaces.{good_triples}
use Rattle.un_geom.proofs.Rectangles.{test_le}
use Rattle.un_attrs.specs.Attributes.{known, IsAttributes, bad_place as bad_pair}
use Rattle.un_attrs.proofs.PairLemmas.{attributes_from}
use Rattle.un_schema.specs.declared.kind.Class.{Class}
use Rattle.un_schema.specs.declared.kind.Class.TheVariants.{Device, Junction, Line, Assembly, Structure}
use Rattle.un_schema.specs.declared.kind.Kind.{Kind}
use Rattle.un_schema.specs.Catalog.{Catalog, PathSet, kind_at, config_of, place_of, same_text}
use Rattle.un_schema.specs.Sound.{IsCatalog, IsPathSet}
use Rattle.un_defs.specs.declared.refusal.Refusal.TheVariants as refusal
use Rattle.un_defs.specs.Orders.{rising}
use Rattle.un_defs.specs.Sound.{terminals_by_class, terminals_of_kind, least_points, most_points}
use Rattle.un_defs.specs.Change.{numbered}
use Rattle.un_defs.proofs.Rising.{among_from-rising}
use Rattle.un_defs.proofs.Members.{among_from-map, among_from-filter_map}
use Rattle.un_defs.proofs.LinkCases.{both_true, some_same}
use Rattle.un_store.specs.Refusals.{bad_shape, bad_attribute, numbers_of}
use Rattle.un_store.proofs.FirstRefusal.{numbered_is, bad_named}
use Rattle.un_store.proofs.Fitting.{config_is}
use Rattle.un_store.proofs.Makings.{some_at}
use Rattle.un_facts.proofs.Alone.{unmapped}
use Rattle.un_defs.proofs.KeepsSound.{all_from}

-- ---- points

coordinate : (n : ℤ) → in_range n ≡ true → IsCoordinate n
coordinate n e =
    let parts = both_true (int_le (neg_ℤ (pos 1_000_000_000)) n) (int_le n (pos 1_000_000_000)) e in
    record { not_below = test_le (neg_ℤ (pos 1_000_000_000)) n parts.0; not_above = test_le n (pos 1_000_000_000) parts.1 }

origin : IsPlace (record { x = pos 0; y = pos 0; z = pos 0 })
origin = record { x = coordinate (pos 0) refl; y = coordinate (pos 0) refl; z = coordinate (pos 0) refl }

place : (t : List ℤ) → IsTrue (list_all in_range t) → IsPlace (point_of t)
place [] h = origin
place (x ∷ []) h = origin
place (x ∷ y ∷ []) h = origin
place (x ∷ y ∷ z ∷ rest) h =
    let first = both_true (in_range x) (list_all in_range (y ∷ z ∷ rest)) h in
    let second = both_true (in_range y) (list_all in_range (z ∷ rest)) first.1 in
    let third = both_true (in_range z) (list_all in_range rest) second.1 in
    record { x = coordinate x first.0; y = coordinate y second.0; z = coordinate z third.0 }

pub points_in_range : (class : Class) (points : List (List ℤ)) → bad_shape class points ≡ None → All IsPlace (map point_of points)
points_in_range class points none =
    let good = good_triples (least_points class) (most_points class) points (unmapped (λ place. refusal.BadShape place) (bad_place (least_points class) (most_points class) points) none) in
    All-map IsPlace point_of points (All-weaker (λ t. IsTrue (list_all in_range t)) (λ t. IsPlace (point_of t)) place points good)

-- ---- attributes

no_bad_pair : (S : Catalog) (attrs : List (List ℕ × ℤ)) → bad_attribute S attrs ≡ None → bad_pair (numbers_of S attrs) ≡ None
no_bad_pair S attrs none = go (bad_pair (numbers_of S attrs)) refl (unmapped (λ pair. refusal.BadAttribute pair.0) _ none)
  where
    nothing : (o : Option (List ℕ × ℤ)) → IsSome o → o ≡ None → ⊥
    nothing None some e = true≢false (sym some)
    nothing (Some x) some e = cc

    go : (o : Option ℕ) → bad_pair (numbers_of S attrs) ≡ o → option_and_then (λ place. slice_get attrs place) o ≡ None → o ≡ None
    go None is e = refl
    go (Some place) is e = absurd (nothing (slice_get attrs place) (some_at attrs place (bad_named S attrs place is)) e)

-- a mapped option has the number of what it maps
number_is : (o : Option ℕ) (v : ℤ) (pair : ℕ × ℤ) → option_map (λ n. (n, v)) o ≡ Some pair → o ≡ Some pair.0
number_is None v pair e = let none : None ≡ Some pair = e in cc
number_is (Some n) v pair e = ap (λ p. Some p.0) (some_same (n, v) pair e)

pub place_within : (name : List ℕ) (names : List (List ℕ)) (n : ℕ) → place_of name names ≡ Some n → n < length names
place_within name names n e = (position-Some (same_text name) names n [] e).0

-- the numbers of attributes are those of names of the schema
pub attrs_named : (S : Catalog) (attrs : List (List ℕ × ℤ)) → All (λ pair. pair.0 < length S.attributes) (numbered S attrs)
attrs_named S attrs = all_from (λ pair. pair.0 < length S.attributes) (numbered S attrs) (λ pair h.
    let number : List ℕ × ℤ → Option (ℕ × ℤ) = λ pair. option_map (λ n. (n, pair.1)) (place_of pair.0 S.attributes) in
    let given = among_from-filter_map number attrs pair (among_from-rising (λ a b. nat_cmp a.0 b.0) (filter_map number attrs) pair h) in
    place_within (given.0).0 S.attributes pair.0 (number_is (place_of (given.0).0 S.attributes) (given.0).1 pair given.2))

known_small : (S : Catalog) → IsCatalog S → (attrs : List (List ℕ × ℤ)) → All (λ pair. pair.0 < 32) (known (numbers_of S attrs))
known_small S catalog attrs = all_from (λ pair. pair.0 < 32) (known (numbers_of S attrs)) (λ pair h.
    let given = among_from-filter_map (λ pair. option_map (λ n. (n, pair.1)) pair.0) (numbers_of S attrs) pair h in
    let name = among_from-map (λ pair. (place_of pair.0 S.attributes, pair.1)) attrs given.0 given.1 in
    let is = ap (λ p. p.0) name.2 ∙ number_is (given.0).0 (given.0).1 pair given.2 in
    let within = place_within (name.0).0 S.attributes pair.0 is in
    let few = catalog.attributes.few in
    omega (arith, within, few))

length_inserted : {A : Type 0} (cmp : A → A → Ordering) (ys : List A) (x : A) → length (insert_key cmp ys x) ≤ suc (length ys)
length_inserted cmp [] x = omega arith
length_inserted cmp (y ∷ ys) x = by (cmp x y) (length_inserted cmp ys x)
  where
    by : (o : Ordering) → length (insert_key cmp ys x) ≤ suc (length ys)
        → length (match_ordering o (x ∷ y ∷ ys) (y ∷ ys) (y ∷ insert_key cmp ys x)) ≤ suc (length (y ∷ ys))
    by Less rest = omega arith
    by Equal rest = omega arith
    by Greater rest = omega (arith, rest)

length_rising : {A : Type 0} (cmp : A → A → Ordering) (xs : List A) → length (rising cmp xs) ≤ length xs
length_rising cmp [] = omega arith
length_rising cmp (x ∷ xs) = let here = length_inserted cmp (rising cmp xs) x in let rest = length_rising cmp xs in omega (arith, here, rest)

length_kept : {A B : Type 0} (f : A → Option B) (xs : List A) → length (filter_map f xs) ≤ length xs
length_kept f [] = omega arith
length_kept f (x ∷ xs) = by (f x) (length_kept f xs)
  where
    by : (o : Option _) → length (filter_map f xs) ≤ length xs → length (cons_option o (filter_map f xs)) ≤ length (x ∷ xs)
    by None rest = omega (arith, rest)
    by (Some y) rest = omega (arith, rest)

pub attrs_in_range : (S : Catalog) → IsCatalog S → (attrs : List (List ℕ × ℤ)) → bad_attribute S attrs ≡ None → IsAttributes (numbered S attrs)
attrs_in_range S catalog attrs none = attributes_from (numbers_of S attrs) (numbered S attrs) (no_bad_pair S attrs none) (known_small S catalog attrs)
    (sym (numbered_is S attrs)) short
  where
    number : List ℕ × ℤ → Option (ℕ × ℤ)
    number pair = option_map (λ n. (n, pair.1)) (place_of pair.0 S.attributes)

    short : length (numbered S attrs) ≤ length (numbers_of S attrs)
    short =
        let sorted = length_rising (λ a b. nat_cmp a.0 b.0) (filter_map number attrs) in
        let kept = length_kept number attrs in
        let same = length-map {B = Option ℕ × ℤ} attrs (λ pair. (place_of pair.0 S.attributes, pair.1)) in
        omega (arith, sorted, kept, same)

-- ---- terminals

class_terminals : (c : Class) (n : ℕ) → n ≤ 63 → terminals_by_class c n ≤ 63
class_terminals Device n few = few
class_terminals Junction n few = omega arith
class_terminals Line n few = omega arith
class_terminals Assembly n few = omega arith
class_terminals Structure n few = omega arith

config_terminals : (o : Option PathSet) → IfSome o IsPathSet → option_map_or (λ c. c.config.terminals) o 1 ≤ 63
config_terminals None is = omega arith
config_terminals (Some c) is = let few = is.config.few in omega (arith, few)

kind_terminals : (o : Option Kind) (n : ℕ) → n ≤ 63 → option_map_or (λ k. terminals_by_class k.class n) o 0 ≤ 63
kind_terminals None n few = omega arith
kind_terminals (Some k) n few = class_terminals k.class n few

-- no kind has more than eight terminals
pub terminals_in_range : (S : Catalog) → IsCatalog S → (k : ℕ) → terminals_of_kind S k ≤ 63
terminals_in_range S catalog k =
    kind_terminals (kind_at S k) (option_map_or (λ c. c.config.terminals) (config_of S k) 1) (config_terminals (config_of S k) (config_is S catalog k))
