-- The first refusal that is due, and the attributes by number.
use Rattle.std.proofs.Common.{◌≡◌, ℕ, ◌+◌, ◌<◌, ℤ, List, [], ◌∷◌, ◌++◌, length, take, get_or, filter_map, All, Option, Some, None, IfSome, Bool, true, false, cond, refl, sym, subst, ap, ◌∙◌, arith}
use Rattle.std.proofs.lemmas.List.{append-nil, map-append, take_more, length-map}
use Rattle.std.proofs.lemmas.List.Elements.{All-nil, All-push}
use Rattle.std.specs.Option.{option_map}
use Rattle.std.specs.Ordering.{nat_cmp}
use Rattle.std.specs.BTreeSet.{insert_key}
use Rattle.un_attrs.specs.Attributes.{known, in_order, by_number, bad_from, bad_place, is_bad}
use Rattle.un_schema.specs.Catalog.{Catalog, place_of}
use Rattle.un_defs.specs.declared.refusal.Refusal.{Refusal}
use Rattle.un_defs.specs.Orders.{rising}
use Rattle.un_defs.specs.Change.{numbered}
use Rattle.un_store.specs.Refusals.{first_refusal, numbers_of}

pub refusal_first : (d : Option Refusal) (ds : List (Option Refusal)) (r : Refusal) → d ≡ Some r → first_refusal (d ∷ ds) ≡ Some r
refusal_first d ds r e = rw e refl

pub refusal_later : (d : Option Refusal) (ds : List (Option Refusal)) → d ≡ None → first_refusal (d ∷ ds) ≡ first_refusal ds
refusal_later d ds e = rw e refl

rising_is : (pairs : List (ℕ × ℤ)) → in_order pairs ≡ rising (λ a b. nat_cmp a.0 b.0) pairs
rising_is [] = refl
rising_is (p ∷ ps) = ap (λ l. insert_key by_number l p) (rising_is ps)

known_numbers : (S : Catalog) (attrs : List (List ℕ × ℤ)) → known (numbers_of S attrs) ≡ filter_map (λ pair. option_map (λ n. (n, pair.1)) (place_of pair.0 S.attributes)) attrs
known_numbers S [] = refl
known_numbers S (a ∷ more) = rw (known_numbers S more) refl

pub numbered_is : (S : Catalog) (attrs : List (List ℕ × ℤ)) → in_order (known (numbers_of S attrs)) ≡ numbered S attrs
numbered_is S attrs = rising_is (known (numbers_of S attrs)) ∙ ap (rising (λ a b. nat_cmp a.0 b.0)) (known_numbers S attrs)

known-append : (xs ys : List (Option ℕ × ℤ)) → known (xs ++ ys) ≡ known xs ++ known ys
known-append [] ys = refl
known-append ((None, v) ∷ xs) ys = known-append xs ys
known-append ((Some n, v) ∷ xs) ys = ap (λ l. (n, v) ∷ l) (known-append xs ys)

-- what holds of the pairs that have a number
abbrev pub AreFew : List (Option ℕ × ℤ) → Type 0
AreFew pairs = All (λ pair. pair.0 < 32) (known pairs)

pub few_none : AreFew []
few_none = All-nil (λ (pair : ℕ × ℤ). pair.0 < 32)

pub few_more : (pairs : List (Option ℕ × ℤ)) (o : Option ℕ) (v : ℤ) → AreFew pairs → IfSome o (λ n. n < 32) → AreFew (pairs ++ (o, v) ∷ [])
few_more pairs None v h few = subst (All (λ pair. pair.0 < 32)) (sym (known-append pairs ((None, v) ∷ []) ∙ append-nil (known pairs))) h
few_more pairs (Some n) v h few = subst (All (λ pair. pair.0 < 32)) (sym (known-append pairs ((Some n, v) ∷ []))) (All-push (λ pair. pair.0 < 32) (known pairs) (n, v) h few)

-- one more name
pub numbers_more : (S : Catalog) (attrs : List (List ℕ × ℤ)) (i : ℕ) (d : List ℕ × ℤ) → i < length attrs
    → numbers_of S (take (i + 1) attrs) ≡ numbers_of S (take i attrs) ++ (place_of (get_or attrs i d).0 S.attributes, (get_or attrs i d).1) ∷ []
numbers_more S attrs i d h = ap (numbers_of S) (take_more attrs i d h) ∙ map-append (λ pair. (place_of pair.0 S.attributes, pair.1)) (take i attrs) (get_or attrs i d ∷ [])

-- the pairs so far, each number below 32
pub record NumberedUpto (S : Catalog) (named : List (List ℕ × ℤ)) (i : ℕ) (pairs : List (Option ℕ × ℤ)) : Type 0 where
  pub numbers : pairs ≡ numbers_of S (take i named)
  pub few : AreFew pairs

pub numbered_step : (S : Catalog) (named : List (List ℕ × ℤ)) (i : ℕ) (item : List ℕ × ℤ) (x : Option ℕ × ℤ) (pairs more : List (Option ℕ × ℤ))
    → i < length named → item ≡ get_or named i item → x ≡ (place_of item.0 S.attributes, item.1) → IfSome x.0 (λ n. n < 32)
    → NumberedUpto S named i pairs → more ≡ pairs ++ x ∷ [] → NumberedUpto S named (i + 1) more
numbered_step S named i item x pairs more h at is few before e = record {
  numbers = e ∙ ap (λ l. l ++ x ∷ []) before.numbers ∙ ap (λ y. numbers_of S (take i named) ++ y ∷ []) is
      ∙ ap (λ y. numbers_of S (take i named) ++ (place_of y.0 S.attributes, y.1) ∷ []) at ∙ sym (numbers_more S named i item h);
  few = subst AreFew (sym e) (few_more pairs x.0 x.1 before.few few);
}

-- the first bad pair stands within the list
bad_within : (from : ℕ) (pairs : List (Option ℕ × ℤ)) (place : ℕ) → bad_from from pairs ≡ Some place → place < from + length pairs
bad_within from [] place e = cc
bad_within from (p ∷ ps) place e = by (is_bad from p) e (bad_within (from + 1) ps place)
  where
    by : (b : Bool) → cond b (Some from) (bad_from (from + 1) ps) ≡ Some place → (bad_from (from + 1) ps ≡ Some place → place < from + 1 + length ps) → place < from + length (p ∷ ps)
    by true h ih = let same : from ≡ place = cc in omega arith
    by false h ih = omega (arith, ih h)

pub bad_named : (S : Catalog) (named : List (List ℕ × ℤ)) (place : ℕ) → bad_place (numbers_of S named) ≡ Some place → place < length named
bad_named S named place e =
    let same : length (numbers_of S named) ≡ length named = length-map named (λ pair. (place_of pair.0 S.attributes, pair.1)) in
    omega (arith, bad_within 0 (numbers_of S named) place e)
