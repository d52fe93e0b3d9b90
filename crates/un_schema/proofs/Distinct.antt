-- Names that a test finds to be distinct are.
use Rattle.std.proofs.Common.{◌≡◌, ◌≢◌, ℕ, ◌≤◌, Bool, true, false, not, ◌&&◌, ◌||◌, List, [], ◌∷◌, length, map, All, AllPairs, nat_le, refl, arith}
use Rattle.std.specs.List.{list_any, list_all}
use Rattle.std.proofs.lemmas.Bool.Decides.{nat_tests}
use Rattle.std.proofs.lemmas.Cmp.{nat_list_eq_equiv}
use Rattle.std.proofs.lemmas.List.{map-id}
use Rattle.std.proofs.lemmas.List.Elements.{All-cons}
use Rattle.std.proofs.lemmas.List.Kept.{AllPairs-cons}
use Rattle.un_conds.specs.Names.{same_text, IsNameList}
use Rattle.un_schema.specs.Names.{is_name}
use Rattle.un_schema.specs.Lists.{are_distinct, are_named}

pub both_true : (a b : Bool) → (a && b) ≡ true → (a ≡ true) × (b ≡ true)
both_true true b e = (refl, e)
both_true false b e = cc

not_true : (a : Bool) → not a ≡ true → a ≡ false
not_true true e = cc
not_true false e = refl

neither : (a b : Bool) → (a || b) ≡ false → (a ≡ false) × (b ≡ false)
neither true b e = cc
neither false b e = (refl, e)

other_text : (x y : List ℕ) → same_text x y ≡ false → x ≢ y
other_text x y differ same = let found : same_text x x ≡ true = nat_list_eq_equiv.refl x in let lost : same_text x x ≡ false = rw (← same) at differ in cc

unlike_all : {A : Type 0} (name : A → List ℕ) (x : A) (xs : List A) → list_any (λ y. same_text (name x) (name y)) xs ≡ false → All (λ z. name x ≢ z) (map name xs)
unlike_all name x [] e = λ k d few. absurd (omega arith)
unlike_all name x (y ∷ ys) e =
    let parts = neither (same_text (name x) (name y)) (list_any (λ z. same_text (name x) (name z)) ys) e in
    All-cons (λ z. name x ≢ z) (name y) (map name ys) (other_text (name x) (name y) parts.0) (unlike_all name x ys parts.1)

pub names_apart : {A : Type 0} (name : A → List ℕ) (xs : List A) → are_distinct (λ x y. same_text (name x) (name y)) xs ≡ true → AllPairs (λ x y. x ≢ y) (map name xs)
names_apart name [] e = λ i j d rising few. absurd (omega arith)
names_apart name (x ∷ xs) e =
    let parts = both_true (not (list_any (λ y. same_text (name x) (name y)) xs)) (are_distinct (λ x y. same_text (name x) (name y)) xs) e in
    AllPairs-cons (λ x y. x ≢ y) (name x) (map name xs) (unlike_all name x xs (not_true (list_any (λ y. same_text (name x) (name y)) xs) parts.0)) (names_apart name xs parts.1)

-- what the test of a list of named things finds
pub record IsNamed {A : Type 0} (name : A → List ℕ) (least most : ℕ) (xs : List A) : Type 0 where
  pub some : least ≤ length xs
  pub few : length xs ≤ most
  pub names : list_all (λ x. is_name (name x)) xs ≡ true
  pub distinct : are_distinct (λ x y. same_text (name x) (name y)) xs ≡ true

pub named_from : {A : Type 0} (name : A → List ℕ) (least most : ℕ) (xs : List A) → are_named name least most xs ≡ true → IsNamed name least most xs
named_from name least most xs e =
    let a = both_true ((nat_le least (length xs) && nat_le (length xs) most) && list_all (λ x. is_name (name x)) xs) (are_distinct (λ x y. same_text (name x) (name y)) xs) e in
    let b = both_true (nat_le least (length xs) && nat_le (length xs) most) (list_all (λ x. is_name (name x)) xs) a.0 in
    let c = both_true (nat_le least (length xs)) (nat_le (length xs) most) b.0 in
    let low : nat_le least (length xs) ≡ true = c.0 in
    let high : nat_le (length xs) most ≡ true = c.1 in
    record { some = grind (arith, nat_tests); few = grind (arith, nat_tests); names = b.1; distinct = a.1 }

-- at most 32 names that differ are a list of names
pub name_list_from : (least most : ℕ) (xs : List (List ℕ)) → most ≤ 32 → are_named (λ x. x) least most xs ≡ true → IsNameList xs
name_list_from least most xs little e =
    let named = named_from (λ x. x) least most xs e in
    record { few = omega (arith, named.few); distinct = rw (map-id xs) at (names_apart (λ x. x) xs named.distinct) }

-- the names of such things have the form of names
pub names_pass : {A : Type 0} (name : A → List ℕ) (least most : ℕ) (xs : List A) → are_named name least most xs ≡ true → list_all (λ x. is_name (name x)) xs ≡ true
names_pass name least most xs e = (named_from name least most xs e).names

pub ruleset named_lists = (names_pass, map-id)
