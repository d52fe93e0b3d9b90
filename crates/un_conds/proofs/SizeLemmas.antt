-- Each condition has a part, and resolving keeps how deep and how large it is.
use Rattle.std.proofs.Common.{◌≡◌, ℕ, ◌≤◌, nat_le, true, List, Option, Some, None, arith, refl, IfSome}
use Rattle.std.proofs.lemmas.Bool.Decides.{nat_tests}
use Rattle.std.specs.Option.{option_map}
use Rattle.un_conds.specs.Conditions.{Condition, Has, Test, And, Or, Not}
use Rattle.un_conds.specs.Names.{place_of}
use Rattle.un_conds.specs.Sizes.{depth, node_count, is_small, HasSmallNumbers, IsSmall}
use Rattle.un_conds.specs.Resolution.{joined, numbered}

pub one_le-depth : {N : Type 0} (c : Condition N) → 1 ≤ depth c
one_le-depth (Has c) = omega arith
one_le-depth (Test op a n) = omega arith
one_le-depth (And c d) = omega arith
one_le-depth (Or c d) = omega arith
one_le-depth (Not c) = omega arith

pub one_le-node_count : {N : Type 0} (c : Condition N) → 1 ≤ node_count c
one_le-node_count (Has c) = omega arith
one_le-node_count (Test op a n) = omega arith
one_le-node_count (And c d) = omega arith
one_le-node_count (Or c d) = omega arith
one_le-node_count (Not c) = omega arith

pub ruleset sizes = (one_le-depth, one_le-node_count)

-- two conditions are as deep and as large as each other
pub record IsAsLarge {N : Type 0} (c : Condition N) (d : Condition ℕ) : Type 0 where
  pub depth : depth d ≡ depth c
  pub parts : node_count d ≡ node_count c

IfSome-map : {A B : Type 0} (f : A → B) (x : Option A) (R : B → Type 0) → ((a : A) → R (f a)) → IfSome (option_map f x) R
IfSome-map f None R r = tt
IfSome-map f (Some a) R r = r a

IfSome-map_from : {A B : Type 0} (f : A → B) (x : Option A) (P : A → Type 0) (R : B → Type 0) → IfSome x P → ((a : A) → P a → R (f a)) → IfSome (option_map f x) R
IfSome-map_from f None P R p r = tt
IfSome-map_from f (Some a) P R p r = r a p

IfSome-joined : (join : Condition ℕ → Condition ℕ → Condition ℕ) (x y : Option (Condition ℕ)) (P Q R : Condition ℕ → Type 0) → IfSome x P → IfSome y Q
    → ((a b : Condition ℕ) → P a → Q b → R (join a b)) → IfSome (joined join x y) R
IfSome-joined join None y P Q R p q r = tt
IfSome-joined join (Some a) None P Q R p q r = tt
IfSome-joined join (Some a) (Some b) P Q R p q r = r a b p q

and_large : {N : Type 0} (c d : Condition N) (a b : Condition ℕ) → IsAsLarge c a → IsAsLarge d b → IsAsLarge (And c d) (And a b)
and_large c d a b p q = record { depth = omega arith; parts = omega arith }

or_large : {N : Type 0} (c d : Condition N) (a b : Condition ℕ) → IsAsLarge c a → IsAsLarge d b → IsAsLarge (Or c d) (Or a b)
or_large c d a b p q = record { depth = omega arith; parts = omega arith }

not_large : {N : Type 0} (c : Condition N) (a : Condition ℕ) → IsAsLarge c a → IsAsLarge (Not c) (Not a)
not_large c a p = record { depth = omega arith; parts = omega arith }

-- a condition by numbers is as deep and as large as the one by names
pub numbered_large : (A C : List (List ℕ)) (c : Condition (List ℕ)) → IfSome (numbered A C c) (IsAsLarge c)
numbered_large A C (Has name) = IfSome-map Has (place_of name C) _ (λ a. record { depth = refl; parts = refl })
numbered_large A C (Test op name n) = IfSome-map (λ a. Test op a n) (place_of name A) _ (λ a. record { depth = refl; parts = refl })
numbered_large A C (And c d) = IfSome-joined And (numbered A C c) (numbered A C d) _ _ _ (numbered_large A C c) (numbered_large A C d) (and_large c d)
numbered_large A C (Or c d) = IfSome-joined Or (numbered A C c) (numbered A C d) _ _ _ (numbered_large A C c) (numbered_large A C d) (or_large c d)
numbered_large A C (Not c) = IfSome-map_from Not (numbered A C c) _ _ (numbered_large A C c) (not_large c)

-- what is made of a small condition is small
pub small_from : (A C : List (List ℕ)) (c : Condition (List ℕ)) (d : Condition ℕ) → is_small c ≡ true → numbered A C c ≡ Some d → HasSmallNumbers d → IsSmall d
small_from A C c d small is numbers =
    let same : IsAsLarge c d = rw is at (numbered_large A C c) in
    let deep : nat_le (depth c) 16 ≡ true = grind (arith, nat_tests) in
    let large : nat_le (node_count c) 64 ≡ true = grind (arith, nat_tests) in
    record { shallow = grind (arith, nat_tests); few = grind (arith, nat_tests); numbers = numbers }
