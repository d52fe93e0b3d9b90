-- The order of walks: it is total, only equal walks tie, and what follows for walks of which none comes before another.
use Rattle.std.proofs.Common.{◌≡◌, ℕ, ◌≤◌, nat_cmp, Ordering, Less, Equal, Greater, true, false, List, length, reverse, inl, inr, refl, sym, ap, ◌∙◌, arith, true≢false}
use Rattle.std.specs.Ordering.{ordering_then, ordering_reverse, is_le, is_gt}
use Rattle.std.specs.Cmp.{IsTotalOrder, on_total, then_total, nat_cmp_total}
use Rattle.std.specs.Cmp.Lexicographic.{lists_total, slice_cmp}
use Rattle.std.specs.FinMap.{slice_cmp-IsAntisymmetric}
use Rattle.std.proofs.lemmas.Bool.{cases_lt}
use Rattle.std.proofs.lemmas.Cmp.{upto}
use Rattle.std.proofs.lemmas.List.{reverse-reverse}
use Rattle.un_defs.specs.declared.port.Node.{Node}
use Rattle.un_defs.specs.Orders.{node_cmp}
use Rattle.un_defs.proofs.OrderLaws.{node_total, node_ties}
use Rattle.un_path.specs.Costs.{walk_cost}
use Rattle.un_path.specs.Paths.{walk_cmp}
use Rattle.un_path.proofs.Numbers.{less_by, equal_by}

-- a comparison by two numbers, then by more
pub le_first : (a b : ℕ) (o : Ordering) → a ≤ b → (a ≡ b → is_le o ≡ true) → is_le (ordering_then (nat_cmp a b) o) ≡ true
le_first a b o low tied = elim (cases_lt a b) [
  | inl less ↦ ap (λ r. is_le (ordering_then r o)) (less_by a b less)
  | inr high ↦ (let same : a ≡ b = omega arith in ap (λ r. is_le (ordering_then r o)) (ap (nat_cmp a) (sym same) ∙ equal_by a) ∙ tied same)
]

pub first_le : (o p : Ordering) → is_le (ordering_then o p) ≡ true → is_le o ≡ true
first_le Less p e = refl
first_le Equal p e = refl
first_le Greater p e = e

second_tied : (o p : Ordering) → ordering_then o p ≡ Equal → p ≡ Equal
second_tied Less p e = let f : Less ≡ Equal = e in cc
second_tied Equal p e = e
second_tied Greater p e = let f : Greater ≡ Equal = e in cc

-- ---- of any order

le_or_less : (o p : Ordering) → o ≡ ordering_reverse p → (is_le o ≡ true → ¬ (p ≡ Less)) × (¬ (p ≡ Less) → is_le o ≡ true)
le_or_less o Less e = (λ l _. true≢false (sym l ∙ ap is_le e), λ n. absurd (n refl))
le_or_less o Equal e = (λ l f. (let g : Equal ≡ Less = f in cc), λ n. ap is_le e)
le_or_less o Greater e = (λ l f. (let g : Greater ≡ Less = f in cc), λ n. ap is_le e)

no_gt : (o : Ordering) → is_le o ≡ true → is_gt o ≡ false
no_gt Less e = refl
no_gt Equal e = refl
no_gt Greater e = sym e

le_back : (o : Ordering) → is_gt o ≡ false → is_le o ≡ true
le_back Less e = refl
le_back Equal e = refl
le_back Greater e = sym e

both_le : (o p : Ordering) → o ≡ ordering_reverse p → is_le o ≡ true → is_le p ≡ true → o ≡ Equal
both_le o Less e l m = absurd (true≢false (sym l ∙ ap is_le e))
both_le o Equal e l m = e
both_le o Greater e l m = absurd (true≢false (sym m))

module _ {A : Type 0} {cmp : A → A → Ordering} (o : IsTotalOrder cmp) where
  pub not_less : (x y : A) → is_le (cmp x y) ≡ true → ¬ (cmp y x ≡ Less)
  not_less x y = (le_or_less (cmp x y) (cmp y x) (o.antisymm x y)).0

  pub le_by : (x y : A) → ¬ (cmp y x ≡ Less) → is_le (cmp x y) ≡ true
  le_by x y = (le_or_less (cmp x y) (cmp y x) (o.antisymm x y)).1

  pub le_trans : (x y z : A) → is_le (cmp x y) ≡ true → is_le (cmp y z) ≡ true → is_le (cmp x z) ≡ true
  le_trans x y z e f = le_back (cmp x z) (upto o x y z (no_gt (cmp x y) e) (no_gt (cmp y z) f))

  pub tied_by : (x y : A) → is_le (cmp x y) ≡ true → is_le (cmp y x) ≡ true → cmp x y ≡ Equal
  tied_by x y = both_le (cmp x y) (cmp y x) (o.antisymm x y)

-- ---- of walks

pub walk_total : (cost : Node → Node → ℕ) → IsTotalOrder (walk_cmp cost)
walk_total cost =
    then_total (on_total (walk_cost cost) nat_cmp_total)
    (then_total (on_total (λ (nodes : List Node). length nodes) nat_cmp_total) (on_total (λ (nodes : List Node). reverse nodes) (lists_total node_total)))

pub walk_ties : (cost : Node → Node → ℕ) (xs ys : List Node) → walk_cmp cost xs ys ≡ Equal → xs ≡ ys
walk_ties cost xs ys e =
    let turned : slice_cmp node_cmp (reverse xs) (reverse ys) ≡ Equal =
    second_tied (nat_cmp (length xs) (length ys)) (slice_cmp node_cmp (reverse xs) (reverse ys)) (second_tied (nat_cmp (walk_cost cost xs) (walk_cost cost ys)) _ e) in
    sym (reverse-reverse xs) ∙ ap reverse (slice_cmp-IsAntisymmetric node_ties (reverse xs) (reverse ys) turned) ∙ reverse-reverse ys
