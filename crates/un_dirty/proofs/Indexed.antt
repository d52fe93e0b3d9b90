-- Lists of areas whose numbers are in the cells.
use Rattle.std.proofs.Common.{◌≡◌, ◌≢◌, ℕ, zero, suc, ◌+◌, ◌<◌, ◌≤◌, Bool, true, false, not, cond, List, [], ◌∷◌, ◌++◌, filter, length, take, get_or, refl, sym, subst, arith}
use Rattle.std.specs.declared.cmp.Ordering.{Ordering}
use Rattle.std.specs.declared.cmp.Ordering.TheVariants.{Less, Equal, Greater}
use Rattle.std.specs.Ordering.{nat_cmp}
use Rattle.std.specs.Cmp.{ranked}
use Rattle.std.specs.List.{AllByRecursion, enumerate_from}
use Rattle.std.specs.List.Sorted.{IsStrictlySortedBy}
use Rattle.un_geom.specs.Rectangle.{Rectangle}
use Rattle.un_pages.specs.Pairs.{IsOrdered, IsAbove}
use Rattle.un_dirty.specs.Cells.{CellMap, level_of, cell_at, KeepsBelow, KeepsBut, IsIndexed}
use Rattle.un_dirty.proofs.Adding.{enumerate_more, got}
use Rattle.un_dirty.proofs.Numbering.{differ}

-- what holds below a number, and of it, holds below the next one
pub one_more : (P : ℕ → Type 0) (l : ℕ) → ((n : ℕ) → n < l → P n) → P l → (n : ℕ) → n < l + 1 → P n
one_more P l below here n h = by (nat_cmp n l) refl
  where
    by : (o : Ordering) → nat_cmp n l ≡ o → P n
    by Less e = below n (ranked n l Less (sym e))
    by Equal e = let same : n ≡ l = ranked n l Equal (sym e) in subst P (sym same) here
    by Greater e = let over : l < n = ranked n l Greater (sym e) in absurd (omega (arith, h, over))

-- ---- lists of areas

pub all_at : {X : Type 0} (P : X → Type 0) (l : List X) (i : ℕ) (x : X) → i < length l → x ≡ get_or l i x → AllByRecursion P l → P x
all_at P [] i x within here h = absurd (omega arith)
all_at P (y ∷ l) zero x within here h = subst P (sym here) h.0
all_at P (y ∷ l) (suc i) x within here h = all_at P l i x (omega arith) here h.1

pub indexed_more : (old new : CellMap) (l m first : ℕ) (a : ℕ × Rectangle) → KeepsBelow first old new → l ≤ m → a.0 < first → IsIndexed old l a → IsIndexed new m a
indexed_more old new l m first a h le low is = record { low = omega (arith, is.low, le); all = λ p e. h (cell_at (level_of a.1) p) a.0 a.1 low (is.all p e) }

pub all_more : (old new : CellMap) (l m first : ℕ) (areas : List (ℕ × Rectangle)) → KeepsBelow first old new → l ≤ m → AllByRecursion (λ a. a.0 < first) areas
    → AllByRecursion (IsIndexed old l) areas → AllByRecursion (IsIndexed new m) areas
all_more old new l m first [] h le low is = tt
all_more old new l m first (a ∷ areas) h le low is = (indexed_more old new l m first a h le low.0 is.0, all_more old new l m first areas h le low.1 is.1)

pub all_append : (P : ℕ × Rectangle → Type 0) (a b : List (ℕ × Rectangle)) → AllByRecursion P a → AllByRecursion P b → AllByRecursion P (a ++ b)
all_append P [] b h g = g
all_append P (x ∷ a) b h g = (h.0, all_append P a b h.1 g)

-- one rectangle more is shown
pub next_indexed : (cells : CellMap) (l first i number : ℕ) (rects : List Rectangle) (r : Rectangle) → i < length rects → r ≡ get_or rects i r → number ≡ first + i
    → AllByRecursion (IsIndexed cells l) (enumerate_from first (take i rects)) → IsIndexed cells l (number, r) → AllByRecursion (IsIndexed cells l) (enumerate_from first (take (i + 1) rects))
next_indexed cells l first i number rects r within here at is indexed =
    let e : suc i ≡ i + 1 = omega arith in
    let last : IsIndexed cells l (first + i, r) = subst (λ n. IsIndexed cells l (n, r)) at indexed in
    subst (λ k. AllByRecursion (IsIndexed cells l) (enumerate_from first (take k rects))) e
    (subst (AllByRecursion (IsIndexed cells l)) (sym (enumerate_more first i rects r (got rects i r within here)))
    (all_append (IsIndexed cells l) (enumerate_from first (take i rects)) ((first + i, r) ∷ []) is (last, tt)))

-- ---- areas that stay beside areas that go

module _ (test : ℕ × Rectangle → Bool) where
  some_left : (P : ℕ × Rectangle → Type 0) (areas : List (ℕ × Rectangle)) → AllByRecursion P areas → AllByRecursion P (filter test areas)
  some_left P [] h = tt
  some_left P (a ∷ areas) h = elim (test a) as (λ b. AllByRecursion P (cond b (a ∷ filter test areas) (filter test areas))) [ true ↦ (h.0, some_left P areas h.1) | false ↦ some_left P areas h.1 ]

others_left : (test : ℕ × Rectangle → Bool) (P : ℕ × Rectangle → Type 0) (areas : List (ℕ × Rectangle)) → AllByRecursion P areas → AllByRecursion P (filter (λ a. not (test a)) areas)
others_left test P areas h = some_left (λ a. not (test a)) P areas h

above : (n : ℕ) (l : List (ℕ × Rectangle)) → IsAbove nat_cmp n l → AllByRecursion (λ a. nat_cmp n a.0 ≡ Less) l
above n [] h = tt
above n (x ∷ l) h = (h.0, above n l h.1)

each : (P Q : ℕ × Rectangle → Type 0) (l : List (ℕ × Rectangle)) → ((a : ℕ × Rectangle) → P a → Q a) → AllByRecursion P l → AllByRecursion Q l
each P Q [] f h = tt
each P Q (x ∷ l) f h = (f x h.0, each P Q l f h.1)

pairs : (P Q : ℕ × Rectangle → Type 0) (l : List (ℕ × Rectangle)) → AllByRecursion P l → AllByRecursion Q l → AllByRecursion (λ a. P a × Q a) l
pairs P Q [] h g = tt
pairs P Q (x ∷ l) h g = ((h.0, g.0), pairs P Q l h.1 g.1)

-- the areas that pass have other numbers than those that do not
parted : (test : ℕ × Rectangle → Bool) (areas : List (ℕ × Rectangle)) → IsOrdered nat_cmp areas → AllByRecursion (λ a. AllByRecursion (λ g. a.0 ≢ g.0) (filter test areas)) (filter (λ a. not (test a)) areas)
unfolding IsStrictlySortedBy
parted test [] s = tt
parted test (x ∷ l) s = by (test x) (parted test l s.1)
  where
    after : AllByRecursion (λ a. nat_cmp x.0 a.0 ≡ Less) l
    after = above x.0 l s.0

    by : (b : Bool) → AllByRecursion (λ a. AllByRecursion (λ g. a.0 ≢ g.0) (filter test l)) (filter (λ a. not (test a)) l)
        → AllByRecursion (λ a. AllByRecursion (λ g. a.0 ≢ g.0) (cond b (x ∷ filter test l) (filter test l))) (cond (not b) (x ∷ filter (λ a. not (test a)) l) (filter (λ a. not (test a)) l))
    by true ih = pairs (λ a. a.0 ≢ x.0) (λ a. AllByRecursion (λ g. a.0 ≢ g.0) (filter test l)) (filter (λ a. not (test a)) l)
        (others_left test (λ a. a.0 ≢ x.0) l (each (λ a. nat_cmp x.0 a.0 ≡ Less) (λ a. a.0 ≢ x.0) l (λ a h e. differ x.0 a.0 h (sym e)) after)) ih
    by false ih = (some_left test (λ g. x.0 ≢ g.0) l (each (λ a. nat_cmp x.0 a.0 ≡ Less) (λ a. x.0 ≢ a.0) l (λ a h. differ x.0 a.0 h) after), ih)

-- the areas that do not pass are still shown once the numbers of those that pass are taken out
pub left_indexed : (test : ℕ × Rectangle → Bool) (areas gone : List (ℕ × Rectangle)) (old new : CellMap) (l : ℕ) → IsOrdered nat_cmp areas → gone ≡ filter test areas
    → KeepsBut gone old new
    → AllByRecursion (IsIndexed old l) areas → AllByRecursion (IsIndexed new l) (filter (λ a. not (test a)) areas)
left_indexed test areas gone old new l s e kept is =
    each (λ a. IsIndexed old l a × AllByRecursion (λ g. a.0 ≢ g.0) (filter test areas)) (IsIndexed new l) (filter (λ a. not (test a)) areas)
    (λ a h. record { low = h.0.low; all = λ p c. kept (cell_at (level_of a.1) p) a.0 a.1 (subst (AllByRecursion (λ g. a.0 ≢ g.0)) (sym e) h.1) (h.0.all p c) })
    (pairs (IsIndexed old l) (λ a. AllByRecursion (λ g. a.0 ≢ g.0) (filter test areas)) (filter (λ a. not (test a)) areas) (others_left test (IsIndexed old l) areas is) (parted test areas s))
