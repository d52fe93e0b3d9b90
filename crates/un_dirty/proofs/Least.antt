-- The least number of an area that covers a point.
use Rattle.std.proofs.Common.{◌≡◌, ℕ, ◌<◌, ◌≤◌, Bool, true, false, cond, List, [], ◌∷◌, find, min, Option, Some, None, IfSome, refl, sym, ◌∙◌, ap, subst, arith, true≢false}
use Rattle.std.specs.declared.cmp.Ordering.{Ordering}
use Rattle.std.specs.declared.cmp.Ordering.TheVariants.{Less, Equal, Greater}
use Rattle.std.specs.Ordering.{nat_cmp, is_eq}
use Rattle.std.specs.Cmp.{nat_cmp_is, ranked}
use Rattle.std.specs.FinMap.{nat_cmp-IsAntisymmetric}
use Rattle.std.specs.List.{AllByRecursion}
use Rattle.std.specs.List.Sorted.{IsStrictlySortedBy}
use Rattle.std.specs.Map.{lookup}
use Rattle.std.specs.BTreeMap.{is_at}
use Rattle.std.specs.Option.{is_some, option_map}
use Rattle.std.proofs.Math.Nat.{min-eq_left, min-eq_right, min-le_left, min-le_right}
use Rattle.un_geom.specs.declared.point.Point.{Point}
use Rattle.un_geom.specs.Rectangle.{Rectangle}
use Rattle.un_geom.specs.Places.{covers}
use Rattle.un_pages.specs.Pairs.{IsOrdered, IsAbove}
use Rattle.un_dirty.specs.Cells.{CellMap, IsIn, level_of, cell_at, is_covered, covers_at, lesser_of, IsAtMost, IsLeastOver, IsIndexed}
use Rattle.un_dirty.proofs.Lookups.{found_above}
use Rattle.un_dirty.proofs.Numbering.{equal, tie}

module _ {V : Type 0} where
  key_above : (m n : ℕ) (v : V) (l : List (ℕ × V)) → IsAbove nat_cmp m l → lookup (is_at (nat_cmp n)) l ≡ Some v → m < n
  key_above m n v l h e = ranked m n Less (sym (found_above nat_cmp nat_cmp-IsAntisymmetric m n l h (ap is_some e)))

  -- the first that passes is at most any that passes
  pub first_at_most : (T : ℕ × V → Bool) (n : ℕ) (v : V) (l : List (ℕ × V)) → IsOrdered nat_cmp l → lookup (is_at (nat_cmp n)) l ≡ Some v → T (n, v) ≡ true
      → IsAtMost (option_map (λ e. e.0) (find T l)) n
  unfolding IsStrictlySortedBy
  first_at_most T n v [] s e t = cc
  first_at_most T n v (x ∷ l) s e t = by (is_eq (nat_cmp n x.0)) refl (T x) refl (λ g. first_at_most T n v l s.1 g t) e
    where
      by : (b : Bool) → is_eq (nat_cmp n x.0) ≡ b → (c : Bool) → T x ≡ c → (lookup (is_at (nat_cmp n)) l ≡ Some v → IsAtMost (option_map (λ e. e.0) (find T l)) n)
          → cond b (Some x.1) (lookup (is_at (nat_cmp n)) l) ≡ Some v → IsAtMost (option_map (λ e. e.0) (cond c (Some x) (find T l))) n
      by true same true here ih e = let k : n ≡ x.0 = tie n x.0 same in omega (arith, k)
      by true same false here ih e =
          let k : n ≡ x.0 = tie n x.0 same in
          let w : v ≡ x.1 = cc in
          absurd (true≢false (sym t ∙ ap T (λ i. (k i, w i)) ∙ here))
      by false other true here ih e = let k : x.0 < n = key_above x.0 n v l s.0 e in omega (arith, k)
      by false other false here ih e = ih e

-- what covers a point
record IsArea (p : Point) (n : ℕ) (areas : List (ℕ × Rectangle)) : Type 0 where
  pub rect : Rectangle
  pub at : lookup (is_at (nat_cmp n)) areas ≡ Some rect
  pub over : covers rect p ≡ true

area_over : (p : Point) (n : ℕ) (areas : List (ℕ × Rectangle)) → covers_at p n areas ≡ true → IsArea p n areas
area_over p n areas h = by (lookup (is_at (nat_cmp n)) areas) refl h
  where
    by : (o : Option Rectangle) → lookup (is_at (nat_cmp n)) areas ≡ o → is_covered p o ≡ true → IsArea p n areas
    by None e h = absurd (true≢false (sym h))
    by (Some r) e h = record { rect = r; at = e; over = h }

-- ---- of two

pub lesser_sound : (P : ℕ → Type 0) (a b : Option ℕ) → IfSome a P → IfSome b P → IfSome (lesser_of a b) P
lesser_sound P None b h g = g
lesser_sound P (Some m) None h g = h
lesser_sound P (Some m) (Some n) h g = by (nat_cmp m n) refl
  where
    by : (o : Ordering) → nat_cmp m n ≡ o → P (min m n)
    by Less e = let low : m < n = ranked m n Less (sym e) in subst P (sym (min-eq_left (omega (arith, low)))) h
    by Equal e = let same : m ≡ n = ranked m n Equal (sym e) in subst P (sym (min-eq_left (omega (arith, same)))) h
    by Greater e = let low : n < m = ranked m n Greater (sym e) in subst P (sym (min-eq_right (omega (arith, low)))) g

pub lesser_first : (a b : Option ℕ) (n : ℕ) → IsAtMost a n → IsAtMost (lesser_of a b) n
lesser_first None b n h = absurd h
lesser_first (Some m) None n h = h
lesser_first (Some m) (Some k) n h = omega (arith, h, min-le_left m k)

pub lesser_second : (a b : Option ℕ) (n : ℕ) → IsAtMost b n → IsAtMost (lesser_of a b) n
lesser_second None b n h = h
lesser_second (Some m) None n h = absurd h
lesser_second (Some m) (Some k) n h = omega (arith, h, min-le_right m k)

-- ---- of all areas

record IsFirst (areas : List (ℕ × Rectangle)) (cells : CellMap) (levels : ℕ) (p : Point) (a : ℕ × Rectangle) : Type 0 where
  pub low : level_of a.1 < levels
  pub there : IsIn (cell_at (level_of a.1) p) a.0 a.1 cells
  pub at : lookup (is_at (nat_cmp a.0)) areas ≡ Some a.1
  pub over : covers a.1 p ≡ true

module _ (cells : CellMap) (levels : ℕ) (p : Point) where
  first_indexed : (areas : List (ℕ × Rectangle)) (a : ℕ × Rectangle) → IsOrdered nat_cmp areas → AllByRecursion (IsIndexed cells levels) areas → find (λ a. covers a.1 p) areas ≡ Some a → IsFirst areas cells levels p a
  unfolding IsStrictlySortedBy
  first_indexed [] a s is e = cc
  first_indexed (x ∷ l) a s is e = by (covers x.1 p) refl (first_indexed l a s.1 is.1) e
    where
      by : (b : Bool) → covers x.1 p ≡ b → (find (λ a. covers a.1 p) l ≡ Some a → IsFirst l cells levels p a) → cond b (Some x) (find (λ a. covers a.1 p) l) ≡ Some a → IsFirst (x ∷ l) cells levels p a
      by true c ih e =
          let same : x ≡ a = cc in
          subst (IsFirst (x ∷ l) cells levels p) same
          (record { low = is.0.low; there = is.0.all p c; at = ap (λ o. cond (is_eq o) (Some x.1) (lookup (is_at (nat_cmp x.0)) l)) (equal x.0); over = c })
      by false c ih e =
          let r = ih e in
          let greater : nat_cmp a.0 x.0 ≡ Greater = sym (nat_cmp_is a.0 x.0 Greater (key_above x.0 a.0 a.1 l s.0 r.at)) in
          record { low = r.low; there = r.there; at = ap (λ o. cond (is_eq o) (Some x.1) (lookup (is_at (nat_cmp a.0)) l)) greater ∙ r.at; over = r.over }

  pub least_is : (areas : List (ℕ × Rectangle)) (r : Option ℕ) → IsOrdered nat_cmp areas → AllByRecursion (IsIndexed cells levels) areas
      → IfSome r (λ n. covers_at p n areas ≡ true)
      → IsLeastOver levels p areas cells r
      → r ≡ option_map (λ a. a.0) (find (λ a. covers a.1 p) areas)
  least_is areas r s is sound least = by (find (λ a. covers a.1 p) areas) refl r sound least
    where
      at_most : (n : ℕ) → covers_at p n areas ≡ true → IsAtMost (option_map (λ a. a.0) (find (λ a. covers a.1 p) areas)) n
      at_most n h = let c = area_over p n areas h in first_at_most (λ a. covers a.1 p) n c.rect areas s c.at c.over

      by : (f : Option (ℕ × Rectangle)) → find (λ a. covers a.1 p) areas ≡ f → (r : Option ℕ) → IfSome r (λ n. covers_at p n areas ≡ true)
          → IsLeastOver levels p areas cells r → r ≡ option_map (λ a. a.0) f
      by None e None sound least = refl
      by None e (Some n) sound least = absurd (subst (λ f. IsAtMost (option_map (λ a. a.0) f) n) e (at_most n sound))
      by (Some a) e None sound least =
          let f = first_indexed areas a s is e in
          absurd (least (level_of a.1) a.0 a.1 f.low f.there f.over (ap (is_covered p) f.at ∙ f.over))
      by (Some a) e (Some n) sound least =
          let f = first_indexed areas a s is e in
          let high : n ≤ a.0 = least (level_of a.1) a.0 a.1 f.low f.there f.over (ap (is_covered p) f.at ∙ f.over) in
          let low : a.0 ≤ n = subst (λ f. IsAtMost (option_map (λ a. a.0) f) n) e (at_most n sound) in
          let same : n ≡ a.0 = omega (arith, high, low) in
          ap (λ k. Some k) same
