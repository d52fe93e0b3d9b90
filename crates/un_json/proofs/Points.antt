-- Points from three numbers, each of which is a coordinate or is not.
use Rattle.std.proofs.Common.{◌≡◌, ℤ, pos, neg_ℤ, ◌≤ℤ◌, int_le, Bool, true, false, ◌&&◌, if◌then◌else◌, [], ◌∷◌, Option, None, Some, refl, ap, sym, ◌∙◌, arith}
use Rattle.std.proofs.lemmas.Int.{ints}
use mir.Syntax.{w32}
use mir.Val.{to_z, of_z}
use Rattle.un_geom.specs.declared.point.Point.{Point}
use Rattle.un_geom.specs.Places.{in_range}
use Rattle.un_json.specs.Forms.{point_from}

-- the number, if it is a coordinate
abbrev kept_in : Bool → ℤ → Option ℤ
kept_in b n = if b then Some n else None

-- the point of three numbers that pass, or none
abbrev placed_by : ℤ → ℤ → ℤ → Bool → Bool → Bool → Option Point
placed_by x y z a b c = if a && (b && (c && true)) then Some (record { x = x; y = y; z = z }) else None

-- a coordinate has 32 bits
narrow_same : (n : ℤ) → in_range n ≡ true → to_z w32 (of_z w32 n) ≡ n
narrow_same n e =
    let parts = one (int_le (neg_ℤ (pos 1_000_000_000)) n) (int_le n (pos 1_000_000_000)) e in
    let low : neg_ℤ (pos 1_000_000_000) ≤ℤ n = grind (arith, ints) in
    let high : n ≤ℤ pos 1_000_000_000 = grind (arith, ints) in
    omega (arith, ints)
  where
    one : (a b : Bool) → (a && b) ≡ true → (a ≡ true) × (b ≡ true)
    one true b e = (refl, e)
    one false b e = let no : false ≡ true = e in cc

is_coordinate : (n m : ℤ) (b : Bool) → Some m ≡ kept_in b n → (b ≡ true) × (m ≡ n)
is_coordinate n m true e = (refl, cc)
is_coordinate n m false e = let no : Some m ≡ None = e in cc

pub all_placed : (x y z a b c : ℤ) → Some a ≡ (if in_range x then Some x else None) → Some b ≡ (if in_range y then Some y else None) → Some c ≡ (if in_range z then Some z else None)
    → Some (record { x = to_z w32 (of_z w32 a); y = to_z w32 (of_z w32 b); z = to_z w32 (of_z w32 c) }) ≡ point_from (x ∷ y ∷ z ∷ [])
all_placed x y z a b c e f g =
    let p = is_coordinate x a (in_range x) e in
    let q = is_coordinate y b (in_range y) f in
    let r = is_coordinate z c (in_range z) g in
    let xs : to_z w32 (of_z w32 a) ≡ x = ap (λ n. to_z w32 (of_z w32 n)) p.1 ∙ narrow_same x p.0 in
    let ys : to_z w32 (of_z w32 b) ≡ y = ap (λ n. to_z w32 (of_z w32 n)) q.1 ∙ narrow_same y q.0 in
    let zs : to_z w32 (of_z w32 c) ≡ z = ap (λ n. to_z w32 (of_z w32 n)) r.1 ∙ narrow_same z r.0 in
    (λ i. Some (record { x = xs i; y = ys i; z = zs i }))
    ∙ (λ i. placed_by x y z (sym p.0 i) (sym q.0 i) (sym r.0 i))

first_by : (x y z : ℤ) (p q r : Bool) → None ≡ kept_in p x → None ≡ placed_by x y z p q r
first_by x y z true q r e = let no : None ≡ Some x = e in cc
first_by x y z false q r e = refl

pub first_off : (x y z : ℤ) → None ≡ (if in_range x then Some x else None) → None ≡ point_from (x ∷ y ∷ z ∷ [])
first_off x y z e = first_by x y z (in_range x) (in_range y) (in_range z) e

second_by : (x y z : ℤ) (p q r : Bool) → None ≡ kept_in q y → None ≡ placed_by x y z p q r
second_by x y z p true r e = let no : None ≡ Some y = e in cc
second_by x y z true false r e = refl
second_by x y z false false r e = refl

pub second_off : (x y z : ℤ) → None ≡ (if in_range y then Some y else None) → None ≡ point_from (x ∷ y ∷ z ∷ [])
second_off x y z e = second_by x y z (in_range x) (in_range y) (in_range z) e

third_by : (x y z : ℤ) (p q r : Bool) → None ≡ kept_in r z → None ≡ placed_by x y z p q r
third_by x y z p q true e = let no : None ≡ Some z = e in cc
third_by x y z true true false e = refl
third_by x y z true false false e = refl
third_by x y z false q false e = refl

pub third_off : (x y z : ℤ) → None ≡ (if in_range z then Some z else None) → None ≡ point_from (x ∷ y ∷ z ∷ [])
third_off x y z e = third_by x y z (in_range x) (in_range y) (in_range z) e
