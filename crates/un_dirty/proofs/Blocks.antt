-- The block of cells in which a rectangle lies.
use Rattle.std.proofs.Common.{◌≡◌, ℕ, zero, suc, ◌/◌, ◌^◌, ◌<◌, ◌≤◌, ℤ, pos, neg_ℤ, ◌-ℤ◌, ◌≤ℤ◌, int_le, unsigned_abs, Bool, true, false, ◌&&◌, refl, arith}
use Rattle.std.proofs.lemmas.Int.{ints}
use Rattle.std.proofs.Math.Nat.{le-div_iff_mul-le, div-mul-le_self, div-le_self}
use Rattle.un_geom.specs.declared.point.Point.{Point}
use Rattle.un_geom.specs.Rectangle.{Rectangle, IsBounded}
use Rattle.un_geom.specs.Places.{covers}
use Rattle.un_dirty.specs.Cells.{cell_index}

div_le : (a b d : ℕ) → 0 < d → a ≤ b → a / d ≤ b / d
div_le a b d some h = (le-div_iff_mul-le {k = d} {x = a / d} {y = b} some).1 (let g = div-mul-le_self a d in omega (arith, g, h))

pow_some : (n : ℕ) → 0 < 2 ^ n
pow_some zero = omega arith
pow_some (suc n) = omega (arith, pow_some n)

pub index_rises : (level : ℕ) (a b : ℤ) → neg_ℤ (pos 2147483648) ≤ℤ a → a ≤ℤ b → cell_index level a ≤ cell_index level b
unfolding cell_index
index_rises level a b low h =
    let far : unsigned_abs (a -ℤ neg_ℤ (pos 2147483648)) ≤ unsigned_abs (b -ℤ neg_ℤ (pos 2147483648)) = omega (arith, ints) in
    div_le _ _ (2 ^ level) (pow_some level) (div_le _ _ 4096 (omega arith) far)

pub index_bound : (level n : ℕ) → n < 2 ^ 32 → (n / 4096) / 2 ^ level < 1048576
index_bound level n h = omega (arith, div-le_self (n / 4096) (2 ^ level))

test_le : (a b : ℤ) → int_le a b ≡ true → a ≤ℤ b
test_le a b h = grind (arith, ints)

pub record IsWithin (r : Rectangle) (p : Point) : Type 0 where
  pub west : r.x0 ≤ℤ p.x
  pub east : p.x ≤ℤ r.x1
  pub south : r.y0 ≤ℤ p.y
  pub north : p.y ≤ℤ r.y1

within : (r : Rectangle) (p : Point) → covers r p ≡ true → IsWithin r p
within r p e = by (int_le r.x0 p.x) (int_le p.x r.x1) (int_le r.y0 p.y) (int_le p.y r.y1) refl refl refl refl e
  where
    by : (a b c d : Bool) → int_le r.x0 p.x ≡ a → int_le p.x r.x1 ≡ b → int_le r.y0 p.y ≡ c → int_le p.y r.y1 ≡ d → ((a && b) && (c && d)) ≡ true → IsWithin r p
    by true true true true f g h i e = record { west = test_le _ _ f; east = test_le _ _ g; south = test_le _ _ h; north = test_le _ _ i }
    by true true true false f g h i e = cc
    by true true false d f g h i e = cc
    by true false c d f g h i e = cc
    by false b c d f g h i e = cc

-- the cell of a covered point is in the block of cells of the rectangle
pub record IsInBlock (level : ℕ) (r : Rectangle) (p : Point) : Type 0 where
  pub west : cell_index level r.x0 ≤ cell_index level p.x
  pub east : cell_index level p.x ≤ cell_index level r.x1
  pub south : cell_index level r.y0 ≤ cell_index level p.y
  pub north : cell_index level p.y ≤ cell_index level r.y1

pub in_block : (level : ℕ) (r : Rectangle) (p : Point) → IsBounded r → covers r p ≡ true → IsInBlock level r p
in_block level r p ok e =
    let w = within r p e in
    let x_low = ok.across.not_below in
    let y_low = ok.along.not_below in
    record {
      west = index_rises level r.x0 p.x (omega (arith, ints)) w.west;
      east = index_rises level p.x r.x1 (omega (arith, ints)) w.east;
      south = index_rises level r.y0 p.y (omega (arith, ints)) w.south;
      north = index_rises level p.y r.y1 (omega (arith, ints)) w.north;
    }
