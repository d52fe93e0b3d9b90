-- What is to be shown of the count of points of a shape.
use Rattle.std.specs.Prelude.{◌≡◌, ℕ, ◌≤◌, ℤ, List, length, None}
use Rattle.un_geom.specs.Places.{bad_place}

-- a shape without a bad place has no fewer points than the least count, and no more than the greatest
abbrev pub CountLaw : Type 0
CountLaw = (least most : ℕ) (points : List (List ℤ)) → bad_place least most points ≡ None → (least ≤ length points) × (length points ≤ most)
