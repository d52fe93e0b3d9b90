-- Kept stars by their points.
use Rattle.std.specs.Prelude.{◌≡◌, ◌==◌, Bool, false, ◌&&◌, if◌then◌else◌, List, map, length, unwrap_or}
use Rattle.std.specs.List.{AllByRecursion}
use Rattle.std.specs.List.Sorted.{IsStrictlySortedBy}
use Rattle.std.specs.Map.{keys_of, remove_entry}
use Rattle.std.specs.BTreeMap.{is_at, insert_entry}
use Rattle.un_geom.specs.declared.point.Point.{Point}
use Rattle.un_geom.specs.Places.{point_cmp, same_point}
use Rattle.un_points.specs.PointMaps.{value_at}
use Rattle.un_defs.specs.declared.star.Star.{Star}
use Rattle.un_defs.specs.declared.star.TopoError.{TopoError}
use Rattle.un_defs.specs.Star.{empty_star}

-- the star has no entry and no error
abbrev pub is_empty_star : Star → Bool
is_empty_star star = (length star.spots == 0) && (length star.errors == 0)

-- the star at each point, the empty one where none is kept
abbrev pub stars_of : List (Point × Star) → Point → Star
stars_of kept p = unwrap_or (value_at p kept) empty_star

-- the stars with this one at the point, or without the point where the star is empty
abbrev pub replaced : List (Point × Star) → Point → Star → List (Point × Star)
replaced kept p star = if is_empty_star star then remove_entry (is_at (point_cmp p)) kept else insert_entry point_cmp kept p star

-- the new topology has this star at the point, and everywhere else the star of the old one
abbrev pub HasStarAt : List (Point × Star) → List (Point × Star) → Point → Star → Type 0
HasStarAt old new p star = (q : Point) → stars_of new q ≡ (if same_point q p then star else stars_of old q)

-- the errors of a star, each with the point
abbrev pub errors_of : Point × Star → List (Point × TopoError)
errors_of pair = map (λ e. (pair.0, e)) pair.1.errors

-- no kept star is empty
abbrev pub AreStars : List (Point × Star) → Type 0
AreStars kept = AllByRecursion (λ pair. is_empty_star pair.1 ≡ false) kept

-- what holds of each kept topology: the points rise, and no star is empty
pub record IsKept (kept : List (Point × Star)) : Type 0 where
  pub rising : IsStrictlySortedBy point_cmp (keys_of kept)
  pub stars : AreStars kept
