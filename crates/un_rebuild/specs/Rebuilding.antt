-- The fresh topology under areas, and what is kept outside them.
use Rattle.std.specs.Prelude.{◌≡◌, ◌≢◌, ◌⊎◌, ℕ, All, Contains, IsTrue, if◌then◌else◌, Bool, List, filter}
use Rattle.std.specs.declared.cmp.Ordering.{Ordering}
use Rattle.std.specs.List.{list_any}
use Rattle.std.specs.List.Sorted.{IsStrictlySortedBy}
use Rattle.un_geom.specs.declared.point.Point.{Point}
use Rattle.un_geom.specs.Rectangle.{Rectangle}
use Rattle.un_geom.specs.Places.{point_cmp, same_point, covers, meets}
use Rattle.un_defs.specs.declared.star.Star.{Star}
use Rattle.un_defs.specs.Star.{star, empty_star}
use Rattle.un_index.specs.Kept.{stars_of}
use Rattle.un_facts.specs.Known.{Known}

-- the star of all features at a point
abbrev pub fresh_at : Known → Point → Star
fresh_at K p = star K.setup.schema K.features p

-- the dirty areas that meet the extent
abbrev pub met : Rectangle → List (ℕ × Rectangle) → List (ℕ × Rectangle)
met extent areas = filter (λ area. meets area.1 extent) areas

-- one of the areas covers the point
abbrev pub is_under : List (ℕ × Rectangle) → Point → Bool
is_under areas p = list_any (λ area. covers area.1 p) areas

-- stars compare by their points
abbrev pub by_point : Point × Star → Point × Star → Ordering
by_point a b = point_cmp a.0 b.0

-- the points have all that the areas cover and at which something stands or is kept
pub record ArePoints (K : Known) (kept : List (Point × Star)) (areas : List (ℕ × Rectangle)) (points : List Point) : Type 0 where
  pub under : (p : Point) → Contains points p → IsTrue (is_under areas p)
  pub whole : (p : Point) → IsTrue (is_under areas p) → Contains points p ⊎ ((stars_of kept p ≡ empty_star) × (fresh_at K p ≡ empty_star))

-- the points have the stars of all features, and the other points what was kept there before
abbrev pub AreRebuilt : Known → List (Point × Star) → List Point → List (Point × Star) → Type 0
AreRebuilt K before points kept = (p : Point) → stars_of kept p ≡ (if list_any (same_point p) points then fresh_at K p else stars_of before p)

-- a list of points with their stars as it is kept: in order, and without empty stars
pub record IsKept (kept : List (Point × Star)) : Type 0 where
  pub sorted : IsStrictlySortedBy by_point kept
  pub nonempty : All (λ pair. pair.1 ≢ empty_star) kept
