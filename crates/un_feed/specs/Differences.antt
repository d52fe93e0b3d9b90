-- What two kept topologies differ in, in pages.
use Rattle.std.specs.Prelude.{◌≡◌, ◌≢◌, ℕ, Bool, true, false, not, ◌&&◌, nat_lt, List, [], ◌∷◌, ◌++◌, length, take, map, filter, Option, None, Some, Contains, if◌then◌else◌}
use Rattle.std.specs.Option.{option_map}
use Rattle.std.specs.Arc.{arc_value}
use Rattle.std.specs.Map.{keys_of, remove_entry}
use Rattle.std.specs.BTreeMap.{is_at, insert_entry}
use Rattle.un_geom.specs.declared.point.Point.{Point}
use Rattle.un_geom.specs.Places.{point_cmp}
use Rattle.un_pages.specs.Pairs.{past, is_past}
use Rattle.un_points.specs.PointMaps.{value_at}
use Rattle.un_defs.specs.declared.star.Star.{Star}
use Rattle.un_defs.specs.Orders.{rising}
use Rattle.un_defs.specs.SameStar.{same_star}
use Rattle.un_feed.specs.declared.changes.Change.{Change}
use Rattle.un_feed.specs.declared.changes.Page.{Page}
use Rattle.un_feed.specs.declared.changes.Changes.{Changes}

-- a kept topology: points with their stars
abbrev pub Kept : Type 0
Kept = List (Point × Star)

-- the star that a point now has, or none
abbrev pub Difference : Type 0
Difference = Point × Option Star

abbrev pub same_stars : Option Star → Option Star → Bool
same_stars None None = true
same_stars (Some a) (Some b) = same_star a b
same_stars _ _ = false

-- the points of both, rising, each once
abbrev pub points_of : Kept → Kept → List Point
points_of old new = rising point_cmp (keys_of old ++ keys_of new)

-- for each point at which the two differ, rising, the star that it has in the newer one, or none
abbrev pub differences : Kept → Kept → List Difference
differences old new =
    map (λ p. (p, value_at p new)) (filter (λ p. not (same_stars (value_at p old) (value_at p new))) (points_of old new))

-- the difference at a point, if it comes after the other one and the two differ there
abbrev pub difference_at : Kept → Kept → Option Point → Point → Option Difference
difference_at old new after p =
    if is_past point_cmp after p && not (same_stars (value_at p old) (value_at p new))
    then Some (p, value_at p new)
    else None

-- some of the differences, and whether there are more
pub record Paging : Type 0 where
  pub pairs : List Difference
  pub more : Bool

-- the first so many of those whose point comes after this one, or the first of all
abbrev pub page_of : List Difference → Option Point → ℕ → Paging
page_of all after most = record {
  pairs = take most (past point_cmp after all);
  more = nat_lt most (length (past point_cmp after all));
}

-- what a page shows: its stars as values
abbrev pub change_shown : Change → Difference
change_shown c = (c.at, option_map arc_value c.star)

abbrev pub shown : Page → Paging
shown page = record { pairs = map change_shown page.pairs; more = page.more }

-- a page with what it was asked for
pub record ChangesShown : Type 0 where
  pub page : Paging
  pub after : Option Point
  pub since : ℕ
  pub upto : ℕ
  pub version : ℕ

abbrev pub changes_shown : Changes → ChangesShown
changes_shown c = record { page = shown c.page; after = c.after; since = c.since; upto = c.upto; version = c.version }

-- one pair put in; none takes the point out
abbrev pub with_difference : Kept → Difference → Kept
with_difference kept (p, Some star) = insert_entry point_cmp kept p star
with_difference kept (p, None) = remove_entry (is_at (point_cmp p)) kept

-- all pairs put in, one after another
abbrev pub applied : Kept → List Difference → Kept
applied kept [] = kept
applied kept (d ∷ ds) = applied (with_difference kept d) ds

-- each point after this one at which the two differ is in the list
abbrev pub HasDifferences : Kept → Kept → Option Point → List Point → Type 0
HasDifferences old new after among = (p : Point) → is_past point_cmp after p ≡ true → value_at p old ≢ value_at p new → Contains among p
