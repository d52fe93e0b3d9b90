-- What makes a stored row dirty as stars change.
use Rattle.std.specs.Prelude.{if◌then◌else◌, ◌≢◌, ◌⊎◌, ℕ, ◌==◌, Bool, not, ◌&&◌, ◌||◌, List, [], ◌∷◌, ◌++◌, filter, filter_map, flat_map, length, Contains, IsTrue, Option, unwrap_or}
use Rattle.std.specs.List.{list_any}
use Rattle.un_geom.specs.declared.point.Point.{Point}
use Rattle.un_geom.specs.Places.{point_cmp, same_point}
use Rattle.un_defs.specs.declared.assoc.Controller.{Controller}
use Rattle.un_defs.specs.declared.star.Star.{Star}
use Rattle.un_defs.specs.Orders.{rising}
use Rattle.un_defs.specs.Features.{is_of_subnet}
use Rattle.un_defs.specs.Star.{empty_star}
use Rattle.un_defs.specs.SameStar.{same_star}

-- the controllers that the entries of a star have
abbrev pub controllers_in : Star → List Controller
controllers_in star = filter_map (λ s. s.controller) star.spots

-- the star has a controller of the subnetwork
abbrev pub has_controller_of : ℕ → List ℕ → Star → Bool
has_controller_of tier subnet star = list_any (is_of_subnet tier subnet) (controllers_in star)

-- The row of a subnetwork, with these points, becomes dirty as the stars before become those after: at some point the star changes, and the
-- point is one of the row's, or the star has a controller of the subnetwork before or after.
pub record IsMadeDirty (tier : ℕ) (subnet : List ℕ) (points : List Point) (before after : Point → Star) : Type 0 where
  pub at : Point
  pub changed : before at ≢ after at
  pub concerns : Contains points at ⊎ IsTrue (has_controller_of tier subnet (before at)) ⊎ IsTrue (has_controller_of tier subnet (after at))

-- ---- the same as a test

-- the points whose stars change, and the controllers that these stars have before or after
pub record Changed : Type 0 where
  pub points : List Point
  pub controllers : List Controller

abbrev pub is_changed : (Point → Star) → (Point → Star) → Point → Bool
is_changed before after p = not (same_star (before p) (after p))

abbrev pub controllers_at : (Point → Star) → (Point → Star) → Point → List Controller
controllers_at before after p = controllers_in (before p) ++ controllers_in (after p)

-- of these points, in their order
abbrev pub gathered_at : (Point → Star) → (Point → Star) → List Point → Changed
gathered_at before after points = record {
  points = filter (is_changed before after) points;
  controllers = flat_map (controllers_at before after) (filter (is_changed before after) points);
}

-- the same with the points rising
abbrev pub changes_at : (Point → Star) → (Point → Star) → List Point → Changed
changes_at before after points = record {
  points = rising point_cmp (gathered_at before after points).points;
  controllers = (gathered_at before after points).controllers;
}

-- one of the points is among others
abbrev pub has_any : List Point → List Point → Bool
has_any points among = list_any (λ p. list_any (same_point p) among) points

-- some change is at one of the row's points
abbrev pub is_at_point : List Point → Changed → Bool
is_at_point points changes = has_any changes.points points

-- or of a star with a controller of its subnetwork
abbrev pub is_made_dirty : ℕ → List ℕ → List Point → Changed → Bool
is_made_dirty tier subnet points changes = is_at_point points changes || list_any (is_of_subnet tier subnet) changes.controllers

-- ---- one point

-- no star is the same as an empty one
abbrev pub star_or_empty : Option Star → Star
star_or_empty star = unwrap_or star empty_star

-- the star has no entry and no error
abbrev pub is_empty_star : Star → Bool
is_empty_star star = (length star.spots == 0) && (length star.errors == 0)

-- the changes with one more point, whose star before and after is given
abbrev pub with_changed : Changed → Point → Star → Star → Changed
with_changed changes p before after = record {
  points = changes.points ++ p ∷ [];
  controllers = changes.controllers ++ (controllers_in before ++ controllers_in after);
}

abbrev pub with_point : Changed → Point → Star → Star → Changed
with_point changes p before after = if same_star before after then changes else with_changed changes p before after
