-- The kept topology and the dirty areas by the accepted commands alone. A history has its last command first.
use Rattle.std.specs.Prelude.{ℕ, Bool, false, not, ◌&&◌, List, [], ◌∷◌, ◌++◌, filter, if◌then◌else◌}
use Rattle.std.specs.List.{list_any, enumerate_from}
use Rattle.std.specs.Option.{option_map_or}
use Rattle.un_geom.specs.declared.point.Point.{Point}
use Rattle.un_geom.specs.Rectangle.{Rectangle}
use Rattle.un_geom.specs.Places.{covers, meets}
use Rattle.un_defs.specs.declared.star.Star.{Star}
use Rattle.un_defs.specs.Star.{empty_star, standing_points}
use Rattle.un_defs.specs.Ground.{Ground}
use Rattle.un_ask.specs.declared.request.Command.{Command}
use Rattle.un_tiers.specs.declared.setup.Setup.{Setup}
use Rattle.un_core.specs.State.{State, opening, fresh_star}
use Rattle.un_core.specs.Step.{next_state, dirtied_by, extent_of}

-- the state after a history
abbrev pub after_all : Setup → List Command → State
after_all S [] = opening S
after_all S (c ∷ before) = next_state (after_all S before) c

-- the areas that a command makes, with their numbers
abbrev pub made_by : State → Command → List (ℕ × Rectangle)
made_by s c = enumerate_from s.next_area (dirtied_by s c)

-- a validation clears each area that meets its extent
abbrev pub clears : ℕ × Rectangle → Command → Bool
clears area c = option_map_or (meets area.1) (extent_of c) false

-- of the areas that a history made, those that neither it nor the later commands cleared
abbrev pub alive_under : Setup → List Command → List Command → List (ℕ × Rectangle)
alive_under S later [] = []
alive_under S later (c ∷ before) =
    alive_under S (c ∷ later) before ++ filter (λ area. not (list_any (clears area) later)) (made_by (after_all S before) c)

-- the areas that are alive after a history
abbrev pub dirty_after : Setup → List Command → List (ℕ × Rectangle)
dirty_after S history = alive_under S [] history

-- the command is a validation whose extent meets an area, alive just before it, that covers the point
abbrev pub rebuilds : Setup → List Command → Command → Point → Bool
rebuilds S before c p =
    option_map_or (λ extent. list_any (λ area. meets area.1 extent && covers area.1 p) (dirty_after S before)) (extent_of c) false

-- the star of all features as they were at the last validation that rebuilt the point; the empty one where there was none
abbrev pub kept_after : Setup → List Command → Point → Star
kept_after S [] p = empty_star
kept_after S (c ∷ before) p =
    if rebuilds S before c p then fresh_star (after_all S before) p else kept_after S before p

-- the ground that a history leaves
abbrev pub history_ground : Setup → List Command → Ground
history_ground S history = record { stars = kept_after S history; areas = dirty_after S history }

-- the points at which something stood before some command
abbrev pub points_before : Setup → List Command → List Point
points_before S [] = []
points_before S (c ∷ before) = standing_points (after_all S before).features ++ points_before S before
