-- Where the kept topology may differ between two states of one log.
use Rattle.std.specs.Prelude.{◌≡◌, ◌≢◌, ◌⊎◌, Bool, true, false, ◌||◌, List, ◌++◌, flat_map, None, Contains}
use Rattle.std.specs.List.{list_any}
use Rattle.un_geom.specs.declared.point.Point.{Point}
use Rattle.un_geom.specs.Rectangle.{Rectangle}
use Rattle.un_geom.specs.Places.{covers}
use Rattle.un_points.specs.PointMaps.{value_at}
use Rattle.un_schema.specs.Sound.{IsCatalog}
use Rattle.un_defs.specs.declared.star.Star.{Star}
use Rattle.un_index.specs.Kept.{stars_of}
use Rattle.un_dirty.specs.Areas.{areas_gone}
use Rattle.un_machine.specs.Logs.{Leads}
use Rattle.un_tiers.specs.declared.setup.Setup.{Setup}
use Rattle.un_core.specs.State.{State, opening, fresh_star}
use Rattle.un_core.specs.Validation.{is_under}
use Rattle.un_core.specs.Cover.{IsState}
use Rattle.un_core.specs.Commands.{step}
use Rattle.un_core.specs.Logs.{LogEntry}
use Rattle.un_core.specs.Preparing.{is_touched}

-- an area over the point was cleared: the older state has it, and no area of the newer one has its number
abbrev pub is_cleared : State → State → Point → Bool
is_cleared s t p = is_under (areas_gone s.areas t.areas) p

-- an area over the point was cleared, or a command made the point dirty
abbrev pub may_differ : State → List LogEntry → State → Point → Bool
may_differ s es t p = is_cleared s t p || is_touched es p

-- at any other point the kept star is the same
abbrev pub KeptElsewhereLaw : Type 0
KeptElsewhereLaw = (s t : State) (es : List LogEntry) → IsState s → IsCatalog s.setup.schema → Leads step s es t
    → (p : Point) → may_differ s es t p ≡ false → stars_of t.kept p ≡ stars_of s.kept p

-- ---- the points at which it has changed

-- one of the rectangles covers the point
abbrev pub covers_any : List Rectangle → Point → Bool
covers_any rects p = list_any (λ r. covers r p) rects

-- The points have each one at which the newer state keeps another star than the older one, wherever a log with these marks leads from the
-- one to the other.
abbrev pub HasChanged : State → List Rectangle → State → List Point → Type 0
HasChanged s marks t points = (es : List LogEntry) → marks ≡ flat_map (λ e. e.mark) es → Leads step s es t
    → (p : Point) → value_at p s.kept ≢ value_at p t.kept → Contains points p

-- the rectangles cover each point over which an area was cleared or that is in a mark
abbrev pub HasRectangles : State → List Rectangle → State → List Rectangle → Type 0
HasRectangles s marks t rects = (p : Point) → (is_cleared s t p || covers_any marks p) ≡ true → covers_any rects p ≡ true

-- the points have each one under the rectangles at which one of the two topologies keeps a star
abbrev pub HasKept : List (Point × Star) → List (Point × Star) → List Rectangle → List Point → Type 0
HasKept old new rects points = (p : Point) → covers_any rects p ≡ true
    → Contains points p ⊎ ((value_at p old ≡ None) × (value_at p new ≡ None))

-- ---- what kept stars were

-- a first part of the log leads there
pub record IsOnTheWay (S : Setup) (log : List LogEntry) (m : State) : Type 0 where
  pub done : List LogEntry
  pub rest : List LogEntry
  pub is : log ≡ done ++ rest
  pub leads : Leads step (opening S) done m

-- each kept star was the star of all features at its point, in some state on the way
abbrev pub KeptWereFreshLaw : Type 0
KeptWereFreshLaw = (S : Setup) (log : List LogEntry) (s : State) → IsCatalog S.schema → Leads step (opening S) log s
    → (pair : Point × Star) → Contains s.kept pair → (m : State) × IsOnTheWay S log m × (pair.1 ≡ fresh_star m pair.0)
