-- Points that rise, looked at one after the other.
use Rattle.std.proofs.Common.{◌≡◌, true, false, ◌&&◌, List, [], ◌∷◌, map, Option, Some, ap, sym, ◌∙◌}
use Rattle.un_geom.specs.declared.point.Point.{Point}
use Rattle.un_geom.specs.Places.{point_cmp}
use Rattle.un_pages.specs.Pairs.{is_past}
use Rattle.un_feed.specs.declared.changes.Change.{Change}
use Rattle.un_feed.specs.Differences.{change_shown}
use Rattle.un_feed_json.specs.Lines.{rises_after}

-- the points of the changes from here on rise after the last one exactly where those of all do
pub record RisesOn (after last : Option Point) (rest all : List Change) : Type 0 where
  pub same : rises_after last (map change_shown rest) ≡ rises_after after (map change_shown all)

-- one more comes after the last one
pub rises_on : (after last : Option Point) (c : Change) (rest all : List Change) → RisesOn after last (c ∷ rest) all → is_past point_cmp last c.at ≡ true → RisesOn after (Some c.at) rest all
rises_on after last c rest all h is = record { same = sym (ap (λ b. b && rises_after (Some c.at) (map change_shown rest)) is) ∙ h.same }

-- one does not
pub falls : (after last : Option Point) (c : Change) (rest all : List Change) → RisesOn after last (c ∷ rest) all → is_past point_cmp last c.at ≡ false → false ≡ rises_after after (map change_shown all)
falls after last c rest all h is = sym (ap (λ b. b && rises_after (Some c.at) (map change_shown rest)) is) ∙ h.same

-- all do
pub all_rise : (after last : Option Point) (all : List Change) → RisesOn after last [] all → true ≡ rises_after after (map change_shown all)
all_rise after last all h = h.same
