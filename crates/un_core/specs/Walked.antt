-- The nodes that walks reach, as a list.
use Rattle.std.specs.Prelude.{List, flat_map, map}
use Rattle.un_geom.specs.declared.point.Point.{Point}
use Rattle.un_defs.specs.declared.port.Node.{Node}
use Rattle.un_defs.specs.declared.walk.Mode.{Mode}
use Rattle.un_defs.specs.declared.walk.Barriers.{Barriers}
use Rattle.un_defs.specs.Ground.{Ground}
use Rattle.un_defs.specs.Reach.{leads}
use Rattle.un_defs.specs.Star.{standing_points}
use Rattle.un_walk.specs.Spread.{reached_in}
use Rattle.un_core.specs.State.{State, kept_ground, fresh_ground_of}

-- a topology with the dirty areas, and points among which are all that have a star
pub record Survey : Type 0 where
  pub topology : Ground
  pub points : List Point

-- the kept topology, as the points that have a star
abbrev pub kept_survey : State → Survey
kept_survey s = record { topology = kept_ground s; points = map (λ pair. pair.0) s.kept }

-- the topology of all features
abbrev pub fresh_survey : State → Survey
fresh_survey s = record { topology = fresh_ground_of s; points = standing_points s.features }

-- the nodes to which the entries of a star have links
abbrev pub linked_at : Ground → Point → List Node
linked_at G p = flat_map (λ s. map (λ t. t.to) s.ties) (G.stars p).spots

-- the nodes that walks over a ground reach
abbrev pub reached : Survey → Barriers → Mode → List Node → List Node
reached v B mode starts = reached_in (leads v.topology B mode) (flat_map (linked_at v.topology) v.points) starts
