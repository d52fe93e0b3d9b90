-- The state that commands change and that queries ask.
use Rattle.std.specs.Prelude.{ℕ, List, []}
use Rattle.un_geom.specs.declared.point.Point.{Point}
use Rattle.un_geom.specs.Rectangle.{Rectangle}
use Rattle.un_defs.specs.declared.star.Star.{Star}
use Rattle.un_defs.specs.Star.{star}
use Rattle.un_defs.specs.Features.{Features}
use Rattle.un_defs.specs.Ground.{Ground, fresh_ground}
use Rattle.un_index.specs.Kept.{stars_of}
use Rattle.un_ask.specs.declared.stored.StoredSubnet.{StoredSubnet}
use Rattle.un_tiers.specs.declared.setup.Setup.{Setup}
use Rattle.un_facts.specs.declared.ids.NextIds.{NextIds}
use Rattle.un_facts.specs.Known.{Known}

-- The schema and the tiers, which stay; the features, with the rules in force; the kept topology, as the points that have a star, sorted;
-- the dirty areas with their numbers; the stored subnetworks; how many commands were accepted; and the next numbers.
pub record State : Type 0 where
  pub setup : Setup
  pub features : Features
  pub kept : List (Point × Star)
  pub areas : List (ℕ × Rectangle)
  pub stored : List StoredSubnet
  pub version : ℕ
  pub next_feature : ℕ
  pub next_association : ℕ
  pub next_area : ℕ

-- what is known apart from the topology, and the ids that are given next
abbrev pub known : State → Known
known s = record { setup = s.setup; features = s.features }

abbrev pub next_ids : State → NextIds
next_ids s = record { feature = s.next_feature; association = s.next_association }

-- the star of all features at a point
abbrev pub fresh_star : State → Point → Star
fresh_star s p = star s.setup.schema s.features p

-- the kept topology with the dirty areas
abbrev pub kept_ground : State → Ground
kept_ground s = record { stars = stars_of s.kept; areas = s.areas }

-- the topology of all features with the dirty areas
abbrev pub fresh_ground_of : State → Ground
fresh_ground_of s = fresh_ground s.setup.schema s.features s.areas

-- before the first command
abbrev pub opening : Setup → State
opening S = record {
  setup = S;
  features = record { rows = []; associations = []; controllers = []; rules = S.schema.rules };
  kept = [];
  areas = [];
  stored = [];
  version = 0;
  next_feature = 1;
  next_association = 1;
  next_area = 1;
}
