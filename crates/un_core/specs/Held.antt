-- The state of a network, by the parts that it holds.
use Rattle.std.specs.Prelude.{ℕ, List}
use Rattle.un_geom.specs.declared.point.Point.{Point}
use Rattle.un_defs.specs.declared.star.Star.{Star}
use Rattle.un_dirty.specs.Areas.{DirtyList}
use Rattle.un_ask.specs.declared.stored.StoredSubnet.{StoredSubnet}
use Rattle.un_facts.specs.declared.ids.NextIds.{NextIds}
use Rattle.un_facts.specs.Known.{Known}
use Rattle.un_core.specs.State.{State}

abbrev pub held : Known → List (Point × Star) → DirtyList → List StoredSubnet → ℕ → NextIds → State
held known kept dirty stored version ids = record {
  setup = known.setup;
  features = known.features;
  kept = kept;
  areas = dirty.areas;
  stored = stored;
  version = version;
  next_feature = ids.feature;
  next_association = ids.association;
  next_area = dirty.next;
}
