-- What an edit leaves, and how the numbers of a state grow by it.
use Rattle.std.specs.Prelude.{◌≡◌, ℕ, ◌+◌, ◌≤◌, length}
use Rattle.un_defs.specs.declared.edit.Edit.{Edit}
use Rattle.un_defs.specs.Dirtied.{dirtied}
use Rattle.un_dirty.specs.Areas.{DirtyList}
use Rattle.un_facts.specs.declared.ids.NextIds.{NextIds}
use Rattle.un_facts.specs.declared.edit.Change.{Change}
use Rattle.un_facts.specs.Known.{Known}
use Rattle.un_facts.specs.Changing.{Follows}
use Rattle.un_core.specs.State.{State, known, next_ids}

-- the state with what an edit changes in place of its own
abbrev pub with_parts : State → Known → DirtyList → NextIds → State
with_parts s known dirty ids = record s {
  setup = known.setup;
  features = known.features;
  areas = dirty.areas;
  next_area = dirty.next;
  next_feature = ids.feature;
  next_association = ids.association;
}

-- at most one id of a feature is given, and at most one of an association
abbrev pub FeaturesGrow : State → State → Type 0
FeaturesGrow before after = after.next_feature ≤ before.next_feature + 1

abbrev pub AssociationsGrow : State → State → Type 0
AssociationsGrow before after = after.next_association ≤ before.next_association + 1

-- as many numbers of areas are given as there are more areas, of which there are few
pub record AreasGrow (before after : State) : Type 0 where
  pub given : after.next_area + length before.areas ≡ before.next_area + length after.areas
  pub few : length after.areas ≤ 65536

-- what an edit at a moment leaves of the features, with the rectangles that it makes dirty, for which there is room
pub record IsChange (s : State) (moment : ℕ) (e : Edit) (c : Change) : Type 0 where
  pub follows : Follows (known s) (next_ids s) moment e c.after
  pub dirtied : c.dirtied.items ≡ dirtied s.features e
  pub room : length s.areas + length c.dirtied.items ≤ 65536
