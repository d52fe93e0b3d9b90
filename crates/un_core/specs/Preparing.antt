-- Stars that were built in advance for a validation.
use Rattle.std.specs.Prelude.{◌≡◌, Bool, List}
use Rattle.std.specs.List.{list_any}
use Rattle.un_geom.specs.declared.point.Point.{Point}
use Rattle.un_geom.specs.Places.{covers}
use Rattle.un_schema.specs.Sound.{IsCatalog}
use Rattle.un_rebuild.specs.Preparing.{AreFresh}
use Rattle.un_core.specs.declared.prepared.Prepared.{Prepared}
use Rattle.un_core.specs.State.{State, known}
use Rattle.un_core.specs.Cover.{IsState}
use Rattle.un_core.specs.Logs.{LogEntry}

-- the stars are those at the state at which they were built
pub record IsPreparedAt (h : Prepared) (s : State) : Type 0 where
  pub state : IsState s
  pub schema : IsCatalog s.setup.schema
  pub version : h.version ≡ s.version
  pub stars : AreFresh (known s) h.stars

-- one of the commands made the point dirty
abbrev pub is_touched : List LogEntry → Point → Bool
is_touched since p = list_any (λ e. list_any (λ r. covers r p) e.mark) since
