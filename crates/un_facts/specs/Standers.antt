-- Which ports stand where once an edit changed a row.
use Rattle.std.specs.Prelude.{◌≡◌, List, Option, IfSome}
use Rattle.un_geom.specs.declared.point.Point.{Point}
use Rattle.un_defs.specs.declared.port.Port.{Port}
use Rattle.un_defs.specs.declared.row.Row.{Row}
use Rattle.un_defs.specs.declared.edit.Edit.{Edit}
use Rattle.un_defs.specs.declared.edit.Edit.TheVariants as edit
use Rattle.un_grid.specs.Grids.{HasRow, LacksRow, HasInPlace}

-- the second grid has the ports of the row after the edit in place of those of the row before it
abbrev pub HasPorts : Edit → Option Row → Option Row → List (Point × List Port) → List (Point × List Port) → Type 0
HasPorts (edit.Insert kind points attrs flow ends note) before after old new = IfSome after (HasRow old new)
HasPorts (edit.Reshape id base points) before after old new = IfSome before (λ r. IfSome after (HasInPlace old new r))
HasPorts (edit.Kind id base kind) before after old new = IfSome before (λ r. IfSome after (HasInPlace old new r))
HasPorts (edit.Delete id base) before after old new = IfSome before (LacksRow old new)
HasPorts _ before after old new = new ≡ old
