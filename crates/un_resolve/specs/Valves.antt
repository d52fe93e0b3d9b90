-- Starts on isolating devices.
use Rattle.std.specs.Prelude.{ℕ, Bool, false, ◌&&◌, List, map, Option}
use Rattle.std.specs.Option.{option_map_or}
use Rattle.un_conds.specs.Conditions.{Condition, holds}
use Rattle.un_schema.specs.Catalog.{Catalog, cats_of}
use Rattle.un_defs.specs.declared.port.Port.{Port}
use Rattle.un_defs.specs.declared.row.Row.{Row}
use Rattle.un_defs.specs.declared.refusal.Refusal.{Refusal}
use Rattle.un_defs.specs.declared.refusal.Refusal.TheVariants as refusal
use Rattle.un_defs.specs.Features.{Features, row}
use Rattle.un_defs.specs.Links.{is_device}
use Rattle.un_defs.specs.Refusing.{first_refusal, refused_if}

-- the row is a device that meets the condition
abbrev pub row_isolates : Catalog → Option (Condition ℕ) → Row → Bool
row_isolates S isolators r = is_device r.class && option_map_or (λ c. holds c r.attrs (cats_of S r.kind).0) isolators false

-- the port's live row does
abbrev pub isolates : Catalog → Features → Option (Condition ℕ) → Port → Bool
isolates S F isolators q = option_map_or (row_isolates S isolators) (row F q.feature) false

-- a start on such a port is refused
abbrev pub on_valve : Catalog → Features → Option (Condition ℕ) → Port → Option Refusal
on_valve S F isolators q = refused_if (isolates S F isolators q) (refusal.StartIsValve q.feature q.number)

abbrev pub valves_refusal : Catalog → Features → Option (Condition ℕ) → List Port → Option Refusal
valves_refusal S F isolators ports = first_refusal (map (on_valve S F isolators) ports)
