-- What stands for places in edges, as the code looks it up.
use Rattle.std.specs.Prelude.{ℕ, nat_lt, if◌then◌else◌, List, Option, Some, None, slice_get, option_and_then}
use Rattle.std.specs.Option.{option_map}
use Rattle.un_defs.specs.declared.port.Port.{Port}
use Rattle.un_defs.specs.declared.port.Node.{Node}
use Rattle.un_diagram.specs.declared.roles.Role.{Role}
use Rattle.un_diagram.specs.declared.roles.Role.TheVariants.{Kept, Collapsed, Shut}

abbrev pub port_at : List Node → ℕ → Option Port
port_at nodes i = option_map (λ n. n.port) (slice_get nodes i)

abbrev pub if_kept : Role → Option Port → Option Port
if_kept Kept p = p
if_kept Collapsed p = None
if_kept Shut p = None

abbrev pub kept_port : List Node → List Role → ℕ → Option Port
kept_port nodes roles i = option_and_then (λ r. if_kept r (port_at nodes i)) (slice_get roles i)

-- the colour of a place is that of the first of its piece
abbrev pub piece_name : List Node → List (Option ℕ) → ℕ → Option Port
piece_name nodes colours i = option_and_then (λ o. option_and_then (port_at nodes) o) (slice_get colours i)

abbrev pub kept_after : List Node → List Role → ℕ → ℕ → Option Port
kept_after nodes roles i j = if nat_lt i j then kept_port nodes roles j else None

abbrev pub or_else : Option Port → Option Port → Option Port
or_else (Some p) o = Some p
or_else None o = o

abbrev pub seen_as : List Node → List Role → List (Option ℕ) → ℕ → ℕ → Option Port
seen_as nodes roles colours i j = or_else (kept_after nodes roles i j) (piece_name nodes colours j)
