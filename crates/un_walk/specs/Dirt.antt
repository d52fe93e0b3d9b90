-- Which of two pieces of dirt is named.
use Rattle.std.specs.Prelude.{ℕ, Option, Some, None, if◌then◌else◌}
use Rattle.std.specs.declared.cmp.Ordering.{Ordering}
use Rattle.std.specs.Ordering.{nat_cmp, ordering_then, is_lt}
use Rattle.un_defs.specs.declared.port.Port.{Port}
use Rattle.un_defs.specs.declared.walk.Dirt.{Dirt}
use Rattle.un_defs.specs.Orders.{port_cmp}

-- dirt compares by area, then port
abbrev pub dirt_cmp : Dirt → Dirt → Ordering
dirt_cmp d e = ordering_then (nat_cmp d.area e.area) (port_cmp d.port e.port)

-- the dirt met so far, after a node with this port at a point whose least area is given
abbrev pub dirt_after : Option Dirt → Option ℕ → Port → Option Dirt
dirt_after least None q = least
dirt_after None (Some a) q = Some (record { area = a; port = q })
dirt_after (Some d) (Some a) q = if is_lt (dirt_cmp (record { area = a; port = q }) d) then Some (record { area = a; port = q }) else Some d
