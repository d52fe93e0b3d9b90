-- What a walk asks of the entries of one star.
use Rattle.std.specs.Prelude.{ℕ, ◌==◌, Bool, false, find, Option}
use Rattle.std.specs.Option.{option_map_or}
use Rattle.un_defs.specs.declared.port.Port.{Port}
use Rattle.un_defs.specs.declared.star.Spot.{Spot}
use Rattle.un_defs.specs.declared.star.Star.{Star}
use Rattle.un_defs.specs.Orders.{same_port}

-- the entry that the star has for the port
abbrev pub entry_in : Star → Port → Option Spot
entry_in star q = find (λ s. same_port s.port q) star.spots

-- that entry has a controller of the tier
abbrev pub controlled_in : Star → Port → ℕ → Bool
controlled_in star q tier = option_map_or (λ s. option_map_or (λ c. c.tier == tier) s.controller false) (entry_in star q) false
