-- Entries of a star as the star keeps them.
use Rattle.std.specs.Prelude.{ℕ, ◌==◌, cond, List, [], ◌∷◌, Option, None, Some, Box, box_value}
use Rattle.std.specs.declared.alloc.Global.{Global}
use Rattle.un_defs.specs.declared.entry.Extras.{Extras}
use Rattle.un_defs.specs.declared.entry.PackedSpot.TheInside.{Inside}
use Rattle.un_defs.specs.declared.star.Spot.{Spot}

-- nothing of what few ports have
abbrev pub no_extras : Extras
no_extras = record { controller = None; container = 0; contents = []; structures = []; attrs = [] }

-- what few ports have, in memory of its own, or nothing of it
abbrev pub extras_in : Option (Box Extras Global) → Extras
extras_in None = no_extras
extras_in (Some extras) = box_value extras

-- a container's id, if there is one
abbrev pub container_list : ℕ → List ℕ
container_list id = cond (id == 0) [] (id ∷ [])

-- the entry that is kept so
abbrev pub unpacked : Inside → Spot
unpacked s = record {
  port = record { feature = s.feature; number = s.number };
  ties = s.ties;
  kind = s.kind;
  class = s.class;
  controller = (extras_in s.extras).controller;
  cats = s.cats;
  container = (extras_in s.extras).container;
  contents = (extras_in s.extras).contents;
  structures = (extras_in s.extras).structures;
  attrs = (extras_in s.extras).attrs;
}
