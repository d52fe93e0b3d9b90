-- The ids that one entry gives to a result.
use Rattle.std.specs.Prelude.{ℕ, ◌==◌, List, [], ◌∷◌, if◌then◌else◌}
use Rattle.un_defs.specs.declared.star.Spot.{Spot}
use Rattle.un_trace.specs.declared.included.Inclusion.{Inclusion}
use Rattle.un_trace.specs.declared.included.Inclusion.TheVariants.{Containers, Content, Structures}

abbrev pub ids_of : Inclusion → Spot → List ℕ
ids_of Containers s = if s.container == 0 then [] else s.container ∷ []
ids_of Content s = s.contents
ids_of Structures s = s.structures
