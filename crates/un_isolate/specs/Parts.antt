-- The features of some nodes with the numbers of their ports, as a reply tells them.
use Rattle.std.specs.Prelude.{ℕ, List, map}
use Rattle.un_defs.specs.declared.port.Node.{Node}
use Rattle.un_defs.specs.Result.{result_features}
use Rattle.un_ask.specs.declared.results.Part.{Part}

abbrev pub part_of : ℕ × List ℕ → Part
part_of p = record { feature = p.0; numbers = p.1 }

abbrev pub parts : List Node → List Part
parts nodes = map part_of (result_features nodes)
