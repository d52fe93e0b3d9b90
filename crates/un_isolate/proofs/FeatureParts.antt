-- What is told of the features of some nodes, read from the nodes of each feature.
use Rattle.std.proofs.Common.{◌≡◌, ℕ, List, [], ◌∷◌, ◌++◌, map}
use Rattle.std.specs.Ordering.{nat_cmp}
use Rattle.un_defs.specs.declared.port.Node.{Node}
use Rattle.un_defs.specs.Orders.{rising}
use Rattle.un_defs.specs.Result.{feature_ids, nodes_of_feature}
use Rattle.un_defs.proofs.ListLemmas.{map-map}
use Rattle.un_ask.specs.declared.results.Part.{Part}
use Rattle.un_isolate.specs.Parts.{part_of, parts}
use Rattle.un_isolate.proofs.Runs.{keys_of, of_key, IsRunAfter, map_runs}
use Rattle.un_isolate.proofs.Rise.{feature_of, number_of}

abbrev pub as_part : ℕ → List ℕ → Part
as_part id numbers = record { feature = id; numbers = numbers }

abbrev pub read_part : ℕ → List Node → Part
read_part id run = as_part id (rising nat_cmp (map number_of run))

abbrev pub read_parts : List Node → List Part
read_parts nodes = map (λ id. read_part id (of_key feature_of nodes id)) (keys_of feature_of nodes)

pub parts_are : (nodes : List Node) → parts nodes ≡ read_parts nodes
parts_are nodes = map-map (λ (id : ℕ). (id, rising nat_cmp (map (λ n. n.port.number) (nodes_of_feature nodes id)))) part_of (feature_ids nodes)

pub parts_more : (nodes run : List Node) (k : ℕ) → IsRunAfter feature_of nodes run k → read_parts (nodes ++ run) ≡ read_parts nodes ++ read_part k run ∷ []
parts_more = map_runs feature_of read_part
