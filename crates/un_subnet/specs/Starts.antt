-- The nodes from which a subnetwork is walked.
use Rattle.std.specs.Prelude.{ℕ, List, filter_map}
use Rattle.un_defs.specs.declared.port.Node.{Node}
use Rattle.un_defs.specs.Features.{Features, controllers_of}
use Rattle.un_defs.specs.Links.{node_at}

-- those of its controllers, in the order of their ports
abbrev pub controller_nodes : Features → ℕ → List ℕ → List Node
controller_nodes F tier subnet = filter_map (λ c. node_at F c.port) (controllers_of F tier subnet)
