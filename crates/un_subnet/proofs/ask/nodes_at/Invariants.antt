use Rattle.std.proofs.Common.{◌≡◌, filter_map, take}
use Rattle.un_defs.specs.Links.{node_at}
use Rattle.un_subnet.proofs.ask.nodes_at.Given as goal

-- the nodes of the ports so far
abbrev pub invariant-loop-port : goal.invariant-loop-port
invariant-loop-port g l = l.nodes.items ≡ filter_map (node_at (g.D.Directory.features l.features)) (take l.port-index l.ports)
