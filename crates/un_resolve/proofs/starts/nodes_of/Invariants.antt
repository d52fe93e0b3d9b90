use Rattle.std.proofs.Common.{◌≡◌, take}
use Rattle.un_resolve.specs.Starts.{nodes_of}
use Rattle.un_resolve.proofs.starts.nodes_of.Given as goal

-- the nodes of the ports so far
abbrev pub invariant-loop-port : goal.invariant-loop-port
invariant-loop-port g l = l.nodes.items ≡ nodes_of (g.D.Directory.features l.features) (take l.port-index l.ports)
