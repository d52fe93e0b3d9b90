use Rattle.std.proofs.Common.{◌≡◌, filter_map}
use Rattle.std.specs.List.{range_with_len}
use Rattle.un_defs.specs.Ports.{node_of}
use Rattle.un_defs.proofs.row.Row.nodes.Given as goal

-- the ports so far
abbrev pub invariant-loop-place : goal.invariant-loop-place
invariant-loop-place l = l.nodes.items ≡ filter_map (node_of l.self) (range_with_len l.first l.place)
