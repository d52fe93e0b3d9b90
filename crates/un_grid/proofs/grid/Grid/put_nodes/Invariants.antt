use Rattle.std.proofs.Common.{take}
use Rattle.un_grid.specs.Grids.{HasNodes}
use Rattle.un_grid.proofs.grid.Grid.put_nodes.Given as goal

-- the grid has the nodes so far
abbrev pub invariant-loop-node : goal.invariant-loop-node
invariant-loop-node l = HasNodes l.initial.self (take l.node-index l.nodes) l.self
