use Rattle.std.proofs.Common.{take}
use Rattle.un_grid.specs.Grids.{LacksNodes}
use Rattle.un_grid.proofs.grid.Grid.take_nodes.Given as goal

-- the grid lacks the nodes so far
abbrev pub invariant-loop-node : goal.invariant-loop-node
invariant-loop-node l = LacksNodes l.initial.self (take l.node-index l.nodes) l.self
