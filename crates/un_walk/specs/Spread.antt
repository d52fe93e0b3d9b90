-- The nodes that steps reach, as a list.
use Rattle.std.specs.Prelude.{ℕ, zero, suc, Bool, List, ◌++◌, filter, length}
use Rattle.std.specs.List.{list_any}
use Rattle.un_defs.specs.declared.port.Node.{Node}
use Rattle.un_defs.specs.Orders.{rising, node_cmp}

-- some nodes, and those of all nodes to which a step leads from one of them
abbrev pub one_further : (Node → Node → Bool) → List Node → List Node → List Node
one_further step all from = from ++ filter (λ m. list_any (λ n. step n m) from) all

-- what walks of at most so many steps reach
abbrev pub reached_within : (Node → Node → Bool) → List Node → ℕ → List Node → List Node
reached_within step all zero starts = starts
reached_within step all (suc k) starts = one_further step all (reached_within step all k starts)

-- the nodes that walks reach, sorted: none needs more steps than there are nodes
abbrev pub reached_in : (Node → Node → Bool) → List Node → List Node → List Node
reached_in step all starts = rising node_cmp (reached_within step all (length all) starts)
