use Rattle.std.proofs.Common.{◌*◌, ◌<◌, ◌≤◌, length, drop}
use Rattle.un_defs.specs.declared.port.Node.{Node}
use Rattle.un_defs.specs.declared.walk.Mode.TheVariants.{Any}
use Rattle.un_defs.specs.Reach.{leads}
use Rattle.un_path.specs.Checking.{GoesOn}
use Rattle.un_path.specs.Costs.{step_cost}
use Rattle.un_path.specs.Hops.{IsAt}
use Rattle.un_path.proofs.walks.walk_end.Given as goal

-- what is left is to go over the rest of the ports from the place
abbrev pub invariant-loop-port : goal.invariant-loop-port
invariant-loop-port g l =
    let G = g.G.Ground.stars_and_areas l.over in
    record {
      inside : l.place < length l.nodes;
      on : (n here : Node) → IsAt l.nodes l.start n → IsAt l.nodes l.place here → GoesOn (leads G l.barriers Any) (step_cost G l.barriers l.weight) n l.ports here (drop l.port-index l.ports) l.cost;
      below : l.cost ≤ l.port-index * 18446744073709551616;
    }
