use Rattle.std.proofs.Common.{◌≡◌, ◌≤◌, ◌+◌, drop, map}
use Rattle.un_defs.specs.Refusing.{first_refusal}
use Rattle.un_subnet.specs.Refusals.{conflict_at}
use Rattle.un_subnet.proofs.conflict.conflict_refusal.Given as goal

-- what is due is due of the nodes that are left
abbrev pub invariant-loop-node : goal.invariant-loop-node
invariant-loop-node g l = record {
  left : first_refusal (map (conflict_at (g.G.Ground.stars_and_areas l.over) l.tier l.subnet) l.reached)
      ≡ first_refusal (map (conflict_at (g.G.Ground.stars_and_areas l.over) l.tier l.subnet) (drop l.node-index l.reached));
  rises : l.fn.steps ≤ l.steps;
  counted : l.steps ≤ l.fn.steps + l.node-index;
}
