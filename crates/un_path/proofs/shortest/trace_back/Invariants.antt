use Rattle.std.proofs.Common.{◌≡◌, ◌<◌, ◌++◌, List, ◌∷◌, length}
use Rattle.un_defs.specs.declared.port.Node.{Node}
use Rattle.un_path.specs.Hops.{IsAt}
use Rattle.un_path.specs.Paths.{ports_of}
use Rattle.un_path.specs.Search.{IsSettledAt, HasBest, steps_to}
use Rattle.un_path.specs.Settled.{IsChain}
use Rattle.un_path.proofs.shortest.trace_back.Given as goal

-- with the chain of the node at the place, the ports are those of the whole chain
abbrev pub invariant-loop-before : goal.invariant-loop-before
invariant-loop-before l = record {
  inside : l.place < length l.nodes;
  settled : IsSettledAt l.arrivals l.place;
  on : (n here : Node) → IsAt l.nodes l.to n → IsAt l.nodes l.place here → (rest : List Node) → IsChain (HasBest l.nodes l.arrivals) here rest
      → (more : List Node) × (l.ports.items ++ ports_of rest ≡ ports_of (n ∷ more)) × IsChain (HasBest l.nodes l.arrivals) n more;
}

abbrev pub decreases-loop-before : goal.decreases-loop-before
decreases-loop-before l = steps_to l.arrivals l.place
