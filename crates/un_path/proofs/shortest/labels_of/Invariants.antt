use Rattle.un_path.specs.Search.{AreLabelsOf}
use Rattle.un_path.proofs.shortest.labels_of.Given as goal

abbrev pub invariant-loop-i : goal.invariant-loop-i
invariant-loop-i l = AreLabelsOf l.nodes l.arrivals l.labels.items l.i
