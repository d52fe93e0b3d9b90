use Rattle.std.proofs.Common.{◌≡◌, ◌==◌, ◌++◌}
use Rattle.std.specs.List.{take_while}
use Rattle.std.specs.Map.{values_of}
use Rattle.un_assoc.specs.Indexes.{at_feature}
use Rattle.un_assoc.proofs.ends.Ends.of.Given as goal

abbrev pub invariant-loop-end : goal.invariant-loop-end
invariant-loop-end l = l.found.items ++ values_of (take_while (λ p. p.0.feature == l.feature) l.end-iterator) ≡ at_feature l.feature l.self.pairs
