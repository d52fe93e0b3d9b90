use Rattle.std.specs.Prelude.{not}
use Rattle.un_dirty.specs.Areas.{has_area}
use Rattle.un_dirty.proofs.Walking.{IsGathered}
use Rattle.un_dirty.proofs.dirty.areas_gone.Given as goal

abbrev pub invariant-loop-number : goal.invariant-loop-number
invariant-loop-number l = IsGathered (λ a. not (has_area l.later a.0)) l.areas l.number-iterator l.gone.items
