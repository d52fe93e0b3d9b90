use Rattle.un_dirty.proofs.Entries.{IsToCome}
use Rattle.un_dirty.proofs.cells.least_in.Given as goal

abbrev pub invariant-loop-entry : goal.invariant-loop-entry
invariant-loop-entry l = IsToCome l.cell l.p l.areas l.cells l.entry-iterator
