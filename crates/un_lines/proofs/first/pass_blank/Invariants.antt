use Rattle.std.proofs.Common.{ℕ, List, length}
use Rattle.un_lines.specs.Passing.{Passed, PassedWithin}
use Rattle.un_lines.proofs.first.pass_blank.Given as goal

abbrev pub invariant-lines : goal.invariant-lines
invariant-lines l = (read : List ℕ) → Passed read l.initial.buffer.bytes.items l.initial.buffer.over → PassedWithin read l.initial.rest l.rest l.buffer.bytes.items l.buffer.over

abbrev pub decreases-lines : goal.decreases-lines
decreases-lines l = length l.rest
