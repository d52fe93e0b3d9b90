use Rattle.std.proofs.Common.{◌≡◌, ◌≤◌, ◌-◌, ◌^◌}
use Rattle.un_lines.specs.Passing.{IsPassing}
use Rattle.un_lines.proofs.first.read_to_first.Given as goal

abbrev pub invariant-pieces : goal.invariant-pieces
invariant-pieces g l = record {
  limit : l.count ≤ 2 ^ 32;
  faults : g.S.Source.faults l.source ≡ g.S.Source.faults l.initial.source;
  passing : IsPassing (g.S.Source.left l.initial.source) (g.S.Source.left l.source) l.buffer.bytes.items l.buffer.over l.count;
}

abbrev pub decreases-pieces : goal.decreases-pieces
decreases-pieces g l = 2 ^ 32 - l.count
