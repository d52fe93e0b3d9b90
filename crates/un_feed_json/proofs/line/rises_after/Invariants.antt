use Rattle.std.proofs.Common.{drop}
use Rattle.un_feed_json.proofs.Rising.{RisesOn}
use Rattle.un_feed_json.proofs.line.rises_after.Given as goal

abbrev pub invariant-loop-change : goal.invariant-loop-change
invariant-loop-change l = RisesOn l.fn.after l.last (drop l.change-index l.changes) l.changes
