use Rattle.std.proofs.Common.{◌≡◌, ◌≤◌, length, take, map, filter_map}
use Rattle.un_feed.specs.Differences.{change_shown, difference_at}
use Rattle.un_feed.proofs.differences.diff.Given as goal

abbrev pub invariant-loop-point : goal.invariant-loop-point
invariant-loop-point l = record {
  pairs : map change_shown l.pairs.items ≡ filter_map (difference_at l.old l.new l.after) (take l.point-index l.among);
  few : length l.pairs.items ≤ l.most;
}
