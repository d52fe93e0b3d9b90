use Rattle.std.proofs.Common.{◌≡◌, take, map}
use Rattle.un_feed.specs.Differences.{change_shown, applied}
use Rattle.un_feed.proofs.putting.put_in.Given as goal

abbrev pub invariant-loop-change : goal.invariant-loop-change
invariant-loop-change l = l.changed ≡ applied l.map (map change_shown (take l.change-index l.page.pairs))
