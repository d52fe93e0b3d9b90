use Rattle.std.proofs.Common.{ℕ, ◌<◌, ◌≤◌, get_or}
use Rattle.un_publish.specs.declared.session.View.{View}
use Rattle.un_asof.proofs.past.count_up_to.Given as goal

abbrev pub invariant-loop-i : goal.invariant-loop-i
invariant-loop-i g l = (k : ℕ) (d : View g.row.M.Denot) → k < l.i → (get_or l.views k d).version ≤ l.version
