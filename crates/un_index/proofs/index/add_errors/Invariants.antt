use Rattle.std.proofs.Common.{◌≡◌, ◌++◌, map, take}
use Rattle.un_index.proofs.index.add_errors.Given as goal

abbrev pub invariant-loop-error : goal.invariant-loop-error
invariant-loop-error l = l.list.items ≡ l.initial.list.items ++ map (λ e. (l.point, e)) (take l.error-index l.errors)
