use Rattle.std.proofs.Common.{◌≡◌, ◌++◌, flat_map, take}
use Rattle.un_star.specs.Errors.{association_errors_of}
use Rattle.un_star.proofs.errors.add_association_errors.Given as goal

-- the errors of the rows so far are added
abbrev pub invariant-loop-port : goal.invariant-loop-port
invariant-loop-port g l = l.errors.items ≡ l.fn.errors.items ++ flat_map (λ q. association_errors_of (g.R.Rows.features l.rows) l.p q.feature) (take l.port-index l.port-items)
