use Rattle.std.proofs.Common.{◌≡◌, ◌++◌, flat_map, take}
use Rattle.un_star.specs.Errors.{errors_of_association}
use Rattle.un_star.proofs.errors.add_row_errors.Given as goal

-- the errors of the associations so far are added
abbrev pub invariant-loop-assoc : goal.invariant-loop-assoc
invariant-loop-assoc g l = l.errors.items ≡ l.fn.errors.items ++ flat_map (errors_of_association (g.R.Rows.features l.rows) l.p) (take l.assoc-index l.assoc-items)
