use Rattle.std.proofs.Common.{None}
use Rattle.std.proofs.lemmas.Result.{err_from_is_err_and}
use Rattle.un_core.proofs.Making.{edit_bad, edit_beside}
use Rattle.un_core.proofs.net.Net.edit.Goals as goal

pub returns-in_err-check_numbers-clause-good : goal.returns-in_err-check_numbers-clause-good
returns-in_err-check_numbers-clause-good c =
    let p = err_from_is_err_and c.from_residual.result c.from_residual.ensures.1 in
    rw p.1 tt

pub returns-in_err-check_numbers-clause-bad : goal.returns-in_err-check_numbers-clause-bad
returns-in_err-check_numbers-clause-bad c =
    let p = err_from_is_err_and c.from_residual.result c.from_residual.ensures.1 in
    rw (p.1, p.2) (λ memory. edit_bad c.args.self.now c.args.edit.now c.in_err-check_numbers.field-0.0 c.in_err-check_numbers.ensures.bad)

pub returns-in_err-net-clause-good : goal.returns-in_err-net-clause-good
returns-in_err-net-clause-good c =
    let p = err_from_is_err_and c.from_residual-in_err-net.result c.from_residual-in_err-net.ensures.1 in
    rw p.1 tt

pub returns-clause-good : goal.returns-clause-good
returns-clause-good c = edit_beside c.args.self.now c.args.edit.now None c.in_ok-check_numbers.ensures.good c.in_ok-net.ensures.good
