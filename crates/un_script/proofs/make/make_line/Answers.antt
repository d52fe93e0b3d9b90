use Rattle.std.proofs.Common.{◌≡◌, IfOk, ℕ, List, subst}
use Rattle.un_script.specs.Made.{line_at, made_line}
use Rattle.un_script.proofs.Runs.{line_made}
use Rattle.un_script.proofs.make.make_line.Goals as goal

pub returns : goal.returns
returns c =
    let is : line_at c.in_ok-net.net c.in_ok-net.errors ≡ made_line c.args.seed c.args.count =
    line_made c.args.seed c.args.count c.in_ok-empty.empty c.in_ok-net.net c.in_ok-net.errors
    c.in_ok-empty.ensures c.in_ok-net.ensures.state c.in_ok-net.ensures.errors in
    subst (λ (text : List ℕ). IfOk c.line_at-line.result (λ line. line.items ≡ text)) is c.line_at-line.ensures
