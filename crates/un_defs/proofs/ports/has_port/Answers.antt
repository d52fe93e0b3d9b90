use Rattle.std.proofs.Common.{◌≡◌, ◌<◌, ◌≤◌, ◌==◌, nat_le, false, length, ap, ◌∙◌, arith}
use Rattle.std.specs.List.{list_any, range_with_len}
use Rattle.un_defs.specs.Ports.{first_number}
use Rattle.un_defs.proofs.Numbered.{stands_from, none_below}
use Rattle.un_defs.proofs.ports.has_port.Goals as goal

pub returns-then-first-number : goal.returns-then-first-number
returns-then-first-number c =
    let first = c.first_number-first.result in
    let count = c.port_count.result in
    let within : first ≤ c.args.number = omega (arith, c.if-first-number.true) in
    stands_from first count c.args.number within
    ∙ ap (list_any (λ k. k == c.args.number)) (ap (λ f. range_with_len f count) c.first_number-first.ensures ∙ c.port_count.ensures)

pub returns-else-first-number : goal.returns-else-first-number
returns-else-first-number c =
    let row = c.args.row.now in
    let first = first_number row.class in
    let below : c.args.number < first = omega (arith, c.if-first-number.false, c.first_number-first.ensures) in
    let without : nat_le c.first_number-first.result c.args.number ≡ false = grind (arith, c.if-first-number.false) in
    without ∙ none_below row.class row.terminals (length row.shape) c.args.number below
