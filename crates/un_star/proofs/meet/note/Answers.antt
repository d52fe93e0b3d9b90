use Rattle.std.proofs.Common.{◌∙◌, ap, arith, length}
use Rattle.un_star.specs.Meet.{noted}
use Rattle.un_star.proofs.Grouping.{noted_there}
use Rattle.un_star.proofs.meet.note.Goals as goal

pub returns-then-group-terminal : goal.returns-then-group-terminal
returns-then-group-terminal c =
    noted_there c.loop-place.groups.items c.loop-place.place c.index.result.now c.with_port.result c.args.kind c.args.terminal c.args.port
    (omega (arith, c.loop-place-test.true, ap length c.loop-place.invariant.same, c.len-place-end.ensures)) c.index.ensures c.loop-place.invariant.others c.if-group-kind.true c.if-group-terminal.true c.with_port.ensures
    ∙ ap (λ l. noted l c.args.kind c.args.terminal c.args.port) c.loop-place.invariant.same
