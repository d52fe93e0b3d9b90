use Rattle.std.proofs.Common.{get_or, arith, false}
use Rattle.std.proofs.lemmas.List.{get_or_default}
use Rattle.un_star.specs.declared.meet.End.{End}
use Rattle.un_star.proofs.Grouping.{groups_step}
use Rattle.un_star.proofs.meet.groups.Goals as goal

pub loop-end-preserved : goal.loop-end-preserved
loop-end-preserved c = λ rules.
    let none : End = record { port = record { feature = 0; number = 0 }; kind = 0; terminal = 0; outer = false } in
    let end : End = get_or c.args.ends.now c.loop-end.end-index none in
    groups_step rules c.args.joint.now c.args.ends.now c.loop-end.end-index end c.loop-end.groups.items c.take_in.new.groups.items
    (omega arith) (get_or_default c.args.ends.now c.loop-end.end-index none end (omega arith)) (c.loop-end.invariant rules) (c.in_ok-take_in.ensures rules)
