use Rattle.un_asof.proofs.Leading.{next_leads}
use Rattle.un_asof.proofs.steps.replay.Goals as goal

pub step_again-requires-after_bounds : goal.step_again-requires-after_bounds
step_again-requires-after_bounds g c κs within =
    let n = next_leads g.M.Machine.step c.args.state.now c.args.entries.now 0 c.index-entries-0.result c.requires.leads.0 c.requires.some c.index-entries-0.is c.requires.leads.1 in
    (n.0, n.1)

pub step_again-requires-in-loop-entry-after_bounds : goal.step_again-requires-in-loop-entry-after_bounds
step_again-requires-in-loop-entry-after_bounds g c κs within =
    let i = c.loop-entry.invariant in
    let n = next_leads g.M.Machine.step c.loop-entry.reached _ c.loop-entry.entry-index c.entry-item.result i.0 c.loop-entry-test.true c.entry-item.is i.2 in
    (n.0, n.1)
