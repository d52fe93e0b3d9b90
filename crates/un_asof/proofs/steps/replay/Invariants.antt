use Rattle.std.proofs.Common.{drop}
use Rattle.un_machine.specs.Logs.{Leads}
use Rattle.un_asof.proofs.steps.replay.Given as goal

abbrev pub invariant-loop-entry : goal.invariant-loop-entry
invariant-loop-entry g l =
    (t : g.row.M.Denot) × Leads g.M.Machine.step l.state l.entries t × Leads g.M.Machine.step l.reached (drop l.entry-index l.rest) t
