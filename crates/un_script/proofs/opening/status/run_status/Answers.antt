use Rattle.std.proofs.Common.{lit<, refl}
use Rattle.un_script.proofs.Statuses as ending
use Rattle.un_script.proofs.opening.status.run_status.Goals as goal

pub returns-in-Ended-clause-statuses : goal.returns-in-Ended-clause-statuses
returns-in-Ended-clause-statuses g c = (0, lit< tt, refl)

pub returns-in-SourceFault-clause-statuses : goal.returns-in-SourceFault-clause-statuses
returns-in-SourceFault-clause-statuses g c = (1, lit< tt, refl)

pub returns-in-SinkFault-clause-statuses : goal.returns-in-SinkFault-clause-statuses
returns-in-SinkFault-clause-statuses g c = (2, lit< tt, refl)

pub returns-in-Refused-clause-statuses : goal.returns-in-Refused-clause-statuses
returns-in-Refused-clause-statuses g c = (3, lit< tt, refl)

pub returns-in-Memory-clause-statuses : goal.returns-in-Memory-clause-statuses
returns-in-Memory-clause-statuses g c = (4, lit< tt, refl)

pub returns-in-Limit-clause-statuses : goal.returns-in-Limit-clause-statuses
returns-in-Limit-clause-statuses g c = (5, lit< tt, refl)

pub returns-in-Ended-clause-runs : goal.returns-in-Ended-clause-runs
returns-in-Ended-clause-runs g c =
    ending.ended _ _ _ _ _ _ _ _ _ _ (c.in-Ended.ensures.ended refl) (c.in-Ended.ensures.opened refl) (c.in-Ended.ensures.at_end refl)

pub returns-in-SourceFault-clause-runs : goal.returns-in-SourceFault-clause-runs
returns-in-SourceFault-clause-runs g c =
    ending.source_fault _ _ _ _ _ _ _ _ _ _ (c.in-SourceFault.ensures.source_fault refl) (c.in-SourceFault.ensures.source_cause refl)

pub returns-in-SinkFault-clause-runs : goal.returns-in-SinkFault-clause-runs
returns-in-SinkFault-clause-runs g c =
    ending.sink_fault _ _ _ _ _ _ _ _ _ (c.in-SinkFault.ensures.sink_fault refl) (c.in-SinkFault.ensures.sink_cause refl)

pub returns-in-Refused-clause-runs : goal.returns-in-Refused-clause-runs
returns-in-Refused-clause-runs g c = ending.refused _ _ _ _ _ _ _ _ _ c.requires.schema (c.in-Refused.ensures.refused refl) c.in-Refused.ensures.complete

pub returns-in-Memory-clause-runs : goal.returns-in-Memory-clause-runs
returns-in-Memory-clause-runs g c = ending.memory _ _ _ _ _ _ _ _ _ (c.in-Memory.ensures.memory refl)

pub returns-in-Limit-clause-runs : goal.returns-in-Limit-clause-runs
returns-in-Limit-clause-runs g c = ending.limit _ _ _ _ _ _ _ _ _ _ (c.in-Limit.ensures.limit refl) c.in-Limit.ensures.complete
