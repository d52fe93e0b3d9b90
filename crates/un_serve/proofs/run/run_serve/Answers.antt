use Rattle.std.proofs.Common.{[], ◌∷◌, Contains, lit<, refl, sym, subst, ap, Err, ◌∙◌}
use Rattle.un_serve.proofs.Statuses.{fault_statuses, is_source, widened}
use Rattle.un_serve.proofs.run.run_serve.Goals as goal

pub returns-in_default-clause-statuses : goal.returns-in_default-clause-statuses
returns-in_default-clause-statuses g c = (1, lit< tt, refl)

pub returns-in-Ok-clause-statuses : goal.returns-in-Ok-clause-statuses
returns-in-Ok-clause-statuses g c = widened c.serve_network.result c.serve_network.ensures.statuses

pub returns-in-Err-clause-statuses : goal.returns-in-Err-clause-statuses
returns-in-Err-clause-statuses g c =
    subst (λ status. Contains (0 ∷ 2 ∷ 3 ∷ 5 ∷ 6 ∷ 7 ∷ 8 ∷ []) status) (sym c.fault_status.ensures) (fault_statuses c.in-Err.fault)

pub returns-in-Err-clause-source_fault : goal.returns-in-Err-clause-source_fault
returns-in-Err-clause-source_fault g c = λ three.
    c.open_network.ensures.source_fault (c.in-Err.is ∙ ap Err (is_source c.in-Err.fault (sym c.fault_status.ensures ∙ three)))
