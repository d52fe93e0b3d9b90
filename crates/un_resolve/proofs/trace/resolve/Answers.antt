use Rattle.std.proofs.Common.{sym, ◌∙◌}
use Rattle.un_resolve.specs.Valves.{valves_refusal}
use Rattle.un_resolve.proofs.Isolating.{are_clear}
use Rattle.un_resolve.proofs.StartsStand.{starts_stand}
use Rattle.un_resolve.proofs.trace.resolve.Goals as goal

pub returns-clause-starts : goal.returns-clause-starts
returns-clause-starts g c = starts_stand c.args.setup.now (g.D.Directory.features c.args.features.now) c.args.ask.now

pub returns-clause-clear : goal.returns-clause-clear
returns-clause-clear g c =
    let F = g.D.Directory.features c.args.features.now in
    are_clear c.args.setup.now F c.args.ask.now
    ((λ i. valves_refusal c.args.setup.now.schema F (sym c.in_ok-conditions.ensures.isolators i) (sym c.given_starts-given.ensures i)) ∙ c.in_ok-check_valves.ensures.good)
