use Rattle.std.proofs.Common.{sym, ◌∙◌, ap, Some, ℕ}
use Rattle.un_http.specs.declared.route.Route.{Route}
use Rattle.un_http.specs.declared.route.Route.TheVariants.{Feature as FeatureRoute, Subnetwork as SubnetworkRoute}
use Rattle.un_http.specs.Routes.{IsRoute}
use Rattle.un_http.proofs.Fits.{is_commands, is_queries, is_version}
use Rattle.un_http.proofs.Names.{match_weaker}
use Rattle.un_http.proofs.Reached.{none_reached, not_feature, not_subnetwork}
use Rattle.un_http.proofs.routes.Routes.route_of.Goals as goal

pub returns-in-None : goal.returns-in-None
returns-in-None c = none_reached c.args.path.now (sym c.kind_at.ensures ∙ c.in-None.is)

pub returns-in-Some-Commands : goal.returns-in-Some-Commands
returns-in-Some-Commands c = is_commands c.args.path.now (ap Some (sym c.in-Some-Commands.field-0-is) ∙ sym c.in-Some-Commands.is ∙ c.kind_at.ensures)

pub returns-in-Some-Queries : goal.returns-in-Some-Queries
returns-in-Some-Queries c = is_queries c.args.path.now (ap Some (sym c.in-Some-Queries.field-0-is) ∙ sym c.in-Some-Queries.is ∙ c.kind_at.ensures)

pub returns-in-Some-Version : goal.returns-in-Some-Version
returns-in-Some-Version c = is_version c.args.path.now (ap Some (sym c.in-Some-Version.field-0-is) ∙ sym c.in-Some-Version.is ∙ c.kind_at.ensures)

pub returns-in-Some-Feature : goal.returns-in-Some-Feature
returns-in-Some-Feature c =
    match_weaker c.feature.result ((id : ℕ) → ¬ (IsRoute c.args.path.now (FeatureRoute id))) ((route : Route) → ¬ (IsRoute c.args.path.now route)) (IsRoute c.args.path.now)
    (not_feature c.args.path.now (sym c.kind_at.ensures ∙ c.in-Some-Feature.is ∙ ap Some c.in-Some-Feature.field-0-is)) c.feature.ensures

pub returns-in-Some-Subnetwork : goal.returns-in-Some-Subnetwork
returns-in-Some-Subnetwork c =
    match_weaker c.subnetwork.result ((tier subnet : ℕ × ℕ) → ¬ (IsRoute c.args.path.now (SubnetworkRoute tier subnet))) ((route : Route) → ¬ (IsRoute c.args.path.now route)) (IsRoute c.args.path.now)
    (not_subnetwork c.args.path.now (sym c.kind_at.ensures ∙ c.in-Some-Subnetwork.is ∙ ap Some c.in-Some-Subnetwork.field-0-is)) c.subnetwork.ensures
