-- What the router finds.
use Rattle.std.specs.Prelude.{◌≡◌, List, ℕ, Option, None, if◌then◌else◌}
use Rattle.std.specs.Str.{is_utf8}
use Rattle.matchit.specs.Seek.{first}
use Rattle.matchit.specs.Router.{map_key}
use Rattle.un_http.specs.declared.kind.Kind.{Kind}
use Rattle.un_http.specs.declared.kind.Kind.TheVariants.{Commands, Queries, Version, Feature, Subnetwork}
use Rattle.un_http.specs.declared.route.Route.{Route}
use Rattle.un_http.specs.declared.route.Route.TheVariants.{Commands as CommandsRoute, Queries as QueriesRoute, Version as VersionRoute, Feature as FeatureRoute, Subnetwork as SubnetworkRoute, NotFound, WrongMethod}
use Rattle.un_http.specs.Table.{table}

-- the kind of the route that the router finds for a path; a path that isn't UTF-8 has none
abbrev pub kind_at : List ℕ → Option Kind
kind_at path = if is_utf8 path then map_key (λ route. route.value) (first table path) else None

-- a route of this kind
abbrev pub IsKindOf : Kind → Route → Type 0
IsKindOf kind CommandsRoute = kind ≡ Commands
IsKindOf kind QueriesRoute = kind ≡ Queries
IsKindOf kind VersionRoute = kind ≡ Version
IsKindOf kind (FeatureRoute id) = kind ≡ Feature
IsKindOf kind (SubnetworkRoute tier subnet) = kind ≡ Subnetwork
IsKindOf kind NotFound = ⊥
IsKindOf kind (WrongMethod allow_get) = ⊥
