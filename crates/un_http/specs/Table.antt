-- The routes as the router keeps them, in its order.
use Rattle.std.specs.Prelude.{ℕ, List, [], ◌∷◌, ◌++◌, codes}
use Rattle.matchit.specs.Rows.{RowsOf, param_token}
use Rattle.matchit.specs.Router.{RouteOf}
use Rattle.un_http.specs.declared.kind.Kind.{Kind}
use Rattle.un_http.specs.declared.kind.Kind.TheVariants.{Commands, Queries, Version, Feature, Subnetwork}

-- a route of this pattern, whose text names the parameters at these places
abbrev pub row : List ℕ → List ℕ → List (ℕ × ℕ) → Kind → List ℕ × RouteOf Kind
row pattern text names kind = (pattern, record { pattern = pattern; text = text; names = names; value = kind })

abbrev pub commands_row : List ℕ × RouteOf Kind
commands_row = row (codes "/commands") (codes "/commands") [] Commands

abbrev pub queries_row : List ℕ × RouteOf Kind
queries_row = row (codes "/queries") (codes "/queries") [] Queries

abbrev pub version_row : List ℕ × RouteOf Kind
version_row = row (codes "/version") (codes "/version") [] Version

abbrev pub feature_row : List ℕ × RouteOf Kind
feature_row = row (codes "/features/" ++ param_token ∷ []) (codes "/features/{id}") ((11, 13) ∷ []) Feature

abbrev pub subnetwork_row : List ℕ × RouteOf Kind
subnetwork_row = row (codes "/subnetworks/" ++ param_token ∷ 47 ∷ param_token ∷ []) (codes "/subnetworks/{tier}/{subnet}") ((14, 18) ∷ (21, 27) ∷ []) Subnetwork

abbrev pub table : RowsOf (RouteOf Kind)
table = commands_row ∷ feature_row ∷ queries_row ∷ subnetwork_row ∷ version_row ∷ []

-- the patterns of a router's routes as texts, in its order
abbrev pub patterns : RowsOf (RouteOf Kind) → List (List ℕ)
patterns [] = []
patterns ((pattern, route) ∷ rest) = route.text ∷ patterns rest
