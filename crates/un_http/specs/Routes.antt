-- The routes, and what a path and a method find.
use Rattle.std.specs.Prelude.{◌≡◌, ◌≢◌, ℕ, ◌+◌, Bool, true, false, ◌&&◌, ◌||◌, not, nat_le, nat_eq, ◌==◌, if◌then◌else◌, List, [], ◌∷◌, ◌++◌, length, codes}
use Rattle.std.specs.List.{list_all, starts_with}
use Rattle.un_http.specs.declared.route.Route.{Route}
use Rattle.un_http.specs.declared.route.Route.TheVariants.{Commands, Queries, Version, Feature, Subnetwork, NotFound, WrongMethod}
use Rattle.un_http.specs.Head.{is_number, number}

-- the patterns of the routes' paths, in the router's order
abbrev pub route_patterns : List (List ℕ)
route_patterns = codes "/commands" ∷ codes "/features/{id}" ∷ codes "/queries" ∷ codes "/subnetworks/{tier}/{subnet}" ∷ codes "/version" ∷ []

-- a letter, a digit, `_`, `.` or `-`
abbrev pub is_name_byte : ℕ → Bool
is_name_byte byte =
    (nat_le 65 byte && nat_le byte 90) || (nat_le 97 byte && nat_le byte 122) || (nat_le 48 byte && nat_le byte 57) || byte == 95 || byte == 46 || byte == 45

-- 1 to 32 such bytes
abbrev pub is_name : List ℕ → Bool
is_name text = nat_le 1 (length text) && nat_le (length text) 32 && list_all is_name_byte text

-- an id in decimal digits without a zero in front
abbrev pub is_id : List ℕ → Bool
is_id text = is_number text && not (starts_with nat_eq text (48 ∷ [])) && nat_le (number text) 9007199254740991

-- the path has this route; the places of a subnetwork's names are places in the path
abbrev pub IsRoute : List ℕ → Route → Type 0
IsRoute path Commands = path ≡ codes "/commands"
IsRoute path Queries = path ≡ codes "/queries"
IsRoute path Version = path ≡ codes "/version"
IsRoute path (Feature id) = (text : List ℕ) × ((path ≡ codes "/features/" ++ text) × (is_id text ≡ true) × (id ≡ number text))
IsRoute path (Subnetwork tier subnet) = (a : List ℕ) × (b : List ℕ) × ((path ≡ codes "/subnetworks/" ++ (a ++ 47 ∷ b)) × (is_name a ≡ true) × (is_name b ≡ true)
    × (tier ≡ (13, 13 + length a)) × (subnet ≡ (14 + length a, length path)))
IsRoute path NotFound = ⊥
IsRoute path (WrongMethod allow_get) = ⊥

-- whether the route is read by GET; the others take POST
abbrev pub by_get : Route → Bool
by_get Commands = false
by_get Queries = false
by_get Version = true
by_get (Feature id) = true
by_get (Subnetwork tier subnet) = true
by_get NotFound = false
by_get (WrongMethod allow_get) = false

abbrev pub method_of : Route → List ℕ
method_of route = if by_get route then codes "GET" else codes "POST"

-- what a method and a path find: no route, or another method on a route, or the route
abbrev pub Finds : List ℕ → List ℕ → Route → Type 0
Finds method path NotFound = (route : Route) → ¬ (IsRoute path route)
Finds method path (WrongMethod allow_get) = (route : Route) × (IsRoute path route × (method ≢ method_of route) × (allow_get ≡ by_get route))
Finds method path Commands = IsRoute path Commands × (method ≡ codes "POST")
Finds method path Queries = IsRoute path Queries × (method ≡ codes "POST")
Finds method path Version = IsRoute path Version × (method ≡ codes "GET")
Finds method path (Feature id) = IsRoute path (Feature id) × (method ≡ codes "GET")
Finds method path (Subnetwork tier subnet) = IsRoute path (Subnetwork tier subnet) × (method ≡ codes "GET")
