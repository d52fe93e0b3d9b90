-- The paths, checks and diagrams that requests ask for, with their names looked up, or why there are none.
use Rattle.std.specs.Prelude.{ℕ, true, List, [], ◌∷◌, map, Option, Some, None, ok_or, Result, Ok, Err}
use Rattle.std.specs.Option.{option_map_or}
use Rattle.un_conds.specs.Conditions.{Condition}
use Rattle.un_conds.specs.Names.{place_of}
use Rattle.un_schema.specs.Catalog.{Catalog}
use Rattle.un_schema.specs.declared.place.Place.{Place}
use Rattle.un_schema.specs.declared.place.Place.TheVariants as place
use Rattle.un_defs.specs.declared.port.Port.{Port}
use Rattle.un_defs.specs.declared.port.Node.{Node}
use Rattle.un_defs.specs.declared.refusal.Refusal.{Refusal}
use Rattle.un_defs.specs.declared.refusal.Refusal.TheVariants as refusal
use Rattle.un_defs.specs.declared.walk.Barriers.{Barriers}
use Rattle.un_defs.specs.Features.{Features}
use Rattle.un_defs.specs.Refusing.{first_refusal}
use Rattle.un_ask.specs.declared.path.NamedPath.{NamedPath}
use Rattle.un_ask.specs.declared.path.NamedCheck.{NamedCheck}
use Rattle.un_ask.specs.declared.diagram.NamedDiagram.{NamedDiagram}
use Rattle.un_ask.specs.declared.typed.Weight.{Weight}
use Rattle.un_ask.specs.declared.typed.Weight.TheVariants as weight
use Rattle.un_ask.specs.declared.typed.PathAsk.{PathAsk}
use Rattle.un_ask.specs.declared.typed.CheckAsk.{CheckAsk}
use Rattle.un_ask.specs.declared.typed.DiagramAsk.{DiagramAsk}
use Rattle.un_resolve.specs.Starts.{no_feature, no_start, start_node, nodes_of}
use Rattle.un_resolve.specs.Resolved.{condition_of, bad_condition}
use Rattle.un_resolve.specs.declared.paths.Ends.{Ends}

-- ---- one after the other

-- what comes next, unless a refusal is due before
abbrev pub behind : {A : Type 0} → Option Refusal → Result A Refusal → Result A Refusal
behind None next = next
behind (Some r) next = Err r

abbrev pub and_then : {A B : Type 0} → (A → Result B Refusal) → Result A Refusal → Result B Refusal
and_then f (Err r) = Err r
and_then f (Ok a) = f a

-- ---- parts

-- where walks stop that go in no tier
abbrev pub barriers_with : Catalog → Option (Condition (List ℕ)) → List Port → Barriers
barriers_with S barriers stops = record {
  request = condition_of S barriers;
  of_tier = None;
  stops = stops;
  tier = None;
  consistent = true;
}

-- the node of a port of a live row, or the refusal where the row has no such port
abbrev pub node_at : Features → Port → Result Node Refusal
node_at F q = ok_or (start_node F q) (refusal.NoStart q.feature q.number)

-- what a segment costs: 1, or the value of an attribute; an unknown one is one that no feature has
abbrev pub weight_of : Catalog → Option (List ℕ) → Weight
weight_of S None = weight.Steps
weight_of S (Some name) = option_map_or weight.Attribute (place_of name S.attributes) weight.Unknown

-- ---- paths and checks

-- the nodes of two ports, and where walks from the first stop: both features are looked at first, then both ports, then the condition
abbrev pub ends_asked : Catalog → Features → Port → Port → Option (Condition (List ℕ)) → List Port → Result Ends Refusal
ends_asked S F from to barriers stops =
    behind (first_refusal (map (no_feature F) (from ∷ to ∷ [])))
    (and_then (λ a. and_then (λ b.
    behind (bad_condition S barriers place.Barriers) (Ok (record { from = a; to = b; barriers = barriers_with S barriers stops })))
    (node_at F to)) (node_at F from))

abbrev pub path_from : Catalog → NamedPath → Ends → PathAsk
path_from S ask ends = record {
  from = ends.from;
  to = ends.to;
  weight = weight_of S ask.weight;
  barriers = ends.barriers;
  certificate = ask.certificate;
}

abbrev pub path_asked : Catalog → Features → NamedPath → Result PathAsk Refusal
path_asked S F ask = and_then (λ ends. Ok (path_from S ask ends)) (ends_asked S F ask.from ask.to ask.barriers ask.stops)

abbrev pub check_from : Catalog → NamedCheck → Ends → CheckAsk
check_from S ask ends = record {
  from = ends.from;
  to = ends.to;
  weight = weight_of S ask.weight;
  barriers = ends.barriers;
  nodes = ask.nodes;
  labels = ask.labels;
}

abbrev pub check_asked : Catalog → Features → NamedCheck → Result CheckAsk Refusal
check_asked S F ask = and_then (λ ends. Ok (check_from S ask ends)) (ends_asked S F ask.from ask.to ask.barriers ask.stops)

-- ---- diagrams

-- a condition by numbers, or the refusal at its place
abbrev pub condition_asked : Catalog → Condition (List ℕ) → Place → Result (Condition ℕ) Refusal
condition_asked S cond place = ok_or (condition_of S (Some cond)) (refusal.BadCondition place)

-- all features are looked at first, then all ports, then the condition for what is kept, and then that for barriers
abbrev pub diagram_asked : Catalog → Features → NamedDiagram → Result DiagramAsk Refusal
diagram_asked S F ask =
    behind (first_refusal (map (no_feature F) ask.starts))
    (behind (first_refusal (map (no_start F) ask.starts))
    (and_then (λ keep.
    behind (bad_condition S ask.barriers place.Barriers)
    (Ok (record { starts = nodes_of F ask.starts; keep = keep; barriers = barriers_with S ask.barriers ask.stops })))
    (condition_asked S ask.keep place.Keep)))
