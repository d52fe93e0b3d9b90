-- Two joints between which a wide main runs straight and a narrow one by a third point: what walks between them cost, and which comes first.
use Rattle.std.specs.Prelude.{◌≡◌, ℕ, ◌-◌, ◌*◌, nat_lt, pos, Bool, true, false, List, [], ◌∷◌, map, Some, None, refl}
use Rattle.std.specs.Ordering.{is_le}
use Rattle.un_geom.specs.declared.point.Point.{Point}
use Rattle.un_schema.specs.declared.kind.Class.TheVariants.{Line}
use Rattle.un_defs.specs.declared.port.Node.{Node}
use Rattle.un_defs.specs.declared.row.Flow.TheVariants.{Both}
use Rattle.un_defs.specs.declared.walk.Mode.TheVariants.{Any}
use Rattle.un_defs.specs.Features.{Features}
use Rattle.un_defs.specs.Ground.{Ground, fresh_ground}
use Rattle.un_defs.specs.Reach.{Follow, leads}
use Rattle.un_defs.proofs.Spread.{spread}
use Rattle.un_defs.proofs.Checks.Networks.{at, origin, port, node, water, a_row, joint, everywhere, stopped_at}
use Rattle.un_defs.proofs.Checks.Stars.{x10, of_rows}
use Rattle.un_ask.specs.declared.results.Label.{Label}
use Rattle.un_ask.specs.declared.typed.CheckAsk.{CheckAsk}
use Rattle.un_ask.specs.declared.typed.Weight.{Weight}
use Rattle.un_ask.specs.declared.typed.Weight.TheVariants.{Steps, Attribute, Unknown}
use Rattle.un_path.specs.Costs.{step_cost, walk_cost}
use Rattle.un_path.specs.Paths.{walk_cmp}
use Rattle.un_path.specs.Verdict.{is_valid}
use Rattle.un_path.specs.WalkList.{walks_between, path_found}

abbrev bend : Point
bend = at (pos 5) (pos 5) (pos 0)

-- their diameters are 10 and 3
abbrev two_ways : Features
two_ways = of_rows water (joint 1 origin ∷ joint 2 x10
    ∷ a_row 3 1 Line 0 (origin ∷ x10 ∷ []) ((0, pos 10) ∷ []) None Both (0 ∷ 0 ∷ [])
    ∷ a_row 4 1 Line 0 (origin ∷ bend ∷ x10 ∷ []) ((0, pos 3) ∷ []) None Both (0 ∷ 0 ∷ []) ∷ [])

abbrev ways : Ground
ways = fresh_ground water two_ways []

abbrev straight : List Node
straight = node 1 1 origin ∷ node 3 0 origin ∷ node 3 1 x10 ∷ node 2 1 x10 ∷ []

abbrev bent : List Node
bent = node 1 1 origin ∷ node 4 0 origin ∷ node 4 1 bend ∷ node 4 2 x10 ∷ node 2 1 x10 ∷ []

abbrev costs : Weight → List Node → ℕ
costs w = walk_cost (step_cost ways everywhere w)

straight_is_walk : Follow (leads ways everywhere Any) (node 1 1 origin) (node 3 0 origin ∷ node 3 1 x10 ∷ node 2 1 x10 ∷ [])
straight_is_walk = (refl, (refl, (refl, tt)))

bent_is_walk : Follow (leads ways everywhere Any) (node 1 1 origin) (node 4 0 origin ∷ node 4 1 bend ∷ node 4 2 x10 ∷ node 2 1 x10 ∷ [])
bent_is_walk = (refl, (refl, (refl, (refl, tt))))

straight_by_steps : costs Steps straight ≡ 1
straight_by_steps = refl

bent_by_steps : costs Steps bent ≡ 2
bent_by_steps = refl

straight_by_diameter : costs (Attribute 0) straight ≡ 10
straight_by_diameter = refl

bent_by_diameter : costs (Attribute 0) bent ≡ 6
bent_by_diameter = refl

straight_by_length : costs (Attribute 1) straight ≡ 0
straight_by_length = refl

straight_by_unknown : costs Unknown straight ≡ 0
straight_by_unknown = refl

fewer_segments_first : is_le (walk_cmp (step_cost ways everywhere Steps) straight bent) ≡ true
fewer_segments_first = refl

lower_diameters_first : is_le (walk_cmp (step_cost ways everywhere (Attribute 0)) straight bent) ≡ false
lower_diameters_first = refl

-- where both cost nothing, fewer nodes come first
fewer_nodes_first : is_le (walk_cmp (step_cost ways everywhere Unknown) straight bent) ≡ true
fewer_nodes_first = refl

-- labels by the straight main alone would give both ends of the last step of the bent one 6 and 10
last_step_costs_nothing : step_cost ways everywhere (Attribute 0) (node 4 2 x10) (node 2 1 x10) ≡ 0
last_step_costs_nothing = refl

all_are_reached : spread ways everywhere Any 8 (node 1 1 origin ∷ [])
    ≡ node 1 1 origin ∷ node 2 1 x10 ∷ node 3 0 origin ∷ node 3 1 x10 ∷ node 4 0 origin ∷ node 4 1 bend ∷ node 4 2 x10 ∷ []
all_are_reached = refl

-- a walk ends in a stop, and so leads nowhere from one
none_from_a_stop : leads ways (stopped_at (port 1 1)) Any (node 1 1 origin) (node 3 0 origin) ≡ false
none_from_a_stop = refl

-- ---- the definitions on three nodes, where a step leads from each to each later one and costs the square of how far it goes

abbrev stop : ℕ → Node
stop k = node k 0 origin

abbrev onward : Node → Node → Bool
onward n m = nat_lt n.port.feature m.port.feature

abbrev square : Node → Node → ℕ
square n m = (m.port.feature - n.port.feature) * (m.port.feature - n.port.feature)

abbrev stops : List Node
stops = stop 1 ∷ stop 2 ∷ stop 3 ∷ []

abbrev label : ℕ → ℕ → Label
label k cost = record { port = port k 0; cost = cost }

walks_onward : walks_between onward stops (stop 1) (stop 3) ≡ (stop 1 ∷ stop 2 ∷ stop 3 ∷ []) ∷ (stop 1 ∷ stop 3 ∷ []) ∷ []
walks_onward = refl

two_short_steps : path_found onward square (stop 1) stops (stop 3) true
    ≡ record { cost = Some 2; nodes = port 1 0 ∷ port 2 0 ∷ port 3 0 ∷ []; labels = label 1 0 ∷ label 2 1 ∷ label 3 2 ∷ [] }
two_short_steps = refl

none_backward : path_found onward square (stop 3) (stop 3 ∷ []) (stop 1) false ≡ record { cost = None; nodes = []; labels = [] }
none_backward = refl

abbrev asked : Node → List ℕ → List Label → CheckAsk
asked to ks labels = record { from = stop 1; to = to; weight = Steps; barriers = everywhere; nodes = map (λ k. port k 0) ks; labels = labels }

short_steps_are_valid : is_valid onward square stops (asked (stop 3) (1 ∷ 2 ∷ 3 ∷ []) (label 1 0 ∷ label 2 1 ∷ label 3 2 ∷ [])) ≡ true
short_steps_are_valid = refl

-- the step from the second node to the third breaks the labels
long_step_is_not : is_valid onward square stops (asked (stop 3) (1 ∷ 3 ∷ []) (label 1 0 ∷ label 2 1 ∷ label 3 4 ∷ [])) ≡ false
long_step_is_not = refl

no_walk_where_none_is : is_valid onward square stops (asked (stop 4) [] (label 1 0 ∷ label 2 1 ∷ label 3 2 ∷ [])) ≡ true
no_walk_where_none_is = refl

no_walk_where_one_is : is_valid onward square stops (asked (stop 3) [] (label 1 0 ∷ label 2 1 ∷ label 3 2 ∷ [])) ≡ false
no_walk_where_one_is = refl
