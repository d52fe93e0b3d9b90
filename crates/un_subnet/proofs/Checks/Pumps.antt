-- Updates of a main between two pumps, and of pumps that nothing joins.
use Rattle.std.specs.Prelude.{◌≡◌, ℕ, pos, Bool, true, false, List, [], ◌∷◌, map, Some, None, refl, codes}
use Rattle.un_geom.specs.Rectangle.{Rectangle}
use Rattle.un_defs.specs.declared.port.Node.{Node}
use Rattle.un_defs.specs.declared.row.Row.{Row}
use Rattle.un_defs.specs.declared.assoc.Controller.{Controller}
use Rattle.un_defs.specs.declared.walk.Mode.TheVariants.{Any}
use Rattle.un_defs.specs.declared.refusal.Refusal.TheVariants.{NoSuchTier, NoSuchSubnetwork, DirtyGround, Conflict, Disjoint}
use Rattle.un_defs.specs.Features.{Features}
use Rattle.un_defs.specs.Ground.{Ground, fresh_ground}
use Rattle.un_defs.specs.Reach.{IsReach, leads}
use Rattle.un_defs.proofs.Spread.{spread}
use Rattle.un_defs.proofs.Walking.{spread_is_reach}
use Rattle.un_defs.proofs.Checks.Networks.{origin, port, water, main, pump}
use Rattle.un_defs.proofs.Checks.Stars.{x5, x10}
use Rattle.un_ask.specs.declared.stored.StoredSubnet.{StoredSubnet}
use Rattle.un_ask.specs.declared.stored.Status.TheVariants.{Clean}
use Rattle.un_subnet.specs.Starts.{controller_nodes}
use Rattle.un_subnet.specs.Outcome.{tier_barriers, Outcome, refuses, removes, stores, update_outcome, rows_after}

abbrev controller : ℕ → List ℕ → Controller
controller feature subnet = record { port = port feature 2; tier = 0; subnet = subnet }

abbrev of_rows : List Row → List Controller → Features
of_rows rows controllers = record { rows = rows; associations = []; controllers = controllers; rules = water.rules }

-- two pumps that a main joins
abbrev joined : List Controller → Features
joined controllers = of_rows (pump 1 origin ∷ main 2 (origin ∷ x10 ∷ []) 2 2 ∷ pump 3 x10 ∷ []) controllers

-- two pumps that nothing joins
abbrev apart : List Controller → Features
apart controllers = of_rows (pump 1 origin ∷ pump 3 x10 ∷ []) controllers

-- what the update of "A" reaches
abbrev reached_over : Ground → Features → List Node
reached_over G F = spread G (tier_barriers None 0) Any 4 (controller_nodes F 0 (codes "A"))

-- the update of "A" in a tier that allows disjoint controllers or not
abbrev update_over : Ground → Features → Bool → List StoredSubnet → Outcome
update_over G F disjoint rows = update_outcome G F rows None disjoint (Some 0) (codes "A") (reached_over G F)

abbrev update : Features → Bool → List StoredSubnet → Outcome
update F disjoint rows = update_over (fresh_ground water F []) F disjoint rows

abbrev row : List ℕ → StoredSubnet
row subnet = record { tier = 0; subnet = subnet; controllers = []; members = []; points = []; updated = 1; status = Clean }

-- ---- one controller

abbrev one : Features
one = joined (controller 1 (codes "A") ∷ [])

is_reach : IsReach (leads (fresh_ground water one []) (tier_barriers None 0) Any) (controller_nodes one 0 (codes "A")) (reached_over (fresh_ground water one []) one)
is_reach = spread_is_reach (fresh_ground water one []) (tier_barriers None 0) Any 4 (controller_nodes one 0 (codes "A")) refl

-- the path through the pump with the controller is shut, and the other pump is passed
one_stored : update one false [] ≡ stores (record {
  tier = 0;
  subnet = codes "A";
  controllers = port 1 2 ∷ [];
  members = 1 ∷ 2 ∷ 3 ∷ [];
  points = origin ∷ x10 ∷ [];
  updated = 0;
  status = Clean;
})
one_stored = refl

-- ---- two controllers

two_names : update (joined (controller 1 (codes "A") ∷ controller 3 (codes "B") ∷ [])) false [] ≡ refuses (Conflict (codes "B") 3 2)
two_names = refl

one_name : update (joined (controller 1 (codes "A") ∷ controller 3 (codes "A") ∷ [])) false [] ≡ stores (record {
  tier = 0;
  subnet = codes "A";
  controllers = port 1 2 ∷ port 3 2 ∷ [];
  members = 1 ∷ 2 ∷ 3 ∷ [];
  points = origin ∷ x10 ∷ [];
  updated = 0;
  status = Clean;
})
one_name = refl

two_apart : update (apart (controller 1 (codes "A") ∷ controller 3 (codes "A") ∷ [])) false [] ≡ refuses (Disjoint 3 2)
two_apart = refl

allowed_apart : update (apart (controller 1 (codes "A") ∷ controller 3 (codes "A") ∷ [])) true [] ≡ stores (record {
  tier = 0;
  subnet = codes "A";
  controllers = port 1 2 ∷ port 3 2 ∷ [];
  members = 1 ∷ 3 ∷ [];
  points = origin ∷ x10 ∷ [];
  updated = 0;
  status = Clean;
})
allowed_apart = refl

-- ---- the order of refusals

-- a controller of another name, and one that is apart
abbrev both : Features
both = of_rows (pump 1 origin ∷ main 2 (origin ∷ x10 ∷ []) 2 2 ∷ pump 3 x10 ∷ pump 4 x5 ∷ [])
    (controller 1 (codes "A") ∷ controller 3 (codes "B") ∷ controller 4 (codes "A") ∷ [])

conflict_first : update both false [] ≡ refuses (Conflict (codes "B") 3 2)
conflict_first = refl

-- and an area over the apart one
abbrev area : ℕ × Rectangle
area = (7, record { x0 = pos 5; y0 = pos 0; x1 = pos 5; y1 = pos 0 })

dirt_first : update_over (fresh_ground water both (area ∷ [])) both false [] ≡ refuses (DirtyGround 7 4 2)
dirt_first = refl

-- ---- the caller's part

no_such_tier : update_outcome (fresh_ground water one []) one [] None false None (codes "A") [] ≡ refuses NoSuchTier
no_such_tier = refl

nothing_there : update (joined []) false (row (codes "B") ∷ []) ≡ refuses NoSuchSubnetwork
nothing_there = refl

row_alone : update (joined []) false (row (codes "B") ∷ row (codes "A") ∷ []) ≡ removes
row_alone = refl

-- the rows that are left, and those with a new row in its place
row_removed : rows_after (update (joined []) false (row (codes "A") ∷ row (codes "B") ∷ [])) 9 (row (codes "A") ∷ row (codes "B") ∷ []) 0 (codes "A") ≡ row (codes "B") ∷ []
row_removed = refl

row_replaced : map (λ r. r.updated) (rows_after (update one false (row (codes "A") ∷ row (codes "B") ∷ [])) 9 (row (codes "A") ∷ row (codes "B") ∷ []) 0 (codes "A")) ≡ 1 ∷ 9 ∷ []
row_replaced = refl
