-- Updates of a zone, before and after a second pump stands at its other end.
use Rattle.std.specs.Prelude.{◌≡◌, ℕ, ◌*◌, pos, true, false, List, [], ◌∷◌, ◌++◌, map, length, Some, None, refl, codes, if◌then◌else◌, ◌==◌}
use Rattle.un_geom.specs.Rectangle.{Rectangle}
use Rattle.un_geom.specs.declared.point.Point.{Point}
use Rattle.un_defs.specs.declared.port.Node.{Node}
use Rattle.un_defs.specs.declared.row.Row.{Row}
use Rattle.un_defs.specs.declared.assoc.Controller.{Controller}
use Rattle.un_defs.specs.declared.star.Star.{Star}
use Rattle.un_defs.specs.declared.walk.Mode.TheVariants.{Any}
use Rattle.un_defs.specs.declared.refusal.Refusal.TheVariants.{DirtyGround, Conflict}
use Rattle.un_defs.specs.Features.{Features}
use Rattle.un_defs.specs.Ground.{Ground, fresh_ground}
use Rattle.un_defs.specs.Reach.{dirt}
use Rattle.un_defs.specs.Star.{star}
use Rattle.un_defs.proofs.Spread.{spread}
use Rattle.un_defs.proofs.Checks.Networks.{at, port, water, joint, main, pump, valve}
use Rattle.un_ask.specs.declared.stored.StoredSubnet.{StoredSubnet}
use Rattle.un_subnet.specs.Starts.{controller_nodes}
use Rattle.un_subnet.specs.Refusals.{dirt_refusal, conflict_refusal}
use Rattle.un_subnet.specs.Answer.{row_of}
use Rattle.un_subnet.specs.Outcome.{tier_barriers, update_ask}
use Rattle.un_subnet.specs.Changes.{changes_at, is_made_dirty}

-- a place in metres
abbrev place : ℕ → ℕ → Point
place x y = at (pos (x * 1000)) (pos (y * 1000)) (pos 0)

abbrev pipe : ℕ → Point → Point → ℕ → ℕ → Row
pipe id p q first last = main id (p ∷ q ∷ []) first last

abbrev source : Controller
source = record { port = port 1 2; tier = 0; subnet = codes "A" }

-- twelve mains, four valves and a pump with a controller
abbrev zone : Features
zone = record {
  rows =
      pump 1 (place 0 0)
      ∷ joint 2 (place 1 0) ∷ joint 3 (place 3 0) ∷ joint 4 (place 1 1) ∷ joint 5 (place 3 1)
      ∷ joint 6 (place 5 0) ∷ joint 7 (place 6 0) ∷ joint 8 (place 1 3)
      ∷ valve 9 0 (place 2 0) ∷ valve 10 0 (place 2 1) ∷ valve 11 0 (place 4 0) ∷ valve 12 0 (place 1 2)
      ∷ pipe 13 (place 0 0) (place 1 0) 2 0 ∷ pipe 14 (place 1 0) (place 2 0) 0 1 ∷ pipe 15 (place 2 0) (place 3 0) 2 0
      ∷ pipe 16 (place 1 0) (place 1 1) 0 0 ∷ pipe 17 (place 1 1) (place 2 1) 0 1 ∷ pipe 18 (place 2 1) (place 3 1) 2 0
      ∷ pipe 19 (place 3 1) (place 3 0) 0 0 ∷ pipe 20 (place 3 0) (place 4 0) 0 1 ∷ pipe 21 (place 4 0) (place 5 0) 2 0
      ∷ pipe 22 (place 5 0) (place 6 0) 0 0 ∷ pipe 23 (place 1 1) (place 1 2) 0 1 ∷ pipe 24 (place 1 2) (place 1 3) 2 0
      ∷ [];
  associations = [];
  controllers = source ∷ [];
  rules = water.rules;
}

abbrev over : Features → List (ℕ × Rectangle) → Ground
over F areas = fresh_ground water F areas

abbrev reached : Features → List (ℕ × Rectangle) → List Node
reached F areas = spread (over F areas) (tier_barriers None 0) Any 20 (controller_nodes F 0 (codes "A"))

abbrev row : Features → StoredSubnet
row F = row_of (update_ask F None false 0 (codes "A")) (reached F [])

alone_members : length (row zone).members ≡ 24
alone_members = refl

no_conflict : conflict_refusal (over zone []) 0 (codes "A") (reached zone []) ≡ None
no_conflict = refl

-- ---- a second pump with a controller of another name

abbrev stranger : Controller
stranger = record { port = port 25 2; tier = 0; subnet = codes "B" }

-- the valve 12 with this path
abbrev two_sources : ℕ → Features
two_sources path = record {
  rows = map (λ (r : Row). if r.id == 12 then valve 12 path (place 1 2) else r) zone.rows ++ pump 25 (place 1 4) ∷ pipe 26 (place 1 3) (place 1 4) 0 2 ∷ [];
  associations = [];
  controllers = source ∷ stranger ∷ [];
  rules = water.rules;
}

conflict : conflict_refusal (over (two_sources 0) []) 0 (codes "A") (reached (two_sources 0) []) ≡ Some (Conflict (codes "B") 25 2)
conflict = refl

-- the valve is shut, and not yet validated
abbrev area : ℕ × Rectangle
area = (29, record { x0 = pos 1000; y0 = pos 2000; x1 = pos 1000; y1 = pos 2000 })

dirty : dirt_refusal (dirt (over (two_sources 1) (area ∷ [])) (reached (two_sources 1) (area ∷ []))) ≡ Some (DirtyGround 29 23 1)
dirty = refl

-- and validated
parted : conflict_refusal (over (two_sources 1) []) 0 (codes "A") (reached (two_sources 1) []) ≡ None
parted = refl

parted_members : (row (two_sources 1)).members
    ≡ 1 ∷ 2 ∷ 3 ∷ 4 ∷ 5 ∷ 6 ∷ 7 ∷ 9 ∷ 10 ∷ 11 ∷ 12 ∷ 13 ∷ 14 ∷ 15 ∷ 16 ∷ 17 ∷ 18 ∷ 19 ∷ 20 ∷ 21 ∷ 22 ∷ 23 ∷ []
parted_members = refl

parted_controllers : (row (two_sources 1)).controllers ≡ port 1 2 ∷ []
parted_controllers = refl

-- ---- a validation after an attribute of the main 15 was changed

abbrev wide : Features
wide = record (two_sources 1) { rows = map (λ (r : Row). if r.id == 15 then record r { attrs = (0, pos 300) ∷ [] } else r) (two_sources 1).rows }

abbrev kept : Point → Star
kept p = star water (two_sources 1) p

abbrev rebuilt : Point → Star
rebuilt p = star water wide p

-- the row of "A" has the main's points
made_dirty : is_made_dirty 0 (codes "A") (row (two_sources 1)).points (changes_at kept rebuilt (place 2 0 ∷ place 3 0 ∷ [])) ≡ true
made_dirty = refl

-- one that has none of them, of a name that no controller there has, stays
stays : is_made_dirty 0 (codes "B") (place 1 4 ∷ []) (changes_at kept rebuilt (place 2 0 ∷ place 3 0 ∷ [])) ≡ false
stays = refl

-- a controller comes: its own point changes, and the row of its name becomes dirty without having the point
comes : is_made_dirty 0 (codes "B") [] (changes_at (λ p. star water zone p) kept (place 1 4 ∷ [])) ≡ true
comes = refl
