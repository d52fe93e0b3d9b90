-- Each controller of a subnetwork has a node, so the walk of a subnetwork with controllers may be asked for.
use Rattle.std.proofs.Common.{◌≡◌, ℕ, ◌≤◌, true, List, [], ◌∷◌, length, map, filter_map, slice_get, refl, sym, ap, subst, ◌∙◌, inl, inr, Option, Some, None, IsSomeAnd, IsTrue, option_and_then, arith, true≢false}
use Rattle.std.specs.Prelude.{nat_le}
use Rattle.std.specs.Option.{option_map}
use Rattle.std.specs.List.{cons_option}
use Rattle.un_geom.specs.declared.point.Point.{Point}
use Rattle.un_schema.specs.declared.kind.Class.{Class}
use Rattle.un_schema.specs.declared.kind.Class.TheVariants.{Device, Junction, Line, Assembly, Structure}
use Rattle.un_schema.specs.Catalog.{Catalog}
use Rattle.un_defs.specs.declared.port.Node.{Node}
use Rattle.un_defs.specs.declared.row.Row.{Row}
use Rattle.un_defs.specs.declared.assoc.Controller.{Controller}
use Rattle.un_defs.specs.Features.{Features, row, is_joint, is_of_subnet, controllers_of}
use Rattle.un_defs.specs.Ports.{node_of, shape_place}
use Rattle.un_defs.specs.Links.{node_at}
use Rattle.un_defs.specs.Sound.{IsSound, IsLiveJoint, FitsKind, least_points}
use Rattle.un_defs.proofs.Rising.{Among}
use Rattle.un_defs.proofs.Members.{among_from-filter}
use Rattle.un_defs.proofs.Unique.{from_all}
use Rattle.un_defs.proofs.Standing.{from_row}
use Rattle.un_subnet.specs.Starts.{controller_nodes}
use Rattle.un_subnet.specs.Laws.{StartsLaw, MayUpdateLaw}

first_of : (xs : List Point) → 1 ≤ length xs → (p : Point) × (slice_get xs 0 ≡ Some p)
first_of [] h = absurd (omega arith)
first_of (p ∷ ps) h = (p, refl)

-- a row with terminals has a point for each of them
joint_node : (r : Row) (number : ℕ) → is_joint r.class ≡ true → least_points r.class ≤ length r.shape → (n : Node) × (node_of r number ≡ Some n) × (n.port ≡ record { feature = r.id; number = number })
joint_node r number = at r.class refl
  where
    by_place : (c : Class) → r.class ≡ c → shape_place c number ≡ 0 → 1 ≤ length r.shape → (n : Node) × (node_of r number ≡ Some n) × (n.port ≡ record { feature = r.id; number = number })
    by_place c e place h =
        let p = first_of r.shape h in (
          record { port = record { feature = r.id; number = number }; at = p.0 },
          ap (λ k. option_map (λ p. record { port = record { feature = r.id; number = number }; at = p }) (slice_get r.shape k)) (ap (λ c. shape_place c number) e ∙ place)
              ∙ ap (option_map (λ p. record { port = record { feature = r.id; number = number }; at = p })) p.1,
          refl,
        )

    at : (c : Class) → r.class ≡ c → is_joint r.class ≡ true → least_points r.class ≤ length r.shape → (n : Node) × (node_of r number ≡ Some n) × (n.port ≡ record { feature = r.id; number = number })
    at Device e j h = by_place Device e refl (subst (λ c. least_points c ≤ length r.shape) e h)
    at Junction e j h = by_place Junction e refl (subst (λ c. least_points c ≤ length r.shape) e h)
    at Line e j h = absurd (true≢false (sym j ∙ ap is_joint e))
    at Assembly e j h = absurd (true≢false (sym j ∙ ap is_joint e))
    at Structure e j h = absurd (true≢false (sym j ∙ ap is_joint e))

live_joint : (F : Features) (id : ℕ) → IsLiveJoint F id → (r : Row) × (row F id ≡ Some r) × (is_joint r.class ≡ true)
live_joint F id = go (row F id)
  where
    go : (o : Option Row) → IsSomeAnd o (λ r. IsTrue (is_joint r.class)) → (r : Row) × (o ≡ Some r) × (is_joint r.class ≡ true)
    go None h = absurd h
    go (Some r) h = (r, refl, h)

controller_node : (S : Catalog) (F : Features) → IsSound S F → (c : Controller) → Among F.controllers c → (n : Node) × (node_at F c.port ≡ Some n) × (n.port ≡ c.port)
controller_node S F sound c h =
    let r = live_joint F c.port.feature (from_all (λ c. IsLiveJoint F c.port.feature) F.controllers sound.controlled c h) in
    let lives = from_row F c.port.feature r.0 r.1 in
    let n = joint_node r.0 c.port.number r.2 (from_all (FitsKind S) F.rows sound.kinds r.0 lives.0).enough in
    (n.0, ap (λ o. option_and_then (λ r. node_of r c.port.number) o) r.1 ∙ n.1, n.2 ∙ (λ i. record { feature = lives.1 i; number = c.port.number }))

all_nodes : (F : Features) (cs : List Controller) → ((c : Controller) → Among cs c → (n : Node) × (node_at F c.port ≡ Some n) × (n.port ≡ c.port))
    → map (λ n. n.port) (filter_map (λ c. node_at F c.port) cs) ≡ map (λ c. c.port) cs
all_nodes F [] h = refl
all_nodes F (c ∷ cs) h =
    let n = h c (inl refl) in
    let rest = all_nodes F cs (λ d g. h d (inr g)) in
    ap (λ o. map (λ n. n.port) (cons_option o (filter_map (λ c. node_at F c.port) cs))) n.1 ∙ (λ i. n.2 i ∷ rest i)

pub starts : StartsLaw
starts S F tier subnet sound =
    all_nodes F (controllers_of F tier subnet) (λ c h. controller_node S F sound c (among_from-filter (is_of_subnet tier subnet) F.controllers c h).0)

-- as many nodes as controllers
some_nodes : (nodes : List Node) (cs : List Controller) → map (λ n. n.port) nodes ≡ map (λ c. c.port) cs → nat_le 1 (length cs) ≡ true → 1 ≤ length nodes
some_nodes [] [] e some = cc
some_nodes [] (c ∷ cs) e some = cc
some_nodes (n ∷ ns) cs e some = omega arith

pub may_update : MayUpdateLaw
may_update S F barrier disjoint tier subnet sound some = record {
  tier = refl;
  subnet = refl;
  consistent = refl;
  starts = some_nodes (controller_nodes F tier subnet) (controllers_of F tier subnet) (starts S F tier subnet sound) some;
}
