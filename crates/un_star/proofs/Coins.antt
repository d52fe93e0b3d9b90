-- What joins at a point, and by which link, by what the rules ask of it.
use Rattle.std.proofs.Common.{◌≡◌, Bool, true, false, ◌&&◌, ◌||◌, not, if◌then◌else◌, [], refl, sym, ap, ◌∙◌, Some, nat_le, slice_get}
use Rattle.std.specs.List.{list_any}
use Rattle.std.specs.Option.{option_map}
use Rattle.un_geom.specs.declared.point.Point.{Point}
use Rattle.un_schema.specs.Catalog.{Catalog}
use Rattle.un_schema.specs.Rules.{edge, through}
use Rattle.un_defs.specs.declared.link.LinkName.TheVariants.{Coin}
use Rattle.un_defs.specs.declared.row.Row.{Row}
use Rattle.un_defs.specs.Features.{Features, is_joint, is_line}
use Rattle.un_defs.specs.Sound.{IsSound}
use Rattle.un_defs.specs.Links.{link_of, Vertex, vertices_at, may_connect, chosen, has_chosen, passes_with, same_vertex, meeting, is_allowed, joins_to, only, joints_at, coin_of}
use Rattle.un_defs.proofs.ListLemmas.{any-map, any-agree, only-map}
use Rattle.un_star.specs.Meet.{joint_of, joints_here, end_of, ends_here, has_chosen_by, passes_by, is_allowed_by, joins_by}
use Rattle.un_star.specs.Links.{coin_by}
use Rattle.un_star.proofs.Apart.{same_any, alike_only}
use Rattle.un_star.proofs.Standers.{joint_rows, joints_here_are, alike_joints, vertex_rows, ends_here_are, same_vertices, joint_node, vertex_node}

-- the only device or junction at a point
pub only_here : (S : Catalog) (F : Features) → IsSound S F → (p : Point) → only (joints_here F p) ≡ option_map joint_of (only (joints_at F p))
only_here S F sound p =
    ap only (joints_here_are F p) ∙ only-map joint_of (joint_rows F p) ∙ ap (option_map joint_of) (alike_only (joint_rows F p) (joints_at F p) (alike_joints S F sound p))

and_assoc : (a b c : Bool) → a ≡ true → ((a && b) && c) ≡ (b && c)
and_assoc true b c e = refl
and_assoc false b c e = cc

pub chosen_same : (j : Row) (v : Vertex) → is_joint j.class ≡ true → has_chosen j v ≡ has_chosen_by (joint_of j) (end_of v)
chosen_same j v class = and_assoc (is_joint j.class) (nat_le 1 (chosen v j)) (nat_le (chosen v j) j.terminals) class

module _ (S : Catalog) (F : Features) (sound : IsSound S F) (rules : F.rules ≡ S.rules) (p : Point) (j : Row) (class : is_joint j.class ≡ true) where
  passes_same : (v w : Vertex) → passes_with F j v w ≡ passes_by S.rules (joint_of j) (end_of v) (end_of w)
  passes_same v w = λ i. (not (same_vertex v w) && chosen_same j w class i) && through (rules i) j.kind (meeting j v) (meeting j w)

  allowed_same : (v : Vertex) → v.at ≡ p → is_allowed S F j v ≡ is_allowed_by S.rules (joint_of j) (ends_here S F p) (end_of v)
  allowed_same v at =
      (λ i. edge (rules i) j.kind (chosen v j) v.line.kind || list_any (passes_with F j v) (vertices_at S F (at i)))
      ∙ ap (λ b. edge S.rules j.kind (chosen v j) v.line.kind || b)
      (sym (same_any (passes_with F j v) (vertex_rows S F p) (vertices_at S F p) (same_vertices S F sound p))
      ∙ any-agree (passes_with F j v) (λ w. passes_by S.rules (joint_of j) (end_of v) (end_of w)) (vertex_rows S F p) (λ w _. passes_same v w)
      ∙ sym (any-map end_of (passes_by S.rules (joint_of j) (end_of v)) (vertex_rows S F p))
      ∙ ap (list_any (passes_by S.rules (joint_of j) (end_of v))) (sym (ends_here_are S F p)))

  -- a vertex that may connect joins as its end does
  pub joins_same : (v : Vertex) → may_connect S v ≡ true → v.at ≡ p → joins_to S F j v ≡ joins_by S.rules (joint_of j) (ends_here S F p) (end_of v)
  joins_same v may at = λ i. (may i && chosen_same j v class i) && allowed_same v at i

  -- and by the same link
  pub coin_same : slice_get j.shape 0 ≡ Some p → (v : Vertex) → may_connect S v ≡ true → v.at ≡ p → is_line v.line.class ≡ true → slice_get v.line.shape v.index ≡ Some p
      → coin_of S F v j ≡ coin_by S.rules p (joint_of j) (ends_here S F p) (end_of v)
  coin_same first v may at line place = λ i.
      if joins_same v may at i
      then link_of (Coin j.id (chosen v j) v.line.id v.index) true true (joint_node j (chosen v j) p class first i) (vertex_node v.line v.index p line place i)
      else []
