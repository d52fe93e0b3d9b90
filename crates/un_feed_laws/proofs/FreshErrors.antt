-- The errors of sound features in range have ports and associations in range.
use Rattle.std.proofs.Common.{◌≡◌, ℕ, ◌≤◌, ◌&&◌, not, List, [], ◌∷◌, ◌++◌, length, map, filter, nat_le, All, Some, inl, inr, sym, subst, arith, slice_get}
use Rattle.un_geom.specs.declared.point.Point.{Point}
use Rattle.un_geom.specs.Places.{same_point}
use Rattle.un_schema.specs.Catalog.{Catalog}
use Rattle.un_tiers.specs.declared.tier.Tier.{Tier}
use Rattle.un_defs.specs.declared.port.Port.{Port}
use Rattle.un_defs.specs.declared.row.Row.{Row}
use Rattle.un_defs.specs.declared.assoc.AssocKind.{AssocKind}
use Rattle.un_defs.specs.declared.assoc.AssocKind.TheVariants.{Connectivity, Containment, Attachment}
use Rattle.un_defs.specs.declared.assoc.Assoc.{Assoc}
use Rattle.un_defs.specs.declared.star.ErrorKind.{ErrorKind}
use Rattle.un_defs.specs.declared.star.ErrorKind.TheVariants.{Stacked, MissingJunction, NoRule, BadTerminal, MidspanTerminal}
use Rattle.un_defs.specs.declared.star.TopoError.{TopoError}
use Rattle.un_defs.specs.Orders.{error_cmp}
use Rattle.un_defs.specs.Features.{Features, row}
use Rattle.un_defs.specs.Ports.{standing_at, nodes_of, node_of, port_numbers_of}
use Rattle.un_defs.specs.Permit.{permitted}
use Rattle.un_defs.specs.Links.{Vertex, vertices, vertices_at, joints_at, is_joint_at, may_connect}
use Rattle.un_defs.specs.Errors.{error_of, each_vertex, lacks_rule, lacks_terminal, is_midspan, joint_errors, least_port_at, error_number, end_error, error_at_row, error_at_end, association_errors, errors}
use Rattle.un_defs.specs.Sound.{IsSound}
use Rattle.un_defs.proofs.Rising.{Among, among_from-rising}
use Rattle.un_defs.proofs.Members.{among_cases, among_from-filter, among_from-map, among_from-flat_map, among_from-filter_map}
use Rattle.un_defs.proofs.LinkCases.{from_if, from_option, below_length, from-node_of}
use Rattle.un_defs.proofs.Unique.{from_all}
use Rattle.un_defs.proofs.Standing.{from_row}
use Rattle.un_defs.proofs.LinkEnds.{from_vertices}
use Rattle.un_feed_json.specs.Sound.{IsError}
use Rattle.un_defs.proofs.KeepsSound.{all_from}
use Rattle.un_feed_laws.specs.Ranges.{IsAssocInRange, AreInRange}
use Rattle.un_feed_laws.proofs.Nodes.{among_got, map_some, row_in_range, id_in_range, number_in_range, vertex_in_range}

-- the number of an error is that of the association's terminal or of the least port
number_of : (sort : AssocKind) (terminal least : ℕ) → terminal ≤ 63 → least ≤ 63 → error_number sort terminal least ≤ 63
number_of Connectivity terminal least few short = few
number_of Containment terminal least few short = short
number_of Attachment terminal least few short = short

module _ (S : Catalog) (T : List Tier) (F : Features) (sound : IsSound S F) (range : AreInRange S T F) where
  -- ---- errors of devices, junctions and vertices

  vertex_error : (kind : ErrorKind) (vs : List Vertex) → ((v : Vertex) → Among vs v → Among (vertices F) v) → (e : TopoError) → Among (each_vertex kind vs) e → IsError e
  vertex_error kind vs within e h =
      let v = among_from-map (λ v. error_of kind v.line.id v.index) vs e h in
      let is = from_vertices F v.0 (within v.0 v.1) in
      let row = row_in_range S T F sound range (v.0).line is.lives in
      let index = vertex_in_range S T F sound range (v.0).line (v.0).index is.lives (below_length (v.0).line.shape (v.0).index (v.0).at is.at) in
      subst IsError v.2 (record { port = record { feature = row.id; within = index }; assoc = omega arith })

  stacked_error : (js : List Row) → ((j : Row) → Among js j → Among F.rows j) → (e : TopoError) → Among (map (λ r. error_of Stacked r.id 1) js) e → IsError e
  stacked_error js within e h =
      let j = among_from-map (λ r. error_of Stacked r.id 1) js e h in
      let row = row_in_range S T F sound range j.0 (within j.0 j.1) in
      subst IsError j.2 (record { port = record { feature = row.id; within = omega arith }; assoc = omega arith })

  joint_error : (js : List Row) (vs : List Vertex) → ((j : Row) → Among js j → Among F.rows j) → ((v : Vertex) → Among vs v → Among (vertices F) v)
      → (e : TopoError) → Among (joint_errors S F js vs) e → IsError e
  joint_error [] vs joints ends e h = vertex_error MissingJunction vs ends e (from_if (nat_le 2 (length vs)) (each_vertex MissingJunction vs) e h).1
  joint_error (j ∷ []) vs joints ends e h =
      let rules = each_vertex NoRule (filter (lacks_rule S F j) vs) in
      let terminals = each_vertex BadTerminal (filter (lacks_terminal j) vs) in
      let inner = each_vertex MidspanTerminal (filter (is_midspan j) vs) in
      elim (among_cases (rules ++ terminals) inner e h) [
        | inl h ↦ elim (among_cases rules terminals e h) [
          | inl h ↦ vertex_error NoRule (filter (lacks_rule S F j) vs) (λ v g. ends v (among_from-filter (lacks_rule S F j) vs v g).0) e h
          | inr h ↦ vertex_error BadTerminal (filter (lacks_terminal j) vs) (λ v g. ends v (among_from-filter (lacks_terminal j) vs v g).0) e h
        ]
        | inr h ↦ vertex_error MidspanTerminal (filter (is_midspan j) vs) (λ v g. ends v (among_from-filter (is_midspan j) vs v g).0) e h
      ]
  joint_error (j ∷ k ∷ more) vs joints ends e h = stacked_error (j ∷ k ∷ more) joints e h

  -- ---- errors of associations

  -- the least port at a point is one of the row's
  least_in_range : (p : Point) (r : Row) (k : ℕ) → Among F.rows r → least_port_at p r ≡ Some k → k ≤ 63
  least_in_range p r k h e =
      let n = map_some (λ n. n.port.number) (slice_get (standing_at p (nodes_of r)) 0) k e in
      let at = among_from-filter (λ n. same_point n.at p) (nodes_of r) n.0 (among_got (standing_at p (nodes_of r)) 0 n.0 n.1) in
      let number = among_from-filter_map (node_of r) (port_numbers_of r) n.0 at.0 in
      let is = from-node_of r number.0 n.0 number.2 in
      subst (λ m. m ≤ 63) n.2 (subst (λ m. m ≤ 63) (sym is.number) (number_in_range S T F sound range r number.0 h number.1))

  end_in_range : (p : Point) (a : Assoc) (end : Port) → IsAssocInRange a → end.number ≤ 63 → (e : TopoError) → Among (error_at_end F p a end) e → IsError e
  end_in_range p a end is few e h =
      let r = from_option (error_at_row p a end) (row F end.feature) e h in
      let least = from_option (end_error a end) (least_port_at p r.0) e r.2 in
      let lives = (from_row F end.feature r.0 r.1).0 in
      let number = number_of a.sort end.number least.0 few (least_in_range p r.0 least.0 lives least.1) in
      elim least.2 [
        | inl same ↦ subst IsError same (record {
          port = record { feature = id_in_range S T F sound range end.feature r.0 r.1; within = number };
          assoc = is.id.few;
        })
        | inr none ↦ absurd none
      ]

  association_error : (p : Point) (e : TopoError) → Among (association_errors F p) e → IsError e
  association_error p e h =
      let a = among_from-flat_map (λ a. error_at_end F p a a.from ++ error_at_end F p a a.to) (filter (λ a. not (permitted F a)) F.associations) e h in
      let lives = (among_from-filter (λ a. not (permitted F a)) F.associations a.0 a.1).0 in
      let is = from_all IsAssocInRange F.associations range.associations a.0 lives in
      elim (among_cases (error_at_end F p a.0 (a.0).from) (error_at_end F p a.0 (a.0).to) e a.2) [
        | inl h ↦ end_in_range p a.0 (a.0).from is is.from e h
        | inr h ↦ end_in_range p a.0 (a.0).to is is.to e h
      ]

  -- ---- all

  -- each error at a point is one that a page can show
  pub errors_in_range : (p : Point) → All IsError (errors S F p)
  errors_in_range p = all_from IsError (errors S F p) (λ e h.
      let joints = joint_errors S F (joints_at F p) (vertices_at S F p) in
      elim (among_cases joints (association_errors F p) e (among_from-rising error_cmp (joints ++ association_errors F p) e h)) [
        | inl h ↦ joint_error (joints_at F p) (vertices_at S F p)
            (λ j g. (among_from-filter (is_joint_at p) F.rows j g).0)
            (λ v g. (among_from-filter (λ v. same_point v.at p && may_connect S v) (vertices F) v g).0) e h
        | inr h ↦ association_error p e h
      ])
