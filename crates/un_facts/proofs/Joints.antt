-- A device or junction of a kind stands at a point where one of its ports does.
use Rattle.std.proofs.Common.{◌≡◌, ℕ, ◌≤◌, Bool, true, false, ◌&&◌, ◌==◌, refl, sym, ap, ◌∙◌, subst, Some, slice_get, nat_le, arith, rules}
use Rattle.std.specs.List.{list_any}
use Rattle.std.specs.Option.{option_map, option_map_or}
use Rattle.un_geom.specs.declared.point.Point.{Point}
use Rattle.un_geom.specs.Places.{same_point}
use Rattle.un_schema.specs.declared.kind.Class.{Class}
use Rattle.un_schema.specs.declared.kind.Class.TheVariants.{Device, Junction, Line, Assembly, Structure}
use Rattle.un_schema.specs.Catalog.{Catalog}
use Rattle.un_defs.specs.declared.port.Port.{Port}
use Rattle.un_defs.specs.declared.port.Node.{Node}
use Rattle.un_defs.specs.declared.row.Row.{Row}
use Rattle.un_defs.specs.Orders.{port_cmp}
use Rattle.un_defs.specs.Features.{Features, row, row as row_with, is_joint, has_terminal}
use Rattle.un_defs.specs.Ports.{node_of, nodes, ports, standing_at, shape_place}
use Rattle.un_defs.specs.Sound.{IsSound, FitsKind}
use Rattle.un_defs.specs.Links.{joints_at, is_joint_at}
use Rattle.un_defs.specs.Dirtied.{has_joint_of}
use Rattle.un_defs.proofs.Rising.{Among, among_from-rising}
use Rattle.un_defs.proofs.Members.{among_from-map, among_from-filter, among-filter, list_any_from_among, among_from_list_any}
use Rattle.un_defs.proofs.LinkCases.{both_true, true_both, from-node_of}
use Rattle.un_defs.proofs.Unique.{point_same, point_itself, from_all}
use Rattle.un_defs.proofs.Standing.{row_found, from_nodes, node_stands, port_stands}
use Rattle.un_defs.proofs.LinkEnds.{terminal_number}
use Rattle.un_defs.proofs.Near.{at_first_point}
use Rattle.un_facts.specs.Ruling.{is_joint_of}

-- one test holds where the other does
same_test : (a b : Bool) → (a ≡ true → b ≡ true) → (b ≡ true → a ≡ true) → a ≡ b
same_test true b to from = sym (to refl)
same_test false true to from = from refl
same_test false false to from = refl

first_place : (c : Class) (k : ℕ) → is_joint c ≡ true → shape_place c k ≡ 0
first_place Device k e = refl
first_place Junction k e = refl
first_place Line k e = cc
first_place Assembly k e = cc
first_place Structure k e = cc

one_less : (n : ℕ) → 1 ≤ n → nat_le 1 n ≡ true
one_less n h = search (rules, arith)

-- the row of a port that stands at the point
record IsPortAt (F : Features) (p : Point) (q : Port) : Type 0 where
  row : Row
  lives : Among F.rows row
  found : row_with F q.feature ≡ Some row
  node : node_of row q.number ≡ Some (record { port = q; at = p })

module _ (S : Catalog) (F : Features) (sound : IsSound S F) (kind : ℕ) (p : Point) where
  from_port : (q : Port) → Among (ports F p) q → IsPortAt F p q
  from_port q h =
      let n = among_from-map (λ n. n.port) (standing_at p (nodes F)) q (among_from-rising port_cmp _ q h) in
      let parts = among_from-filter (λ n. same_point n.at p) (nodes F) n.0 n.1 in
      let standing = from_nodes F n.0 parts.0 in
      let at : (n.0).at ≡ p = point_same (n.0).at p parts.1 in
      let node : n.0 ≡ record { port = q; at = p } = λ i. record { port = n.2 i; at = at i } in
      let feature : q.feature ≡ standing.row.id = ap (λ q. q.feature) (sym n.2) ∙ (from-node_of standing.row (n.0).port.number n.0 standing.is).feature in
      record {
        row = standing.row;
        lives = standing.lives;
        found = ap (row F) feature ∙ row_found S F sound standing.row standing.lives;
        node = subst (λ m. node_of standing.row m.port.number ≡ Some m) node standing.is;
      }

  to_joint : list_any (λ q. is_joint_of F kind q.feature) (ports F p) ≡ true → has_joint_of F kind p ≡ true
  to_joint any =
      let q = among_from_list_any (λ q. is_joint_of F kind q.feature) (ports F p) any in
      let port = from_port q.0 q.1 in
      let r = port.row in
      let is = both_true (is_joint r.class) (r.kind == kind) (ap (λ o. option_map_or (λ r. is_joint r.class && (r.kind == kind)) o false) (sym port.found) ∙ q.2) in
      let place : slice_get r.shape 0 ≡ Some p =
      sym (ap (slice_get r.shape) (first_place r.class (q.0).number is.0)) ∙ (from-node_of r (q.0).number (record { port = q.0; at = p }) port.node).at in
      let at : is_joint_at p r ≡ true = true_both (is_joint r.class) _ is.0 (ap (λ o. option_map_or (same_point p) o false) place ∙ point_itself p) in
      list_any_from_among (λ j. j.kind == kind) (joints_at F p) r (among-filter (is_joint_at p) F.rows r port.lives at) is.1

  to_port : has_joint_of F kind p ≡ true → list_any (λ q. is_joint_of F kind q.feature) (ports F p) ≡ true
  to_port any =
      let j = among_from_list_any (λ j. j.kind == kind) (joints_at F p) any in
      let r = j.0 in
      let at = among_from-filter (is_joint_at p) F.rows r j.1 in
      let tests = both_true (is_joint r.class) _ at.1 in
      let fits = from_all (FitsKind S) F.rows sound.kinds r at.0 in
      let has : has_terminal r 1 ≡ true = true_both (is_joint r.class && nat_le 1 1) (nat_le 1 r.terminals) (true_both (is_joint r.class) (nat_le 1 1) tests.0 refl) (one_less r.terminals (fits.terminal tests.0)) in
      let q : Port = record { feature = r.id; number = 1 } in
      let n : Node = record { port = q; at = p } in
      let node : node_of r 1 ≡ Some n =
      ap (option_map (λ p. record { port = q; at = p })) (ap (slice_get r.shape) (first_place r.class 1 tests.0) ∙ at_first_point p r tests.1) in
      list_any_from_among (λ q. is_joint_of F kind q.feature) (ports F p) q (port_stands F n (node_stands F r 1 n at.0 (terminal_number S r 1 fits has) node))
      (ap (λ o. option_map_or (λ r. is_joint r.class && (r.kind == kind)) o false) (row_found S F sound r at.0) ∙ true_both (is_joint r.class) (r.kind == kind) tests.0 j.2)

  pub joints_by_ports : list_any (λ q. is_joint_of F kind q.feature) (ports F p) ≡ has_joint_of F kind p
  joints_by_ports = same_test _ _ to_joint to_port
