-- What meets at a point by its ports is what stands there.
use Rattle.std.proofs.Common.{◌≡◌, ◌≢◌, ℕ, zero, suc, ◌+◌, ◌≤◌, Bool, true, false, ◌&&◌, ◌==◌, if◌then◌else◌, inl, inr, List, [], ◌∷◌, map, filter, filter_map, refl, sym, ap, ◌∙◌, subst, Option, Some, None, option_and_then, slice_get, nat_le, eqb-true, arith, rules, true≢false}
use Rattle.std.specs.List.{enumerate_from}
use Rattle.std.specs.Option.{option_map, option_map_or}
use Rattle.un_geom.specs.declared.point.Point.{Point}
use Rattle.un_geom.specs.Places.{same_point}
use Rattle.un_schema.specs.declared.kind.Class.{Class}
use Rattle.un_schema.specs.declared.kind.Class.TheVariants.{Device, Junction, Line, Assembly, Structure}
use Rattle.un_schema.specs.Catalog.{Catalog}
use Rattle.un_defs.specs.declared.port.Port.{Port}
use Rattle.un_defs.specs.declared.port.Node.{Node}
use Rattle.un_defs.specs.declared.row.Row.{Row}
use Rattle.un_defs.specs.Orders.{port_cmp}
use Rattle.un_defs.specs.Features.{Features, row, row as row_with, is_joint, is_line, has_terminal}
use Rattle.un_defs.specs.Ports.{node_of, nodes, ports, standing_at, port_numbers_of, shape_place}
use Rattle.un_defs.specs.Sound.{IsSound, FitsKind}
use Rattle.un_defs.specs.Links.{Vertex, vertices, vertices_of, joints_at, is_joint_at, vertices_at, may_connect}
use Rattle.un_defs.proofs.Rising.{Among, among_from-rising, sorted-rising}
use Rattle.un_defs.proofs.Members.{among_from-map, among-map, among_from-filter, among-filter, among-flat_map, among_from-filter_map, among-filter_map}
use Rattle.un_defs.proofs.OrderLaws.{port_total}
use Rattle.un_defs.proofs.LinkCases.{some_same, both_true, true_both, from-node_of, vertex_place, line_class, below_length}
use Rattle.un_defs.proofs.Unique.{point_same, point_itself, from_all}
use Rattle.un_defs.proofs.Standing.{from_row, row_found, from_nodes, node_stands, port_stands}
use Rattle.un_defs.proofs.LinkEnds.{from_vertices, line_number, terminal_number}
use Rattle.un_defs.proofs.Near.{at_first_point}
use Rattle.un_star.specs.Meet.{joint_of, joints_here, end_of, end_here, ends_here, vertex_at}
use Rattle.un_star.proofs.Apart.{Apart, Same, Alike, alike, apart-filter, apart_by, apart_sorted, apart-filter_map, apart-flat_map, filter_map-map}

-- ---- a port at the point

-- the port is one of a row, and stands at the point
pub record IsPortAt (F : Features) (p : Point) (q : Port) : Type 0 where
  pub row : Row
  pub lives : Among F.rows row
  pub found : row_with F q.feature ≡ Some row
  pub number : Among (port_numbers_of row) q.number
  pub node : node_of row q.number ≡ Some (record { port = q; at = p })

pub from_port : (S : Catalog) (F : Features) → IsSound S F → (p : Point) (q : Port) → Among (ports F p) q → IsPortAt F p q
from_port S F sound p q h =
    let n = among_from-map (λ n. n.port) (standing_at p (nodes F)) q (among_from-rising port_cmp _ q h) in
    let parts = among_from-filter (λ n. same_point n.at p) (nodes F) n.0 n.1 in
    let standing = from_nodes F n.0 parts.0 in
    let at : (n.0).at ≡ p = point_same (n.0).at p parts.1 in
    let node : n.0 ≡ record { port = q; at = p } = λ i. record { port = n.2 i; at = at i } in
    let feature : q.feature ≡ standing.row.id = ap (λ q. q.feature) (sym n.2) ∙ (from-node_of standing.row (n.0).port.number n.0 standing.is).feature in
    record {
      row = standing.row;
      lives = standing.lives;
      found = ap (row F) feature ∙ row_found S F sound standing.row standing.lives;
      number = subst (λ q. Among (port_numbers_of standing.row) q.number) n.2 standing.number;
      node = subst (λ m. node_of standing.row m.port.number ≡ Some m) node standing.is;
    }

pub to_port : (S : Catalog) (F : Features) → IsSound S F → (p : Point) (r : Row) (k : ℕ) → Among F.rows r → Among (port_numbers_of r) k
    → node_of r k ≡ Some (record { port = record { feature = r.id; number = k }; at = p }) → Among (ports F p) (record { feature = r.id; number = k })
to_port S F sound p r k lives number is = port_stands F (record { port = record { feature = r.id; number = k }; at = p }) (node_stands F r k _ lives number is)

pub ports_apart : (F : Features) (p : Point) → Apart (ports F p)
ports_apart F p = apart_sorted port_total (ports F p) (sorted-rising port_total (map (λ n. n.port) (standing_at p (nodes F))))

-- ---- devices and junctions

joint_row : Features → Port → Option Row
joint_row F q = option_and_then (λ r. if is_joint r.class && (q.number == 1) then Some r else None) (row F q.feature)

pub joint_rows : Features → Point → List Row
joint_rows F p = filter_map (joint_row F) (ports F p)

pub joints_here_are : (F : Features) (p : Point) → joints_here F p ≡ map joint_of (joint_rows F p)
unfolding joint_row joint_rows
joints_here_are F p = ap (λ f. filter_map f (ports F p)) (λ i q. each q (row F q.feature) i) ∙ filter_map-map joint_of (joint_row F) (ports F p)
  where
    when : (b : Bool) (r : Row) → (if b then Some (joint_of r) else None) ≡ option_map joint_of (if b then Some r else None)
    when true r = refl
    when false r = refl

    each : (q : Port) (o : Option Row) → option_and_then (λ r. if is_joint r.class && (q.number == 1) then Some (joint_of r) else None) o
        ≡ option_map joint_of (option_and_then (λ r. if is_joint r.class && (q.number == 1) then Some r else None) o)
    each q None = refl
    each q (Some r) = when (is_joint r.class && (q.number == 1)) r

some_if : {A : Type 0} (b : Bool) (x y : A) → (if b then Some x else None) ≡ Some y → (b ≡ true) × (x ≡ y)
some_if true x y e = (refl, some_same x y e)
some_if false x y e = cc

if_some : {A : Type 0} (b : Bool) (x : A) → b ≡ true → (if b then Some x else None) ≡ Some x
if_some true x e = refl
if_some false x e = absurd (true≢false (sym e))

record IsJointRow (F : Features) (q : Port) (r : Row) : Type 0 where
  found : row_with F q.feature ≡ Some r
  class : is_joint r.class ≡ true
  first : q.number ≡ 1

from_joint_row : (F : Features) (q : Port) (r : Row) → joint_row F q ≡ Some r → IsJointRow F q r
unfolding joint_row
from_joint_row F q r e = go (row F q.feature) refl e
  where
    go : (o : Option Row) → row F q.feature ≡ o → option_and_then (λ r. if is_joint r.class && (q.number == 1) then Some r else None) o ≡ Some r → IsJointRow F q r
    go None f h = cc
    go (Some s) f h =
        let parts = some_if (is_joint s.class && (q.number == 1)) s r h in
        let tests = both_true (is_joint s.class) (q.number == 1) parts.0 in
        record { found = f ∙ ap Some parts.1; class = subst (λ s. is_joint s.class ≡ true) parts.1 tests.0; first = eqb-true q.number 1 tests.1 }

first_place : (c : Class) (k : ℕ) → is_joint c ≡ true → shape_place c k ≡ 0
first_place Device k e = refl
first_place Junction k e = refl
first_place Line k e = cc
first_place Assembly k e = cc
first_place Structure k e = cc

-- a terminal of a device or junction stands at its first point
pub joint_node : (r : Row) (k : ℕ) (p : Point) → is_joint r.class ≡ true → slice_get r.shape 0 ≡ Some p → node_of r k ≡ Some (record { port = record { feature = r.id; number = k }; at = p })
joint_node r k p c e = ap (option_map (λ q. record { port = record { feature = r.id; number = k }; at = q })) (ap (slice_get r.shape) (first_place r.class k c) ∙ e)

pub first_point : (p : Point) (r : Row) → is_joint_at p r ≡ true → slice_get r.shape 0 ≡ Some p
first_point p r h = at_first_point p r (both_true (is_joint r.class) _ h).1

joint_stands : (r : Row) (k : ℕ) (n : Node) → is_joint r.class ≡ true → node_of r k ≡ Some n → slice_get r.shape 0 ≡ Some n.at
joint_stands r k n c e = sym (ap (slice_get r.shape) (first_place r.class k c)) ∙ (from-node_of r k n e).at

pub same_joints : (S : Catalog) (F : Features) → IsSound S F → (p : Point) → Same (joint_rows F p) (joints_at F p)
unfolding joint_row joint_rows
same_joints S F sound p = record {
  to = λ r h.
      let q = among_from-filter_map (joint_row F) (ports F p) r h in
      let is = from_joint_row F q.0 r q.2 in
      let port = from_port S F sound p q.0 q.1 in
      let same : port.row ≡ r = some_same _ _ (sym port.found ∙ is.found) in
      let place : slice_get r.shape 0 ≡ Some p = joint_stands r (q.0).number (record { port = q.0; at = p }) is.class (subst (λ s. node_of s (q.0).number ≡ Some (record { port = q.0; at = p })) same port.node) in
      among-filter (is_joint_at p) F.rows r (subst (Among F.rows) same port.lives)
      (true_both (is_joint r.class) _ is.class (ap (λ o. option_map_or (same_point p) o false) place ∙ point_itself p));
  from = λ r h.
      let at = among_from-filter (is_joint_at p) F.rows r h in
      let class : is_joint r.class ≡ true = (both_true (is_joint r.class) _ at.1).0 in
      let fits = from_all (FitsKind S) F.rows sound.kinds r at.0 in
      let has : has_terminal r 1 ≡ true = true_both (is_joint r.class && nat_le 1 1) (nat_le 1 r.terminals) (true_both (is_joint r.class) (nat_le 1 1) class refl) (one_less r.terminals (fits.terminal class)) in
      let q : Port = record { feature = r.id; number = 1 } in
      among-filter_map (joint_row F) (ports F p) q r
      (to_port S F sound p r 1 at.0 (terminal_number S r 1 fits has) (joint_node r 1 p class (first_point p r at.1)))
      (ap (option_and_then (λ r. if is_joint r.class && (1 == 1) then Some r else None)) (row_found S F sound r at.0) ∙ if_some (is_joint r.class && (1 == 1)) r (true_both (is_joint r.class) (1 == 1) class refl));
}
  where
    one_less : (n : ℕ) → 1 ≤ n → nat_le 1 n ≡ true
    one_less n h = search (rules, arith)

pub alike_joints : (S : Catalog) (F : Features) → IsSound S F → (p : Point) → Alike (joint_rows F p) (joints_at F p)
unfolding joint_row joint_rows
alike_joints S F sound p =
    alike (joint_rows F p) (joints_at F p)
    (apart-filter_map (joint_row F) (ports F p) (λ q s r e f. one_port q s r (from_joint_row F q r e) (from_joint_row F s r f)) (ports_apart F p))
    (apart-filter (is_joint_at p) F.rows (apart_by (λ r. r.id) F.rows sound.rows))
    (same_joints S F sound p)
  where
    one_port : (q s : Port) (r : Row) → IsJointRow F q r → IsJointRow F s r → q ≡ s
    one_port q s r a b =
        let features : q.feature ≡ s.feature = sym (from_row F q.feature r a.found).1 ∙ (from_row F s.feature r b.found).1 in
        let numbers : q.number ≡ s.number = a.first ∙ sym b.first in
        λ i. record { feature = features i; number = numbers i }

-- ---- vertices

pub vertex_row : Catalog → Features → Point → Port → Option Vertex
vertex_row S F p q =
    option_and_then (λ r. if is_line r.class && may_connect S (vertex_at p r q.number) then Some (vertex_at p r q.number) else None) (row F q.feature)

pub vertex_rows : Catalog → Features → Point → List Vertex
vertex_rows S F p = filter_map (vertex_row S F p) (ports F p)

ends_when : (b : Bool) (v : Vertex) → (if b then Some (end_of v) else None) ≡ option_map end_of (if b then Some v else None)
ends_when true v = refl
ends_when false v = refl

-- the end that a port is, by its vertex
pub end_here_is : (S : Catalog) (F : Features) (p : Point) (q : Port) → end_here S F p q ≡ option_map end_of (vertex_row S F p q)
unfolding vertex_row
end_here_is S F p q = go (row F q.feature)
  where
    go : (o : Option Row) → option_and_then (λ r. if is_line r.class && may_connect S (vertex_at p r q.number) then Some (end_of (vertex_at p r q.number)) else None) o
        ≡ option_map end_of (option_and_then (λ r. if is_line r.class && may_connect S (vertex_at p r q.number) then Some (vertex_at p r q.number) else None) o)
    go None = refl
    go (Some r) = ends_when (is_line r.class && may_connect S (vertex_at p r q.number)) (vertex_at p r q.number)

pub ends_here_are : (S : Catalog) (F : Features) (p : Point) → ends_here S F p ≡ map end_of (vertex_rows S F p)
unfolding vertex_rows
ends_here_are S F p = ap (λ f. filter_map f (ports F p)) (λ i q. end_here_is S F p q i) ∙ filter_map-map end_of (vertex_row S F p) (ports F p)

pub record IsVertexRow (S : Catalog) (F : Features) (p : Point) (q : Port) (v : Vertex) : Type 0 where
  pub found : row_with F q.feature ≡ Some v.line
  pub class : is_line v.line.class ≡ true
  pub may : may_connect S v ≡ true
  pub index : v.index ≡ q.number
  pub at : v.at ≡ p

pub from_vertex_row : (S : Catalog) (F : Features) (p : Point) (q : Port) (v : Vertex) → vertex_row S F p q ≡ Some v → IsVertexRow S F p q v
unfolding vertex_row
from_vertex_row S F p q v e = go (row F q.feature) refl e
  where
    go : (o : Option Row) → row F q.feature ≡ o → option_and_then (λ r. if is_line r.class && may_connect S (vertex_at p r q.number) then Some (vertex_at p r q.number) else None) o ≡ Some v → IsVertexRow S F p q v
    go None f h = cc
    go (Some r) f h =
        let parts = some_if (is_line r.class && may_connect S (vertex_at p r q.number)) (vertex_at p r q.number) v h in
        let tests = both_true (is_line r.class) (may_connect S (vertex_at p r q.number)) parts.0 in
        record {
          found = f ∙ ap (λ v. Some v.line) parts.1;
          class = subst (λ v. is_line v.line.class ≡ true) parts.1 tests.0;
          may = subst (λ v. may_connect S v ≡ true) parts.1 tests.1;
          index = ap (λ v. v.index) (sym parts.1);
          at = ap (λ v. v.at) (sym parts.1);
        }

pub to_vertex_row : (S : Catalog) (F : Features) (p : Point) (q : Port) (v : Vertex) → IsVertexRow S F p q v → vertex_row S F p q ≡ Some v
unfolding vertex_row
to_vertex_row S F p q v is =
    let same : vertex_at p v.line q.number ≡ v = λ i. record { line = v.line; index = sym is.index i; at = sym is.at i } in
    ap (option_and_then (λ r. if is_line r.class && may_connect S (vertex_at p r q.number) then Some (vertex_at p r q.number) else None)) is.found
    ∙ if_some (is_line v.line.class && may_connect S (vertex_at p v.line q.number)) (vertex_at p v.line q.number) (true_both (is_line v.line.class) _ is.class (ap (may_connect S) same ∙ is.may))
    ∙ ap Some same

enumerated_at : (xs : List Point) (n k m : ℕ) (p : Point) → slice_get xs k ≡ Some p → m ≡ n + k → Among (enumerate_from n xs) (m, p)
enumerated_at [] n k m p e f = cc
enumerated_at (x ∷ xs) n zero m p e f = inl (λ i. (number i, some_same x p e i))
  where
    number : n ≡ m
    number = omega arith
enumerated_at (x ∷ xs) n (suc k) m p e f = inr (enumerated_at xs (n + 1) k m p e (omega arith))

-- a vertex of a live line
pub to_vertices : (F : Features) (v : Vertex) → Among F.rows v.line → is_line v.line.class ≡ true → slice_get v.line.shape v.index ≡ Some v.at → Among (vertices F) v
to_vertices F v lives class at =
    among-flat_map vertices_of (filter (λ r. is_line r.class) F.rows) v.line v (among-filter (λ r. is_line r.class) F.rows v.line lives class)
    (among-map (λ entry. record { line = v.line; index = entry.0; at = entry.1 }) (enumerate_from 0 v.line.shape) (v.index, v.at) (enumerated_at v.line.shape 0 v.index v.index v.at at (omega arith)))

-- a vertex of a line stands at its point
pub vertex_node : (r : Row) (i : ℕ) (p : Point) → is_line r.class ≡ true → slice_get r.shape i ≡ Some p → node_of r i ≡ Some (record { port = record { feature = r.id; number = i }; at = p })
vertex_node r i p c e = ap (option_map (λ q. record { port = record { feature = r.id; number = i }; at = q })) (ap (λ c. slice_get r.shape (shape_place c i)) (line_class r.class c) ∙ e)

pub same_vertices : (S : Catalog) (F : Features) → IsSound S F → (p : Point) → Same (vertex_rows S F p) (vertices_at S F p)
unfolding vertex_rows
same_vertices S F sound p = record {
  to = λ v h.
      let q = among_from-filter_map (vertex_row S F p) (ports F p) v h in
      let is = from_vertex_row S F p q.0 v q.2 in
      let port = from_port S F sound p q.0 q.1 in
      let same : port.row ≡ v.line = some_same _ _ (sym port.found ∙ is.found) in
      let node : node_of v.line v.index ≡ Some (record { port = q.0; at = p }) = ap (node_of v.line) is.index ∙ subst (λ s. node_of s (q.0).number ≡ Some (record { port = q.0; at = p })) same port.node in
      let place : slice_get v.line.shape v.index ≡ Some v.at = vertex_place v.line v.index (record { port = q.0; at = p }) is.class node ∙ ap Some (sym is.at) in
      among-filter (λ v. same_point v.at p && may_connect S v) (vertices F) v (to_vertices F v (subst (Among F.rows) same port.lives) is.class place)
      (true_both (same_point v.at p) (may_connect S v) (ap (λ q. same_point q p) is.at ∙ point_itself p) is.may);
  from = λ v h.
      let parts = among_from-filter (λ v. same_point v.at p && may_connect S v) (vertices F) v h in
      let tests = both_true (same_point v.at p) (may_connect S v) parts.1 in
      let at : v.at ≡ p = point_same v.at p tests.0 in
      let is = from_vertices F v parts.0 in
      let place : slice_get v.line.shape v.index ≡ Some p = is.at ∙ ap Some at in
      let q : Port = record { feature = v.line.id; number = v.index } in
      among-filter_map (vertex_row S F p) (ports F p) q v
      (to_port S F sound p v.line v.index is.lives (line_number v.line v.index is.class (below_length v.line.shape v.index p place)) (vertex_node v.line v.index p is.class place))
      (to_vertex_row S F p q v (record { found = row_found S F sound v.line is.lives; class = is.class; may = tests.1; index = refl; at = at }));
}

mapped_apart : (line : Row) (n : ℕ) (xs : List Point) → Apart {A = Vertex} (map (λ entry. record { line = line; index = entry.0; at = entry.1 }) (enumerate_from n xs))
mapped_apart line n [] = tt
mapped_apart line n (x ∷ xs) =
    let first : (v : Vertex) → Among (map (λ entry. record { line = line; index = entry.0; at = entry.1 }) (enumerate_from (n + 1) xs)) v → record { line = line; index = n; at = x } ≢ v =
    λ v h e. let low = later (n + 1) xs v h in let same : n ≡ v.index = ap (λ v. v.index) e in omega arith in
    (first, mapped_apart line (n + 1) xs)
  where
    later : (m : ℕ) (xs : List Point) (v : Vertex) → Among (map (λ entry. record { line = line; index = entry.0; at = entry.1 }) (enumerate_from m xs)) v → m ≤ v.index
    later m [] v h = absurd h
    later m (x ∷ xs) v h = elim h [
      | inl e ↦ let same : m ≡ v.index = ap (λ v. v.index) e in omega arith
      | inr g ↦ let more = later (m + 1) xs v g in omega arith
    ]

line_of : (r : Row) (v : Vertex) → Among (vertices_of r) v → v.line ≡ r
line_of r v h = let entry = among_from-map (λ entry. record { line = r; index = entry.0; at = entry.1 }) (enumerate_from 0 r.shape) v h in ap (λ v. v.line) (sym entry.2)

pub alike_vertices : (S : Catalog) (F : Features) → IsSound S F → (p : Point) → Alike (vertex_rows S F p) (vertices_at S F p)
unfolding vertex_rows
alike_vertices S F sound p =
    alike (vertex_rows S F p) (vertices_at S F p)
    (apart-filter_map (vertex_row S F p) (ports F p) (λ q s v e f. one_port q s v (from_vertex_row S F p q v e) (from_vertex_row S F p s v f)) (ports_apart F p))
    (apart-filter (λ v. same_point v.at p && may_connect S v) (vertices F)
    (apart-flat_map vertices_of (filter (λ r. is_line r.class) F.rows) (λ r s v g h. sym (line_of r v g) ∙ line_of s v h) (λ r. mapped_apart r 0 r.shape)
    (apart-filter (λ r. is_line r.class) F.rows (apart_by (λ r. r.id) F.rows sound.rows))))
    (same_vertices S F sound p)
  where
    one_port : (q s : Port) (v : Vertex) → IsVertexRow S F p q v → IsVertexRow S F p s v → q ≡ s
    one_port q s v a b =
        let features : q.feature ≡ s.feature = sym (from_row F q.feature v.line a.found).1 ∙ (from_row F s.feature v.line b.found).1 in
        let numbers : q.number ≡ s.number = sym a.index ∙ b.index in
        λ i. record { feature = features i; number = numbers i }
