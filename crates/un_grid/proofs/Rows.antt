-- The ports that stand at a point by the rows that they belong to.
use Rattle.std.proofs.Common.{◌≡◌, ◌≢◌, ◌==◌, Bool, true, false, not, List, flat_map, AllPairs, refl, sym, ap, subst, ◌∙◌, true≢false, eqb-true, eq-eqb}
use Rattle.std.specs.List.{list_any}
use Rattle.un_geom.specs.declared.point.Point.{Point}
use Rattle.un_geom.specs.Places.{same_point}
use Rattle.un_defs.specs.declared.port.Port.{Port}
use Rattle.un_defs.specs.declared.port.Node.{Node}
use Rattle.un_defs.specs.declared.row.Row.{Row}
use Rattle.un_defs.specs.Orders.{port_cmp, same_port}
use Rattle.un_defs.specs.Features.{Features}
use Rattle.un_defs.specs.Ports.{node_of, nodes_of, nodes, ports, port_numbers_of, standing_at}
use Rattle.un_defs.proofs.Rising.{Among, TiesAreOne, among_from-rising, among-rising}
use Rattle.un_defs.proofs.Members.{among_from-filter, among-filter, among_from-map, among-map, among_from-flat_map, among-flat_map, among_from-filter_map, list_any_from_among, among_from_list_any}
use Rattle.un_defs.proofs.OrderLaws.{port_ties}
use Rattle.un_defs.proofs.LinkCases.{from-node_of}
use Rattle.un_defs.proofs.Near.{false_unless}
use Rattle.un_defs.proofs.Unique.{unique_by, port_same, port_itself}
use Rattle.un_grid.specs.Grids.{standing, without_ports}

pub ties : (xs : List Port) → TiesAreOne port_cmp xs
ties xs = λ q r _ _ e. port_ties q r e

-- the port stands at the point, and this is a row of which it is
pub record Owned (rows : List Row) (p : Point) (q : Port) : Type 0 where
  pub node : Node
  pub row : Row
  pub lives : Among rows row
  pub own : Among (nodes_of row) node
  pub here : same_point node.at p ≡ true
  pub is : node.port ≡ q

pub owned : (rows : List Row) (p : Point) (q : Port) → Among (standing (flat_map nodes_of rows) p) q → Owned rows p q
owned rows p q h =
    let n = among_from-map (λ n. n.port) (standing_at p (flat_map nodes_of rows)) q h in
    let at = among_from-filter (λ n. same_point n.at p) (flat_map nodes_of rows) n.0 n.1 in
    let r = among_from-flat_map nodes_of rows n.0 at.0 in
    record { node = n.0; row = r.0; lives = r.1; own = r.2; here = at.1; is = n.2 }

pub stands_there : (rows : List Row) (p : Point) (q : Port) → Owned rows p q → Among (standing (flat_map nodes_of rows) p) q
stands_there rows p q o =
    subst (Among (standing (flat_map nodes_of rows) p)) o.is
    (among-map (λ n. n.port) (standing_at p (flat_map nodes_of rows)) o.node
    (among-filter (λ n. same_point n.at p) (flat_map nodes_of rows) o.node (among-flat_map nodes_of rows o.row o.node o.lives o.own) o.here))

-- the same of one row
pub stands_of : (r : Row) (p : Point) (q : Port) (n : Node) → Among (nodes_of r) n → same_point n.at p ≡ true → n.port ≡ q → Among (standing (nodes_of r) p) q
stands_of r p q n own here is =
    subst (Among (standing (nodes_of r) p)) is (among-map (λ n. n.port) (standing_at p (nodes_of r)) n (among-filter (λ n. same_point n.at p) (nodes_of r) n own here))

feature_of : (r : Row) (n : Node) → Among (nodes_of r) n → n.port.feature ≡ r.id
feature_of r n h = let k = among_from-filter_map (node_of r) (port_numbers_of r) n h in (from-node_of r k.0 n k.2).feature

feature_at : (r : Row) (p : Point) (q : Port) → Among (standing (nodes_of r) p) q → q.feature ≡ r.id
feature_at r p q h =
    let n = among_from-map (λ n. n.port) (standing_at p (nodes_of r)) q h in
    let at = among_from-filter (λ n. same_point n.at p) (nodes_of r) n.0 n.1 in
    subst (λ s. s.feature ≡ r.id) n.2 (feature_of r n.0 at.0)

pub not_true : {b : Bool} → not b ≡ true → b ≡ false
not_true {b} e = elim b as (λ b. not b ≡ true → b ≡ false) [ true ↦ λ e. sym e | false ↦ λ _. refl ] e

-- the ports that stay where one row's ports go are those of other rows
module _ (F : Features) (r : Row) (lives : Among F.rows r) (apart : AllPairs (λ r s. r.id ≢ s.id) F.rows) (p : Point) (q : Port) where
  pub from_rest : Among (without_ports (ports F p) (standing (nodes_of r) p)) q → (o : Owned F.rows p q) × ((o.row.id == r.id) ≡ false)
  from_rest h =
      let k = among_from-filter (λ q. not (list_any (same_port q) (standing (nodes_of r) p))) (ports F p) q h in
      let o = owned F.rows p q (among_from-rising port_cmp (standing (nodes F) p) q k.0) in (
        o,
        false_unless (o.row.id == r.id) (λ e.
            let same : o.row ≡ r = unique_by (λ s. s.id) F.rows apart o.row r o.lives lives (eqb-true o.row.id r.id e) in
            let gone : Among (standing (nodes_of r) p) q = stands_of r p q o.node (subst (λ s. Among (nodes_of s) o.node) same o.own) o.here o.is in
            true≢false (sym (list_any_from_among (same_port q) (standing (nodes_of r) p) q gone (port_itself q)) ∙ not_true k.1)),
      )

  pub to_rest : (o : Owned F.rows p q) → (o.row.id == r.id) ≡ false → Among (without_ports (ports F p) (standing (nodes_of r) p)) q
  to_rest o other =
      among-filter (λ q. not (list_any (same_port q) (standing (nodes_of r) p))) (ports F p) q
      (among-rising port_cmp (standing (nodes F) p) (ties (standing (nodes F) p)) q (stands_there F.rows p q o))
      (ap not (false_unless (list_any (same_port q) (standing (nodes_of r) p)) (λ t.
      let y = among_from_list_any (same_port q) (standing (nodes_of r) p) t in
      let own : q.feature ≡ o.row.id = subst (λ s. s.feature ≡ o.row.id) o.is (feature_of o.row o.node o.own) in
      let its : q.feature ≡ r.id = ap (λ s. s.feature) (port_same q y.0 y.2) ∙ feature_at r p y.0 y.1 in
      true≢false (sym (eq-eqb o.row.id r.id (sym own ∙ its)) ∙ other))))
