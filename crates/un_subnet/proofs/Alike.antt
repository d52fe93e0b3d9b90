-- The orders by which the code compares ports, points and nodes are those of the definitions.
use Rattle.std.proofs.Common.{◌≡◌, ◌&&◌, Bool, true, false, Ordering, Less, Equal, Greater, nat_cmp, int_cmp, int_eq, refl}
use Rattle.std.specs.Ordering.{ordering_then}
use Rattle.un_geom.specs.contracts.point.PointOrd.TheImpl as by_point
use Rattle.un_geom.specs.contracts.point.PointPartialEq.TheImpl as equal_points
use Rattle.un_geom.specs.Places.{point_cmp, same_point}
use Rattle.un_defs.specs.contracts.port.NodeOrd.TheImpl as by_node
use Rattle.un_defs.specs.contracts.port.PortOrd.TheImpl as by_port
use Rattle.un_defs.specs.Orders.{port_cmp, node_cmp}

at_end : (k : Ordering) → k ≡ ordering_then k Equal
at_end Less = refl
at_end Equal = refl
at_end Greater = refl

pub ports_alike : by_port.ghosts.cmp ≡ port_cmp
ports_alike = λ i q r. ordering_then (nat_cmp q.feature r.feature) (at_end (nat_cmp q.number r.number) i)

pub points_alike : by_point.ghosts.cmp ≡ point_cmp
points_alike = λ i p q. ordering_then (int_cmp p.x q.x) (ordering_then (int_cmp p.y q.y) (at_end (int_cmp p.z q.z) i))

pub nodes_alike : by_node.ghosts.cmp ≡ node_cmp
nodes_alike = λ i n m. ordering_then (ports_alike i n.port m.port) (points_alike i n.at m.at)

pub equal_points_alike : equal_points.ghosts.eq ≡ same_point
equal_points_alike = λ i p q. of_three (int_eq p.x q.x) (int_eq p.y q.y) (int_eq p.z q.z) i
  where
    of_three : (a b c : Bool) → (a && (b && c)) ≡ (a && b && c)
    of_three true b c = refl
    of_three false b c = refl
