-- The law that a star that is not empty stands at a point in range.
use Rattle.std.proofs.Common.{◌≡◌, Bool, true, false, refl, subst}
use Rattle.std.specs.List.{list_any}
use Rattle.un_geom.specs.Places.{same_point, IsPlace}
use Rattle.un_defs.specs.Ports.{nodes}
use Rattle.un_defs.proofs.Members.{among_from_contains, among_from_list_any}
use Rattle.un_defs.proofs.ListLemmas.{none_passes}
use Rattle.un_defs.proofs.Unique.{point_same}
use Rattle.un_defs.proofs.Standing.{from_nodes}
use Rattle.un_defs.proofs.Empty.{empty_elsewhere}
use Rattle.un_feed_laws.specs.Fresh.{FreshPlaceLaw}
use Rattle.un_feed_laws.proofs.Nodes.{node_in_range, row_in_range, number_in_range}

pub fresh_places : FreshPlaceLaw
fresh_places S T F sound range p some = go (list_any (λ n. same_point n.at p) (nodes F)) refl
  where
    go : (b : Bool) → list_any (λ n. same_point n.at p) (nodes F) ≡ b → IsPlace p
    go true e =
        let n = among_from_list_any (λ n. same_point n.at p) (nodes F) e in
        let standing = from_nodes F n.0 n.1 in
        let number = number_in_range S T F sound range standing.row (n.0).port.number standing.lives standing.number in
        let is = node_in_range S standing.row (n.0).port.number n.0 (row_in_range S T F sound range standing.row standing.lives) number standing.is in
        subst IsPlace (point_same (n.0).at p n.2) is.at
    go false e =
        let bare = empty_elsewhere S F sound p (λ n h. none_passes (λ n. same_point n.at p) (nodes F) e n (among_from_contains (nodes F) n h)) in
        absurd (some bare)
