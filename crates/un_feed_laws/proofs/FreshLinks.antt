-- The links of sound features in range have names and ends in range.
use Rattle.std.proofs.Common.{◌≡◌, ℕ, ◌+◌, ◌≤◌, List, All, Some, sym, subst, arith}
use Rattle.std.specs.Prelude.{option_and_then}
use Rattle.un_schema.specs.Catalog.{Catalog}
use Rattle.un_tiers.specs.declared.tier.Tier.{Tier}
use Rattle.un_defs.specs.declared.port.Port.{Port}
use Rattle.un_defs.specs.declared.port.Node.{Node}
use Rattle.un_defs.specs.declared.link.Tie.{Tie}
use Rattle.un_defs.specs.declared.row.Row.{Row}
use Rattle.un_defs.specs.Features.{Features, row}
use Rattle.un_defs.specs.Ports.{node_of}
use Rattle.un_defs.specs.Links.{Link, chosen, node_at, links, terminals_of}
use Rattle.un_defs.specs.Sound.{IsSound}
use Rattle.un_defs.proofs.Rising.{Among}
use Rattle.un_defs.proofs.LinkCases.{IsSegment, IsPathLink, IsCoin, IsAssociationLink, IsOneOf, is_segment, is_path, is_coin, is_association, from_range, below_length, vertex_below}
use Rattle.un_defs.proofs.Unique.{from_all}
use Rattle.un_defs.proofs.Standing.{from_row}
use Rattle.un_defs.proofs.LinkEnds.{from_vertices, joint_lives, coin_chosen, from_permitted, terminals_of_allowed}
use Rattle.un_defs.proofs.BothEnds.{IsTieBy, at_first, at_second, from_ties_by, from_links}
use Rattle.un_feed_json.specs.Sound.{IsLinkName, IsLink}
use Rattle.un_defs.proofs.KeepsSound.{all_from}
use Rattle.un_feed_laws.specs.Ranges.{IsAssocInRange, AreInRange}
use Rattle.un_feed_laws.proofs.Nodes.{IsNode, node_in_range, row_in_range, vertex_in_range, terminal_in_range}

-- the name of a link is in range, and its two ends are
record IsLinkInRange (L : Link) : Type 0 where
  name : IsLinkName L.name
  first : IsNode L.first
  second : IsNode L.second

node_of_port : (F : Features) (q : Port) (r : Row) (n : Node) → row F q.feature ≡ Some r → node_at F q ≡ Some n → node_of r q.number ≡ Some n
node_of_port F q r n e h = subst (λ o. option_and_then (λ r. node_of r q.number) o ≡ Some n) e h

module _ (S : Catalog) (T : List Tier) (F : Features) (sound : IsSound S F) (range : AreInRange S T F) where
  segment_in_range : (L : Link) → IsSegment F L → IsLinkInRange L
  segment_in_range L s =
      let row = row_in_range S T F sound range s.line s.lives in
      let first = vertex_in_range S T F sound range s.line s.index s.lives (vertex_below s.line s.index L.first s.class s.link.first) in
      let second = vertex_in_range S T F sound range s.line (s.index + 1) s.lives (vertex_below s.line (s.index + 1) L.second s.class s.link.second) in
      record {
        name = subst IsLinkName (sym s.link.name) (record { feature = row.id; within = first });
        first = node_in_range S s.line s.index L.first row first s.link.first;
        second = node_in_range S s.line (s.index + 1) L.second row second s.link.second;
      }

  device_terminal : (r : Row) (t : ℕ) → Among F.rows r → Among (terminals_of r) t → t ≤ 63
  device_terminal r t h g =
      let few = (row_in_range S T F sound range r h).terminals in
      let within = from_range 1 r.terminals t g in
      omega (arith, few, within.1)

  path_in_range : (L : Link) → IsPathLink S F L → IsLinkInRange L
  path_in_range L p =
      let row = row_in_range S T F sound range p.device p.lives in
      let low = device_terminal p.device p.low p.lives p.low_in in
      let high = device_terminal p.device p.high p.lives p.high_in in
      record {
        name = subst IsLinkName (sym p.link.name) (record { feature = row.id; within = low }, high);
        first = node_in_range S p.device p.low L.first row low p.link.first;
        second = node_in_range S p.device p.high L.second row high p.link.second;
      }

  coin_in_range : (L : Link) → IsCoin S F L → IsLinkInRange L
  coin_in_range L c =
      let joint = (joint_lives F c.vertex.at c.joint c.alone).0 in
      let vertex = from_vertices F c.vertex c.lives in
      let joint_row = row_in_range S T F sound range c.joint joint in
      let line_row = row_in_range S T F sound range c.vertex.line vertex.lives in
      let terminal = terminal_in_range S T F sound range c.joint (chosen c.vertex c.joint) joint (coin_chosen S F c.joint c.vertex c.joins) in
      let index = vertex_in_range S T F sound range c.vertex.line c.vertex.index vertex.lives (below_length _ _ _ vertex.at) in
      record {
        name = subst IsLinkName (sym c.link.name) (record { feature = joint_row.id; within = terminal }, record { feature = line_row.id; within = index });
        first = node_in_range S c.joint (chosen c.vertex c.joint) L.first joint_row terminal c.link.first;
        second = node_in_range S c.vertex.line c.vertex.index L.second line_row index c.link.second;
      }

  association_in_range : (L : Link) → IsAssociationLink F L → IsLinkInRange L
  association_in_range L a =
      let link = a.association in
      let rows = from_permitted F link a.allowed in
      let terminals = terminals_of_allowed F link.sort link.from link.to rows.from_row rows.to_row a.sort rows.allowed_between in
      let from = (from_row F link.from.feature rows.from_row rows.from_found).0 in
      let to = (from_row F link.to.feature rows.to_row rows.to_found).0 in
      record {
        name = subst IsLinkName (sym a.link.name) (from_all IsAssocInRange F.associations range.associations link a.lives).id;
        first = node_in_range S rows.from_row link.from.number L.first (row_in_range S T F sound range rows.from_row from)
            (terminal_in_range S T F sound range rows.from_row link.from.number from terminals.0)
            (node_of_port F link.from rows.from_row L.first rows.from_found a.link.first);
        second = node_in_range S rows.to_row link.to.number L.second (row_in_range S T F sound range rows.to_row to)
            (terminal_in_range S T F sound range rows.to_row link.to.number to terminals.1)
            (node_of_port F link.to rows.to_row L.second rows.to_found a.link.second);
      }

  link_in_range : (L : Link) → IsOneOf S F L → IsLinkInRange L
  link_in_range L (is_segment s) = segment_in_range L s
  link_in_range L (is_path p) = path_in_range L p
  link_in_range L (is_coin c) = coin_in_range L c
  link_in_range L (is_association a) = association_in_range L a

  tie_of : (L : Link) (n : Node) (t : Tie) → IsLinkInRange L → IsTieBy n L t → IsLink t
  tie_of L n t is (at_first e f) = subst IsLink (sym f) (record { name = is.name; port = is.second.port; at = is.second.at })
  tie_of L n t is (at_second e f) = subst IsLink (sym f) (record { name = is.name; port = is.first.port; at = is.first.at })

  -- each link of a node is one that a page can show
  pub links_in_range : (n : Node) → All IsLink (links S F n)
  links_in_range n = all_from IsLink (links S F n) (λ t h.
      let has = from_links S F n t h in
      tie_of has.link n t (link_in_range has.link has.is) (from_ties_by n has.link t has.by))
