-- The links of a node, from its own row, from what meets at its point and from the associations of its row, are all its links.
use Rattle.std.proofs.Common.{◌≡◌, ℕ, zero, suc, ◌+◌, Bool, true, false, ◌&&◌, ◌||◌, ◌==◌, if◌then◌else◌, inl, inr, [], ◌++◌, length, filter, flat_map, option_to_list, refl, sym, ap, ◌∙◌, subst, Option, Some, None, option_and_then, slice_get, nat_lt, eq-eqb, ltb→lt, arith, true≢false}
use Rattle.std.specs.FinMap.{nat_cmp-IsAntisymmetric}
use Rattle.std.specs.Bool.{passes}
use Rattle.std.specs.Option.{option_map, option_map_or}
use Rattle.un_geom.specs.Places.{same_point}
use Rattle.un_schema.specs.declared.kind.Class.{Class}
use Rattle.un_schema.specs.declared.kind.Class.TheVariants.{Device, Junction, Line, Assembly, Structure}
use Rattle.un_schema.specs.Catalog.{Catalog}
use Rattle.un_defs.specs.declared.link.LinkName.TheVariants.{Seg, Path, Coin}
use Rattle.un_defs.specs.declared.link.Tie.{Tie}
use Rattle.un_defs.specs.declared.port.Port.{Port}
use Rattle.un_defs.specs.declared.port.Node.{Node}
use Rattle.un_defs.specs.declared.row.Row.{Row}
use Rattle.un_defs.specs.declared.assoc.Assoc.{Assoc}
use Rattle.un_defs.specs.Orders.{rising, tie_cmp}
use Rattle.un_defs.specs.Features.{Features, row, is_joint, is_line, is_end_of, by_id, associations_of}
use Rattle.un_defs.specs.Ports.{node_of, ports, port_numbers_of, numbers_by_class}
use Rattle.un_defs.specs.Sound.{IsSound}
use Rattle.un_defs.specs.Links.{Link, link_of, segment, goes_along, goes_against, is_device, path_link, has_path, flows_from_to, terminals_of, Vertex, vertices, vertices_at, may_connect, joins_to, has_chosen, is_allowed, chosen, only, joints_at, coin_of, node_at, association_link, all_links, ties_by, links}
use Rattle.un_defs.proofs.Rising.{Among, TiesAreOne, among_from-rising, among-rising, rising_same}
use Rattle.un_defs.proofs.Members.{among_cases, among_left, among_right, among_from-flat_map, among-flat_map, among_from-filter, among-filter, among_from-map, among-map, among-filter_map}
use Rattle.un_defs.proofs.OrderLaws.{tie_total}
use Rattle.un_defs.proofs.LinkCases.{true_both, IsOneOf, is_segment, is_path, is_coin, is_association, IsSegment, IsPathLink, IsCoin, IsAssociationLink, from-link_of, among-link_of, from_if, among_if, some_same, both_true, from-node_of, from-coins, from-association_links, among-all_links, vertex_place}
use Rattle.un_defs.proofs.Unique.{unique_by, point_same, point_itself}
use Rattle.un_defs.proofs.Standing.{from_row, row_found}
use Rattle.un_defs.proofs.LinkEnds.{from_vertices, joint_lives}
use Rattle.un_defs.proofs.BothEnds.{HasLink, IsTieBy, at_first, at_second, from_ties_by, all_ties, from_all_ties, ties_are_one}
use Rattle.un_star.specs.declared.meet.Joint.{Joint}
use Rattle.un_star.specs.declared.meet.End.{End}
use Rattle.un_star.specs.Meet.{joint_of, end_of, ends_here, end_here}
use Rattle.un_star.specs.Links.{segment_before, segment_ties, path_between, path_ties, coin_by, coin_ties_by, ends_for, coin_ties, association_ties, node_ties}
use Rattle.un_star.proofs.Standers.{vertex_rows, ends_here_are, end_here_is, to_vertex_row, same_vertices, first_point, joint_node}
use Rattle.un_star.proofs.Coins.{only_here, coin_same}

-- the node is a port of the row at its point
pub record Stands (F : Features) (n : Node) (r : Row) : Type 0 where
  pub lives : Among F.rows r
  pub found : row F n.port.feature ≡ Some r
  pub number : Among (port_numbers_of r) n.port.number
  pub is : node_of r n.port.number ≡ Some n

module _ (S : Catalog) (F : Features) (sound : IsSound S F) (rules : F.rules ≡ S.rules) (n : Node) (r : Row) (stands : Stands F n r) where
  has_link : (L : Link) (t : Tie) → IsOneOf S F L → Among (ties_by n L) t → HasLink S F n t
  has_link L t is by = record { link = L; is = is; lives = among-all_links S F L is; by = by }

  -- the row of a node of a row is the row of the node
  its_row : (s : Row) (k : ℕ) → Among F.rows s → node_of s k ≡ Some n → s ≡ r
  its_row s k lives e = some_same s r (sym (ap (row F) (from-node_of s k n e).feature ∙ row_found S F sound s lives) ∙ stands.found)

  -- the link is one of the node's, by its first end or by its second
  other : (L : Link) (t : Tie) → Among (ties_by n L) t → IsTieBy n L t
  other L t by = from_ties_by n L t by

  -- ---- segments

  segment_is : (L : Link) (i : ℕ) → is_line r.class ≡ true → Among (segment r i) L → IsOneOf S F L
  segment_is L i class h = is_segment (record { line = r; index = i; lives = stands.lives; class = class; link = from-link_of _ _ _ (node_of r i) (node_of r (i + 1)) L h })

  before_is : (L : Link) (i : ℕ) → is_line r.class ≡ true → Among (segment_before r i) L → IsOneOf S F L
  before_is L zero class h = absurd h
  before_is L (suc i) class h = segment_is L i class h

  segments_to : (t : Tie) → Among (segment_ties n r) t → HasLink S F n t
  segments_to t h =
      let here = from_if (is_line r.class) (flat_map (ties_by n) (segment_before r n.port.number ++ segment r n.port.number)) t h in
      let L = among_from-flat_map (ties_by n) (segment_before r n.port.number ++ segment r n.port.number) t here.1 in
      elim (among_cases (segment_before r n.port.number) (segment r n.port.number) L.0 L.1) [
        | inl g ↦ has_link L.0 t (before_is L.0 n.port.number here.0 g) L.2
        | inr g ↦ has_link L.0 t (segment_is L.0 n.port.number here.0 g) L.2
      ]

  segments_from : (L : Link) (t : Tie) → IsSegment F L → Among (ties_by n L) t → Among (segment_ties n r) t
  segments_from L t s by = go (other L t by)
    where
      in_ties : s.line ≡ r → Among (segment_before r n.port.number ++ segment r n.port.number) L → Among (segment_ties n r) t
      in_ties same h = among_if (is_line r.class) (flat_map (ties_by n) (segment_before r n.port.number ++ segment r n.port.number)) t (subst (λ l. is_line l.class ≡ true) same s.class)
          (among-flat_map (ties_by n) (segment_before r n.port.number ++ segment r n.port.number) L t h by)

      this : Among (segment s.line s.index) L
      this = among-link_of (Seg s.line.id s.index) (goes_along s.line.flow) (goes_against s.line.flow) (node_of s.line s.index) (node_of s.line (s.index + 1)) L s.link

      go : IsTieBy n L t → Among (segment_ties n r) t
      go (at_first e f) =
          let is : node_of s.line s.index ≡ Some n = s.link.first ∙ ap Some (sym e) in
          let same : s.line ≡ r = its_row s.line s.index s.lives is in
          let number : s.index ≡ n.port.number = sym (from-node_of s.line s.index n is).number in
          in_ties same (among_right (segment_before r n.port.number) (segment r n.port.number) L
          (subst (λ k. Among (segment r k) L) number (subst (λ l. Among (segment l s.index) L) same this)))
      go (at_second e f) =
          let is : node_of s.line (s.index + 1) ≡ Some n = s.link.second ∙ ap Some (sym e) in
          let same : s.line ≡ r = its_row s.line (s.index + 1) s.lives is in
          let number : suc s.index ≡ n.port.number = next s.index n.port.number (from-node_of s.line (s.index + 1) n is).number in
          in_ties same (among_left (segment_before r n.port.number) (segment r n.port.number) L
          (subst (λ k. Among (segment_before r k) L) number (subst (λ l. Among (segment l s.index) L) same this)))
        where
          next : (i k : ℕ) → k ≡ i + 1 → suc i ≡ k
          next i k h = omega arith

  -- ---- paths

  device_terminal : (c : Class) → is_device c ≡ true → Among (numbers_by_class c r.terminals (length r.shape)) n.port.number → Among (terminals_of r) n.port.number
  device_terminal Device e h = h
  device_terminal Junction e h = cc
  device_terminal Line e h = cc
  device_terminal Assembly e h = cc
  device_terminal Structure e h = cc

  path_is : (L : Link) (a b : ℕ) → is_device r.class ≡ true → Among (terminals_of r) a → Among (terminals_of r) b → Among (path_link S r a b) L → IsOneOf S F L
  path_is L a b device low high h =
      let here = from_if (has_path S r a b) (link_of (Path r.id a b) (flows_from_to S r a b) (flows_from_to S r b a) (node_of r a) (node_of r b)) L h in
      is_path (record {
        device = r;
        low = a;
        high = b;
        lives = stands.lives;
        class = device;
        low_in = low;
        high_in = high;
        has = here.0;
        link = from-link_of (Path r.id a b) (flows_from_to S r a b) (flows_from_to S r b a) (node_of r a) (node_of r b) L here.1;
      })

  paths_to : (t : Tie) → Among (path_ties S n r) t → HasLink S F n t
  paths_to t h =
      let here = from_if (is_device r.class) (flat_map (λ b. flat_map (ties_by n) (path_between S r n.port.number b)) (terminals_of r)) t h in
      let b = among_from-flat_map (λ b. flat_map (ties_by n) (path_between S r n.port.number b)) (terminals_of r) t here.1 in
      let L = among_from-flat_map (ties_by n) (path_between S r n.port.number b.0) t b.2 in
      let own : Among (terminals_of r) n.port.number = device_terminal r.class here.0 stands.number in
      has_link L.0 t (either L.0 b.0 here.0 own b.1 (nat_lt n.port.number b.0) L.1) L.2
    where
      either : (L : Link) (b : ℕ) → is_device r.class ≡ true → Among (terminals_of r) n.port.number → Among (terminals_of r) b → (c : Bool)
          → Among (if c then path_link S r n.port.number b else path_link S r b n.port.number) L → IsOneOf S F L
      either L b device own there true h = path_is L n.port.number b device own there h
      either L b device own there false h = path_is L b n.port.number device there own h

  paths_from : (L : Link) (t : Tie) → IsPathLink S F L → Among (ties_by n L) t → Among (path_ties S n r) t
  paths_from L t s by = go (other L t by)
    where
      this : Among (path_link S s.device s.low s.high) L
      this = among_if (has_path S s.device s.low s.high) (link_of (Path s.device.id s.low s.high) (flows_from_to S s.device s.low s.high) (flows_from_to S s.device s.high s.low) (node_of s.device s.low) (node_of s.device s.high)) L s.has
          (among-link_of (Path s.device.id s.low s.high) (flows_from_to S s.device s.low s.high) (flows_from_to S s.device s.high s.low) (node_of s.device s.low) (node_of s.device s.high) L s.link)

      below : nat_lt s.low s.high ≡ true
      below = (both_true (nat_lt s.low s.high) _ s.has).0

      above : nat_lt s.high s.low ≡ false
      above = turned (nat_lt s.high s.low) refl
        where
          turned : (c : Bool) → nat_lt s.high s.low ≡ c → c ≡ false
          turned false e = refl
          turned true e =
              let a = ltb→lt s.low s.high (passes (nat_lt s.low s.high) below) in
              let b = ltb→lt s.high s.low (passes (nat_lt s.high s.low) e) in
              absurd (omega arith)

      in_ties : s.device ≡ r → (b : ℕ) → Among (terminals_of r) b → Among (path_between S r n.port.number b) L → Among (path_ties S n r) t
      in_ties same b there h = among_if (is_device r.class) (flat_map (λ b. flat_map (ties_by n) (path_between S r n.port.number b)) (terminals_of r)) t (subst (λ d. is_device d.class ≡ true) same s.class)
          (among-flat_map (λ b. flat_map (ties_by n) (path_between S r n.port.number b)) (terminals_of r) b t there
          (among-flat_map (ties_by n) (path_between S r n.port.number b) L t h by))

      go : IsTieBy n L t → Among (path_ties S n r) t
      go (at_first e f) =
          let is : node_of s.device s.low ≡ Some n = s.link.first ∙ ap Some (sym e) in
          let same : s.device ≡ r = its_row s.device s.low s.lives is in
          let number : s.low ≡ n.port.number = sym (from-node_of s.device s.low n is).number in
          in_ties same s.high (subst (λ d. Among (terminals_of d) s.high) same s.high_in)
          (subst (λ k. Among (path_between S r k s.high) L) number
          (subst (λ d. Among (path_between S d s.low s.high) L) same
          (subst (λ c. Among (if c then path_link S s.device s.low s.high else path_link S s.device s.high s.low) L) (sym below) this)))
      go (at_second e f) =
          let is : node_of s.device s.high ≡ Some n = s.link.second ∙ ap Some (sym e) in
          let same : s.device ≡ r = its_row s.device s.high s.lives is in
          let number : s.high ≡ n.port.number = sym (from-node_of s.device s.high n is).number in
          in_ties same s.low (subst (λ d. Among (terminals_of d) s.low) same s.low_in)
          (subst (λ k. Among (path_between S r k s.low) L) number
          (subst (λ d. Among (path_between S d s.high s.low) L) same
          (subst (λ c. Among (if c then path_link S s.device s.high s.low else path_link S s.device s.low s.high) L) (sym above) this)))

  -- ---- associations

  associations_to : (t : Tie) → Among (association_ties F n) t → HasLink S F n t
  associations_to t h =
      let a = among_from-flat_map (λ a. flat_map (ties_by n) (association_link F a)) (associations_of F n.port.feature) t h in
      let L = among_from-flat_map (ties_by n) (association_link F a.0) t a.2 in
      let lives = (among_from-filter (is_end_of n.port.feature) F.associations a.0 (among_from-rising by_id _ a.0 a.1)).0 in
      has_link L.0 t (is_association (from-association_links F L.0 (among-flat_map (association_link F) F.associations a.0 L.0 lives L.1))) L.2

  pub ids_tie : TiesAreOne by_id F.associations
  ids_tie a b h g e = unique_by (λ a. a.id) F.associations sound.associations a b h g (nat_cmp-IsAntisymmetric a.id b.id e)

  -- an association of which the row is an end
  pub listed : (a : Assoc) → Among F.associations a → is_end_of n.port.feature a ≡ true → Among (associations_of F n.port.feature) a
  listed a h e = among-rising by_id (filter (is_end_of n.port.feature) F.associations)
      (λ x y p q. ids_tie x y (among_from-filter (is_end_of n.port.feature) F.associations x p).0 (among_from-filter (is_end_of n.port.feature) F.associations y q).0)
      a (among-filter (is_end_of n.port.feature) F.associations a h e)

  node_feature : (q : Port) → node_at F q ≡ Some n → q.feature ≡ n.port.feature
  node_feature q e = go (row F q.feature) refl e
    where
      go : (o : Option Row) → row F q.feature ≡ o → option_and_then (λ s. node_of s q.number) o ≡ Some n → q.feature ≡ n.port.feature
      go None f h = cc
      go (Some s) f h = sym (from_row F q.feature s f).1 ∙ sym (from-node_of s q.number n h).feature

  associations_from : (L : Link) (t : Tie) → IsAssociationLink F L → Among (ties_by n L) t → Among (association_ties F n) t
  associations_from L t s by =
      among-flat_map (λ a. flat_map (ties_by n) (association_link F a)) (associations_of F n.port.feature) s.association t
      (listed s.association s.lives (end (other L t by)))
      (among-flat_map (ties_by n) (association_link F s.association) L t this by)
    where
      this : Among (association_link F s.association) L
      this = among_if _ _ L (true_both _ _ s.sort s.allowed) (among-link_of _ _ _ (node_at F s.association.from) (node_at F s.association.to) L s.link)

      either_true : (a b : Bool) → b ≡ true → (a || b) ≡ true
      either_true true b e = refl
      either_true false b e = e

      end : IsTieBy n L t → is_end_of n.port.feature s.association ≡ true
      end (at_first e f) = ap (λ b. b || (s.association.to.feature == n.port.feature)) (eq-eqb s.association.from.feature n.port.feature (node_feature s.association.from (s.link.first ∙ ap Some (sym e))))
      end (at_second e f) = either_true (s.association.from.feature == n.port.feature) _ (eq-eqb s.association.to.feature n.port.feature (node_feature s.association.to (s.link.second ∙ ap Some (sym e))))

  -- ---- coins

  coin_is : (j : Row) → only (joints_at F n.at) ≡ Some j → (v : Vertex) → Among (vertices_at S F n.at) v → (L : Link) → Among (coin_by S.rules n.at (joint_of j) (ends_here S F n.at) (end_of v)) L → IsOneOf S F L
  coin_is j alone v lives L h =
      let parts = among_from-filter (λ v. same_point v.at n.at && may_connect S v) (vertices F) v lives in
      let tests = both_true (same_point v.at n.at) (may_connect S v) parts.1 in
      let at : v.at ≡ n.at = point_same v.at n.at tests.0 in
      let joint = joint_lives F n.at j alone in
      let is = from_vertices F v parts.0 in
      let coin : Among (coin_of S F v j) L = subst (λ l. Among l L) (sym (coin_same S F sound rules n.at j (both_true (is_joint j.class) _ joint.1).0 (first_point n.at j joint.1) v tests.1 at is.class (is.at ∙ ap Some at))) h in
      is_coin (from-coins S F L (among-flat_map (λ v. option_map_or (coin_of S F v) (only (joints_at F v.at)) []) (vertices F) v L parts.0
      (subst (λ o. Among (option_map_or (coin_of S F v) o []) L) (sym (ap (λ q. only (joints_at F q)) at ∙ alone)) coin)))

  end_vertex : (e : End) → Among (ends_here S F n.at) e → (v : Vertex) × Among (vertices_at S F n.at) v × (end_of v ≡ e)
  end_vertex e h =
      let v = among_from-map end_of (vertex_rows S F n.at) e (subst (λ l. Among l e) (ends_here_are S F n.at) h) in
      (v.0, (same_vertices S F sound n.at).to v.0 v.1, v.2)

  -- each end by which the node may have such a link is one at the point
  ends_for_here : Among (ports F n.at) n.port → (j : Joint) (e : End) → Among (ends_for S F n j) e → Among (ends_here S F n.at) e
  ends_for_here port j e h = go (n.port.feature == j.id) h
    where
      one : (o : Option End) → end_here S F n.at n.port ≡ o → Among (option_to_list o) e → Among (ends_here S F n.at) e
      one None f g = absurd g
      one (Some x) f g = among-filter_map (end_here S F n.at) (ports F n.at) n.port e port (f ∙ ap Some (elim g [ inl i ↦ i | inr i ↦ absurd i ]))

      go : (b : Bool) → Among (if b then ends_here S F n.at else option_to_list (end_here S F n.at n.port)) e → Among (ends_here S F n.at) e
      go true g = g
      go false g = one (end_here S F n.at n.port) refl g

  coins_to : Among (ports F n.at) n.port → (t : Tie) → Among (coin_ties S F n) t → HasLink S F n t
  coins_to port t h = go (only (joints_at F n.at)) refl (subst (λ o. Among (option_map_or (λ j. flat_map (coin_ties_by S.rules n j (ends_here S F n.at)) (ends_for S F n j)) o []) t) (only_here S F sound n.at) h)
    where
      go : (o : Option Row) → only (joints_at F n.at) ≡ o → Among (option_map_or (λ j. flat_map (coin_ties_by S.rules n j (ends_here S F n.at)) (ends_for S F n j)) (option_map joint_of o) []) t → HasLink S F n t
      go None e g = absurd g
      go (Some j) e g =
          let end = among_from-flat_map (coin_ties_by S.rules n (joint_of j) (ends_here S F n.at)) (ends_for S F n (joint_of j)) t g in
          let L = among_from-flat_map (ties_by n) (coin_by S.rules n.at (joint_of j) (ends_here S F n.at) end.0) t end.2 in
          let v = end_vertex end.0 (ends_for_here port (joint_of j) end.0 end.1) in
          has_link L.0 t (coin_is j e v.0 v.1 L.0 (subst (λ e. Among (coin_by S.rules n.at (joint_of j) (ends_here S F n.at) e) L.0) (sym v.2) L.1)) L.2

  coins_from : (L : Link) (t : Tie) → IsCoin S F L → Among (ties_by n L) t → Among (coin_ties S F n) t
  coins_from L t s by =
      subst (λ o. Among (option_map_or (λ j. flat_map (coin_ties_by S.rules n j (ends_here S F n.at)) (ends_for S F n j)) o []) t) (sym (only_here S F sound n.at ∙ ap (option_map joint_of) alone))
      (among-flat_map (coin_ties_by S.rules n (joint_of s.joint) (ends_here S F n.at)) (ends_for S F n (joint_of s.joint)) (end_of s.vertex) t
      (for_it (other L t by)) (among-flat_map (ties_by n) (coin_by S.rules n.at (joint_of s.joint) (ends_here S F n.at) (end_of s.vertex)) L t this by))
    where
      class : is_joint s.joint.class ≡ true
      class = (both_true (is_joint s.joint.class) _ (joint_lives F s.vertex.at s.joint s.alone).1).0

      first : slice_get s.joint.shape 0 ≡ Some s.vertex.at
      first = first_point s.vertex.at s.joint (joint_lives F s.vertex.at s.joint s.alone).1

      may : may_connect S s.vertex ≡ true
      may = (both_true (may_connect S s.vertex) (has_chosen s.joint s.vertex) (both_true (may_connect S s.vertex && has_chosen s.joint s.vertex) (is_allowed S F s.joint s.vertex) s.joins).0).0

      at : IsTieBy n L t → s.vertex.at ≡ n.at
      at (at_first e f) = some_same s.vertex.at n.at (ap (λ o. option_map (λ m. m.at) o) (sym (joint_node s.joint (chosen s.vertex s.joint) s.vertex.at class first) ∙ s.link.first ∙ ap Some (sym e)))
      at (at_second e f) = some_same s.vertex.at n.at (sym (from_vertices F s.vertex s.lives).at ∙ vertex_place s.vertex.line s.vertex.index n (from_vertices F s.vertex s.lives).class (s.link.second ∙ ap Some (sym e)))

      here : s.vertex.at ≡ n.at
      here = at (other L t by)

      alone : only (joints_at F n.at) ≡ Some s.joint
      alone = ap (λ q. only (joints_at F q)) (sym here) ∙ s.alone

      this : Among (coin_by S.rules n.at (joint_of s.joint) (ends_here S F n.at) (end_of s.vertex)) L
      this = subst (λ l. Among l L) (coin_same S F sound rules n.at s.joint class (first ∙ ap Some here) s.vertex may here (from_vertices F s.vertex s.lives).class ((from_vertices F s.vertex s.lives).at ∙ ap Some here))
          (among_if (joins_to S F s.joint s.vertex) (link_of (Coin s.joint.id (chosen s.vertex s.joint) s.vertex.line.id s.vertex.index) true true (node_of s.joint (chosen s.vertex s.joint)) (node_of s.vertex.line s.vertex.index)) L s.joins
          (among-link_of (Coin s.joint.id (chosen s.vertex s.joint) s.vertex.line.id s.vertex.index) true true (node_of s.joint (chosen s.vertex s.joint)) (node_of s.vertex.line s.vertex.index) L s.link))

      among_ends : Among (ends_here S F n.at) (end_of s.vertex)
      among_ends = subst (λ l. Among l (end_of s.vertex)) (sym (ends_here_are S F n.at)) (among-map end_of (vertex_rows S F n.at) s.vertex
          ((same_vertices S F sound n.at).from s.vertex (among-filter (λ v. same_point v.at n.at && may_connect S v) (vertices F) s.vertex s.lives
          (true_both (same_point s.vertex.at n.at) (may_connect S s.vertex) (ap (λ q. same_point q n.at) here ∙ point_itself n.at) may))))

      own_end : s.vertex.line ≡ r → s.vertex.index ≡ n.port.number → Among (option_to_list (end_here S F n.at n.port)) (end_of s.vertex)
      own_end same number = subst (λ o. Among (option_to_list o) (end_of s.vertex))
          (sym (end_here_is S F n.at n.port ∙ ap (option_map end_of) (to_vertex_row S F n.at n.port s.vertex
          (record { found = stands.found ∙ ap Some (sym same); class = (from_vertices F s.vertex s.lives).class; may = may; index = number; at = here })))) (inl refl)

      either : (b : Bool) → Among (ends_here S F n.at) (end_of s.vertex) → (b ≡ false → Among (option_to_list (end_here S F n.at n.port)) (end_of s.vertex))
          → Among (if b then ends_here S F n.at else option_to_list (end_here S F n.at n.port)) (end_of s.vertex)
      either true a b = a
      either false a b = b refl

      for_it : IsTieBy n L t → Among (ends_for S F n (joint_of s.joint)) (end_of s.vertex)
      for_it (at_first e f) =
          let feature : n.port.feature ≡ s.joint.id = (from-node_of s.joint (chosen s.vertex s.joint) n (s.link.first ∙ ap Some (sym e))).feature in
          either (n.port.feature == s.joint.id) among_ends (λ no. absurd (true≢false (sym (eq-eqb n.port.feature s.joint.id feature) ∙ no)))
      for_it (at_second e f) =
          let is : node_of s.vertex.line s.vertex.index ≡ Some n = s.link.second ∙ ap Some (sym e) in
          either (n.port.feature == s.joint.id) among_ends (λ _. own_end (its_row s.vertex.line s.vertex.index (from_vertices F s.vertex s.lives).lives is) (sym (from-node_of s.vertex.line s.vertex.index n is).number))

  -- ---- all

  ties_to : Among (ports F n.at) n.port → (t : Tie) → Among (node_ties S F n r) t → HasLink S F n t
  ties_to port t h =
      elim (among_cases (segment_ties n r ++ path_ties S n r ++ coin_ties S F n) (association_ties F n) t h) [
        | inr g ↦ associations_to t g
        | inl h ↦ elim (among_cases (segment_ties n r ++ path_ties S n r) (coin_ties S F n) t h) [
          | inr g ↦ coins_to port t g
          | inl h ↦ elim (among_cases (segment_ties n r) (path_ties S n r) t h) [ inl g ↦ segments_to t g | inr g ↦ paths_to t g ]
        ]
      ]

  ties_from : (t : Tie) → HasLink S F n t → Among (node_ties S F n r) t
  ties_from t has = go has.is
    where
      go : IsOneOf S F has.link → Among (node_ties S F n r) t
      go (is_segment s) = among_left _ (association_ties F n) t (among_left _ (coin_ties S F n) t (among_left (segment_ties n r) (path_ties S n r) t (segments_from has.link t s has.by)))
      go (is_path s) = among_left _ (association_ties F n) t (among_left _ (coin_ties S F n) t (among_right (segment_ties n r) (path_ties S n r) t (paths_from has.link t s has.by)))
      go (is_coin s) = among_left _ (association_ties F n) t (among_right (segment_ties n r ++ path_ties S n r) (coin_ties S F n) t (coins_from has.link t s has.by))
      go (is_association s) = among_right (segment_ties n r ++ path_ties S n r ++ coin_ties S F n) (association_ties F n) t (associations_from has.link t s has.by)

  -- the links of the node
  pub links_here : Among (ports F n.at) n.port → rising tie_cmp (node_ties S F n r) ≡ links S F n
  unfolding all_ties
  links_here port = rising_same tie_total (node_ties S F n r) (all_ties S F n)
      (λ s t h g e. ties_are_one S F sound n s t (in_all s (ties_to port s h)) (in_all t (ties_to port t g)) e)
      (ties_are_one S F sound n) (λ t h. in_all t (ties_to port t h)) (λ t h. ties_from t (from_all_ties S F n t h))
    where
      in_all : (t : Tie) → HasLink S F n t → Among (flat_map (ties_by n) (all_links S F)) t
      in_all t has = among-flat_map (ties_by n) (all_links S F) has.link t has.lives has.by
