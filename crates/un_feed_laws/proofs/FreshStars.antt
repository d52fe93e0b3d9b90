-- The law that the stars of sound features in range are sound.
use Rattle.std.proofs.Common.{◌≡◌, ℕ, ◌==◌, ◌<◌, ◌&&◌, Bool, List, length, map, filter, All, Option, Some, None, refl, sym, subst, arith, slice_get}
use Rattle.std.specs.Ordering.{nat_cmp}
use Rattle.std.specs.Option.{option_map, option_map_or}
use Rattle.un_geom.specs.declared.point.Point.{Point}
use Rattle.un_geom.specs.Places.{same_point}
use Rattle.un_schema.specs.declared.kind.Class.{Class}
use Rattle.un_schema.specs.declared.kind.Class.TheVariants.{Structure}
use Rattle.un_schema.specs.declared.kind.Kind.{Kind}
use Rattle.un_schema.specs.Catalog.{Catalog, kind_at}
use Rattle.un_schema.specs.Names.{IsName}
use Rattle.un_tiers.specs.declared.tier.Tier.{Tier}
use Rattle.un_defs.specs.declared.port.Port.{Port}
use Rattle.un_defs.specs.declared.row.Row.{Row}
use Rattle.un_defs.specs.declared.assoc.AssocKind.{AssocKind}
use Rattle.un_defs.specs.declared.assoc.Assoc.{Assoc}
use Rattle.un_defs.specs.declared.assoc.Controller.{Controller}
use Rattle.un_defs.specs.Orders.{rising, port_cmp, same_port}
use Rattle.un_defs.specs.Features.{Features, row, by_id}
use Rattle.un_defs.specs.Ports.{ports, nodes, standing_at}
use Rattle.un_defs.specs.Permit.{permitted}
use Rattle.un_defs.specs.Star.{controller_at, is_containment, is_attachment, permitted_of, container, contents, structures, spot_of, spots}
use Rattle.un_defs.specs.Sound.{IsSound}
use Rattle.un_defs.proofs.Rising.{Among, among_from-rising}
use Rattle.un_defs.proofs.Members.{among_from-filter, among_from-map, among_from-filter_map}
use Rattle.un_defs.proofs.LinkCases.{both_true, some_same, from-node_of}
use Rattle.un_defs.proofs.Unique.{from_all, from_find, port_same}
use Rattle.un_defs.proofs.Standing.{from_row, from_nodes}
use Rattle.un_defs.proofs.LinkEnds.{from_permitted}
use Rattle.un_defs.proofs.RowFacts.{fits, kind_lives}
use Rattle.un_feed_json.specs.Sound.{IsId, IsBase, IsPort, IsEntry}
use Rattle.un_defs.proofs.KeepsSound.{all_from}
use Rattle.un_feed_laws.specs.Ranges.{IsControllerInRange, AreInRange}
use Rattle.un_feed_laws.specs.Fresh.{FreshStarLaw}
use Rattle.un_feed_laws.proofs.Nodes.{among_got, map_some, if_some, row_in_range, id_in_range, number_in_range}
use Rattle.un_feed_laws.proofs.FreshLinks.{links_in_range}
use Rattle.un_feed_laws.proofs.FreshErrors.{errors_in_range}

-- the class of a kind
class_is : (o : Option Kind) (c : Class) → option_map (λ k. k.class) o ≡ Some c → c ≡ option_map_or (λ k. k.class) o Structure
class_is None c e = cc
class_is (Some k) c e = sym (some_same k.class c e)

module _ (S : Catalog) (T : List Tier) (F : Features) (sound : IsSound S F) (range : AreInRange S T F) where
  -- ---- ports

  port_in_range : (p : Point) (q : Port) → Among (ports F p) q → IsPort q.feature q.number
  port_in_range p q h =
      let n = among_from-map (λ n. n.port) (standing_at p (nodes F)) q (among_from-rising port_cmp (map (λ n. n.port) (standing_at p (nodes F))) q h) in
      let standing = from_nodes F n.0 (among_from-filter (λ n. same_point n.at p) (nodes F) n.0 n.1).0 in
      let is = from-node_of standing.row (n.0).port.number n.0 standing.is in
      subst (λ q. IsPort q.feature q.number) n.2 (record {
        feature = subst IsId (sym is.feature) (row_in_range S T F sound range standing.row standing.lives).id;
        within = number_in_range S T F sound range standing.row (n.0).port.number standing.lives standing.number;
      })

  -- ---- controllers

  controller_found : (q : Port) (c : Controller) → controller_at F q ≡ Some c → IsControllerInRange T c × (c.port ≡ q)
  controller_found q c e =
      let found = from_find (λ c. same_port c.port q) F.controllers c e in
      (from_all (IsControllerInRange T) F.controllers range.controllers c found.0, port_same c.port q found.1)

  -- ---- containers, contents and structures

  ends_in_range : (a : Assoc) (is_sort : AssocKind → Bool) → Among (permitted_of F is_sort) a → IsId a.from.feature × IsId a.to.feature
  ends_in_range a is_sort h =
      let passes = (among_from-filter (λ a. is_sort a.sort && permitted F a) F.associations a h).1 in
      let rows = from_permitted F a (both_true (is_sort a.sort) (permitted F a) passes).1 in
      (id_in_range S T F sound range a.from.feature rows.from_row rows.from_found, id_in_range S T F sound range a.to.feature rows.to_row rows.to_found)

  container_in_range : (id : ℕ) → IsBase (container F id)
  container_in_range id = go (slice_get (rising by_id inside) 0) refl
    where
      inside : List Assoc
      inside = filter (λ a. a.to.feature == id) (permitted_of F is_containment)

      go : (o : Option Assoc) → slice_get (rising by_id inside) 0 ≡ o → IsBase (option_map_or (λ a. a.from.feature) o 0)
      go None e = omega arith
      go (Some a) e =
          let among = among_from-rising by_id inside a (among_got (rising by_id inside) 0 a e) in
          (ends_in_range a is_containment (among_from-filter (λ a. a.to.feature == id) (permitted_of F is_containment) a among).0).0.few

  contents_in_range : (id : ℕ) → All IsId (contents F id)
  contents_in_range id = all_from IsId (contents F id) (λ n h.
      let held = filter (λ a. a.from.feature == id) (permitted_of F is_containment) in
      let a = among_from-map (λ a. a.to.feature) held n (among_from-rising nat_cmp (map (λ a. a.to.feature) held) n h) in
      subst IsId a.2 (ends_in_range a.0 is_containment (among_from-filter (λ a. a.from.feature == id) (permitted_of F is_containment) a.0 a.1).0).1)

  structures_in_range : (id : ℕ) → All IsId (structures F id)
  structures_in_range id = all_from IsId (structures F id) (λ n h.
      let attached = filter (λ a. a.to.feature == id) (permitted_of F is_attachment) in
      let a = among_from-map (λ a. a.from.feature) attached n (among_from-rising nat_cmp (map (λ a. a.from.feature) attached) n h) in
      subst IsId a.2 (ends_in_range a.0 is_attachment (among_from-filter (λ a. a.to.feature == id) (permitted_of F is_attachment) a.0 a.1).0).0)

  -- ---- entries

  entry_in_range : (p : Point) (q : Port) (r : Row) → Among (ports F p) q → row F q.feature ≡ Some r → IsEntry S T (spot_of S F p q r)
  entry_in_range p q r h found =
      let row = row_in_range S T F sound range r (from_row F q.feature r found).0 in
      record {
        names = record {
          kind = kind_lives S F sound q.feature r found;
          attributes = row.named;
          tier = if_some (λ c. c.tier < length T) (controller_at F q) (λ c e. (controller_found q c e).0.tier);
        };
        port = port_in_range p q h;
        class = class_is (kind_at S r.kind) r.class (fits S F sound q.feature r found).class;
        cats = refl;
        attrs = row.attrs;
        links = links_in_range S T F sound range (record { port = q; at = p });
        controller = if_some (λ c. (c.port ≡ q) × IsName c.subnet) (controller_at F q) (λ c e. ((controller_found q c e).1, (controller_found q c e).0.subnet));
        container = container_in_range r.id;
        contents = contents_in_range r.id;
        structures = structures_in_range r.id;
      }

  entries_in_range : (p : Point) → All (IsEntry S T) (spots S F p)
  entries_in_range p = all_from (IsEntry S T) (spots S F p) (λ s h.
      let q = among_from-filter_map (λ q. option_map (spot_of S F p q) (row F q.feature)) (ports F p) s h in
      let r = map_some (spot_of S F p q.0) (row F (q.0).feature) s q.2 in
      subst (IsEntry S T) r.2 (entry_in_range p q.0 r.0 q.1 r.1))

pub fresh_stars : FreshStarLaw
fresh_stars S T F sound range p = record { entries = entries_in_range S T F sound range p; errors = errors_in_range S T F sound range p }
