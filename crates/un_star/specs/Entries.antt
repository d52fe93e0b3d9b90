-- The entries at a point, from the rows of the ports there and their associations.
use Rattle.std.specs.Prelude.{ℕ, ◌==◌, Bool, ◌&&◌, List, map, filter, flat_map, find, option_to_list}
use Rattle.std.specs.Ordering.{nat_cmp}
use Rattle.std.specs.Option.{option_map, option_map_or}
use Rattle.un_geom.specs.declared.point.Point.{Point}
use Rattle.un_schema.specs.Catalog.{Catalog, cats_of}
use Rattle.un_defs.specs.declared.port.Port.{Port}
use Rattle.un_defs.specs.declared.row.Row.{Row}
use Rattle.un_defs.specs.declared.assoc.AssocKind.{AssocKind}
use Rattle.un_defs.specs.declared.assoc.Assoc.{Assoc}
use Rattle.un_defs.specs.declared.star.Spot.{Spot}
use Rattle.un_defs.specs.Orders.{rising, tie_cmp}
use Rattle.un_defs.specs.Features.{Features, row, associations_of}
use Rattle.un_defs.specs.Ports.{ports}
use Rattle.un_defs.specs.Permit.{permitted}
use Rattle.un_defs.specs.Star.{controller_at, is_containment, is_attachment}
use Rattle.un_star.specs.Links.{node_ties}

-- the permitted ones of a sort
abbrev pub permitted_among : Features → (AssocKind → Bool) → List Assoc → List Assoc
permitted_among F is_sort assocs = filter (λ a. is_sort a.sort && permitted F a) assocs

-- the permitted associations of a sort, of which the row is an end
abbrev pub permitted_at : Features → (AssocKind → Bool) → ℕ → List Assoc
permitted_at F is_sort id = permitted_among F is_sort (associations_of F id)

-- the permitted ones by which the row is attached to a structure
abbrev pub attached_among : Features → List Assoc → ℕ → List Assoc
attached_among F assocs id = filter (λ a. is_attachment a.sort && permitted F a) (filter (λ a. a.to.feature == id) assocs)

-- the container that the first association tells of which the row is the content, 0 where there is none
abbrev pub container_among : List Assoc → ℕ → ℕ
container_among found id = option_map_or (λ a. a.from.feature) (find (λ a. a.to.feature == id) found) 0

abbrev pub contents_among : List Assoc → ℕ → List ℕ
contents_among found id = rising nat_cmp (map (λ a. a.to.feature) (filter (λ a. a.from.feature == id) found))

abbrev pub structures_among : List Assoc → ℕ → List ℕ
structures_among found id = rising nat_cmp (map (λ a. a.from.feature) (filter (λ a. a.to.feature == id) found))

abbrev pub container_here : Features → ℕ → ℕ
container_here F id = container_among (permitted_at F is_containment id) id

abbrev pub contents_here : Features → ℕ → List ℕ
contents_here F id = contents_among (permitted_at F is_containment id) id

abbrev pub structures_here : Features → ℕ → List ℕ
structures_here F id = structures_among (permitted_at F is_attachment id) id

-- the entry of a port of a row
abbrev pub spot_here : Catalog → Features → Point → Port → Row → Spot
spot_here S F p q r = record {
  port = q;
  kind = r.kind;
  class = r.class;
  cats = cats_of S r.kind;
  attrs = r.attrs;
  ties = rising tie_cmp (node_ties S F (record { port = q; at = p }) r);
  controller = controller_at F q;
  container = container_here F r.id;
  contents = contents_here F r.id;
  structures = structures_here F r.id;
}

-- the entries at a point
abbrev pub spots_here : Catalog → Features → Point → List Spot
spots_here S F p = flat_map (λ q. option_to_list (option_map (spot_here S F p q) (row F q.feature))) (ports F p)
