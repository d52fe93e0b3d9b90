-- The forms of pages and of their parts: what a JSON value is, if it has the form.
use Rattle.std.specs.Prelude.{ℕ, ◌+◌, ℤ, Bool, false, ◌&&◌, ◌==◌, List, [], ◌∷◌, codes, Option, None, Some, option_and_then, is_some, is_none, if◌then◌else◌, ⊤}
use Rattle.std.specs.Option.{option_map, option_map_or}
use Rattle.std.specs.Str.{bytes_eq}
use Rattle.serde_json.specs.Data.{Data, Items, no_items, item, Members, no_members, member}
use Rattle.serde_json.specs.Find.{at, as_str, as_null, as_bool, as_array, as_object}
use Rattle.un_geom.specs.declared.point.Point.{Point}
use Rattle.un_geom.specs.Places.{in_range}
use Rattle.un_attrs.specs.Attributes.{bad_place, known, in_order}
use Rattle.un_schema.specs.declared.kind.Class.{Class}
use Rattle.un_schema.specs.declared.kind.Class.TheVariants.{Structure}
use Rattle.un_schema.specs.Catalog.{Catalog, kind_at, kind_named, cats_of, place_of}
use Rattle.un_tiers.specs.declared.tier.Tier.{Tier}
use Rattle.un_tiers.specs.Lists.{tier_named}
use Rattle.un_defs.specs.declared.port.Port.{Port}
use Rattle.un_defs.specs.declared.port.Node.{Node}
use Rattle.un_defs.specs.declared.assoc.Controller.{Controller}
use Rattle.un_defs.specs.declared.link.LinkName.{LinkName}
use Rattle.un_defs.specs.declared.link.LinkName.TheVariants.{Seg, Path, Coin, Assoc}
use Rattle.un_defs.specs.declared.link.Tie.{Tie}
use Rattle.un_defs.specs.declared.star.ErrorKind.{ErrorKind}
use Rattle.un_defs.specs.declared.star.ErrorKind.TheVariants as kind
use Rattle.un_defs.specs.declared.star.TopoError.{TopoError}
use Rattle.un_defs.specs.declared.star.Spot.{Spot}
use Rattle.un_defs.specs.declared.star.Star.{Star}
use Rattle.un_feed.specs.Differences.{Difference}
use Rattle.un_feed_json.specs.declared.read.entry.Head.{Head}
use Rattle.un_feed_json.specs.declared.read.entry.Tail.{Tail}
use Rattle.un_json.specs.Forms.{kept, whole, count_from_to, id_of, base_of, name_of, point_of, or_null, list_of}

-- ---- lists of a fixed length

abbrev pub items_len : Items → ℕ
items_len no_items = 0
items_len (item d ds) = items_len ds + 1

-- a list of so many values
abbrev pub has_length : ℕ → Data → Bool
has_length n d = option_map_or (λ ds. items_len ds == n) (as_array d) false

-- what the value at a place of a list is
abbrev pub field : {A : Type 0} → ℕ → (Data → Option A) → Data → Option A
field i form d = option_and_then form (at i d)

-- what a list of so many values is
abbrev pub list_with : {A : Type 0} → ℕ → (Data → Option A) → Data → Option A
list_with n form d = if has_length n d then form d else None

-- ---- ports and links

-- the number of a port, a terminal or a vertex
abbrev pub number_of : Data → Option ℕ
number_of = count_from_to 0 63

abbrev pub port : ℕ → ℕ → Port
port id n = record { feature = id; number = n }

-- a feature and a number, at these places
abbrev pub port_at : ℕ → ℕ → Data → Option Port
port_at i j d = option_and_then (λ id. option_map (port id) (field j number_of d)) (field i id_of d)

abbrev pub segment_of : Data → Option LinkName
segment_of d = option_map (λ q. Seg q.feature q.number) (port_at 1 2 d)

abbrev pub path_of : Data → Option LinkName
path_of d = option_and_then (λ q. option_map (Path q.feature q.number) (field 3 number_of d)) (port_at 1 2 d)

abbrev pub coincidence_of : Data → Option LinkName
coincidence_of d = option_and_then (λ q. option_map (λ v. Coin q.feature q.number v.feature v.number) (port_at 3 4 d)) (port_at 1 2 d)

abbrev pub association_of : Data → Option LinkName
association_of d = option_map Assoc (field 1 id_of d)

-- the name of a link, by its word
abbrev pub link_name_by : List ℕ → Data → Option LinkName
link_name_by word d =
    if bytes_eq word (codes "seg") then list_with 3 segment_of d
    else (if bytes_eq word (codes "path") then list_with 4 path_of d
    else (if bytes_eq word (codes "coin") then list_with 5 coincidence_of d
    else (if bytes_eq word (codes "assoc") then list_with 2 association_of d else None)))

abbrev pub link_name_of : Data → Option LinkName
link_name_of d = option_and_then (λ word. link_name_by word d) (field 0 as_str d)

-- a coordinate of a point
abbrev pub coordinate_of : Data → Option ℤ
coordinate_of d = kept in_range (whole d)

abbrev pub point : ℤ → ℤ → ℤ → Point
point x y z = record { x = x; y = y; z = z }

-- a point whose coordinates stand from the fourth place of a list on
abbrev pub point_of_link : Data → Option Point
point_of_link d =
    option_and_then (λ x. option_and_then (λ y. option_map (point x y) (field 5 coordinate_of d)) (field 4 coordinate_of d)) (field 3 coordinate_of d)

abbrev pub node : Port → Point → Node
node q p = record { port = q; at = p }

abbrev pub node_of_link : Data → Option Node
node_of_link d = option_and_then (λ q. option_map (node q) (point_of_link d)) (port_at 1 2 d)

abbrev pub tie : LinkName → Node → Bool → Bool → Tie
tie name to out back = record { name = name; to = to; out = out; back = back }

-- a link of a name to a node
abbrev pub tie_from : Data → Option Tie
tie_from d =
    option_and_then (λ name. option_and_then (λ to. option_and_then (λ out. option_map (tie name to out) (field 7 as_bool d)) (field 6 as_bool d)) (node_of_link d)) (field 0 link_name_of d)

abbrev pub tie_of : Data → Option Tie
tie_of = list_with 8 tie_from

-- ---- errors

abbrev pub error_named : List ℕ → Option ErrorKind
error_named text =
    if bytes_eq text (codes "Stacked") then Some kind.Stacked
    else (if bytes_eq text (codes "MissingJunction") then Some kind.MissingJunction
    else (if bytes_eq text (codes "NoRule") then Some kind.NoRule
    else (if bytes_eq text (codes "BadTerminal") then Some kind.BadTerminal
    else (if bytes_eq text (codes "MidspanTerminal") then Some kind.MidspanTerminal
    else (if bytes_eq text (codes "AssociationRule") then Some kind.AssociationRule else None)))))

abbrev pub error_kind_of : Data → Option ErrorKind
error_kind_of d = option_and_then error_named (as_str d)

abbrev pub topo_error : ErrorKind → Port → ℕ → TopoError
topo_error sort q assoc = record { kind = sort; feature = q.feature; number = q.number; assoc = assoc }

abbrev pub error_from : Data → Option TopoError
error_from d =
    option_and_then (λ sort. option_and_then (λ q. option_map (topo_error sort q) (field 3 base_of d)) (port_at 1 2 d)) (field 0 error_kind_of d)

abbrev pub error_of : Data → Option TopoError
error_of = list_with 4 error_from

-- ---- attributes

-- the number of the attribute with this name, if there is one, and its value
abbrev pub numbered_of : Catalog → List ℕ → Data → Option (Option ℕ × ℤ)
numbered_of S name d = option_map (λ z. (place_of name S.attributes, z)) (whole d)

abbrev pub each_numbered : Catalog → Members → Option (List (Option ℕ × ℤ))
each_numbered S no_members = Some []
each_numbered S (member k d ms) = option_and_then (λ pair. option_map (λ pairs. pair ∷ pairs) (each_numbered S ms)) (numbered_of S k d)

-- attributes that are known and in range, at most 8
abbrev pub taken : List (Option ℕ × ℤ) → Option (List (ℕ × ℤ))
taken pairs = if is_none (bad_place pairs) then Some (in_order (known pairs)) else None

abbrev pub attrs_of : Catalog → Data → Option (List (ℕ × ℤ))
attrs_of S d = option_and_then taken (option_and_then (each_numbered S) (as_object d))

-- ---- entries

-- the number of a kind by its name
abbrev pub kind_of : Catalog → Data → Option ℕ
kind_of S d = option_and_then (kind_named S) (as_str d)

abbrev pub tier_of : List Tier → Data → Option ℕ
tier_of T d = option_and_then (tier_named T) (as_str d)

abbrev pub controller : Port → ℕ → List ℕ → Controller
controller q tier subnet = record { port = q; tier = tier; subnet = subnet }

abbrev pub controller_from : List Tier → Port → Data → Option Controller
controller_from T q d = option_and_then (λ tier. option_map (controller q tier) (field 1 name_of d)) (field 0 (tier_of T) d)

-- the controller of a port: its tier and its subnetwork, or null for none
abbrev pub controller_of : List Tier → Port → Data → Option (Option Controller)
controller_of T q = or_null (list_with 2 (controller_from T q))

abbrev pub ids_of : Data → Option (List ℕ)
ids_of = list_of id_of

-- an entry's port and its kind
abbrev pub head : Port → ℕ → Head
head q sort = record { port = q; kind = sort }

abbrev pub head_of : Catalog → Data → Option Head
head_of S d = option_and_then (λ q. option_map (head q) (field 2 (kind_of S) d)) (port_at 0 1 d)

-- an entry's container, contents and structures
abbrev pub tail : ℕ → List ℕ → List ℕ → Tail
tail container contents structures = record { container = container; contents = contents; structures = structures }

abbrev pub tail_of : Data → Option Tail
tail_of d =
    option_and_then (λ container. option_and_then (λ contents. option_map (tail container contents) (field 8 ids_of d)) (field 7 ids_of d)) (field 6 base_of d)

abbrev pub class_of : Catalog → ℕ → Class
class_of S sort = option_map_or (λ k. k.class) (kind_at S sort) Structure

-- an entry has the class and the categories of its kind
abbrev pub spot : Catalog → Head → List (ℕ × ℤ) → List Tie → Option Controller → Tail → Spot
spot S h attrs ties controls t = record {
  port = h.port;
  kind = h.kind;
  class = class_of S h.kind;
  cats = cats_of S h.kind;
  attrs = attrs;
  ties = ties;
  controller = controls;
  container = t.container;
  contents = t.contents;
  structures = t.structures;
}

abbrev pub entry_from : Catalog → List Tier → Data → Option Spot
entry_from S T d =
    option_and_then (λ h. option_and_then (λ attrs. option_and_then (λ ties. option_and_then (λ controls. option_map (spot S h attrs ties controls) (tail_of d))
    (field 5 (controller_of T h.port) d)) (field 4 (list_of tie_of) d)) (field 3 (attrs_of S) d)) (head_of S d)

abbrev pub entry_of : Catalog → List Tier → Data → Option Spot
entry_of S T = list_with 9 (entry_from S T)

-- ---- changes

abbrev pub star : List Spot → List TopoError → Star
star spots errors = record { spots = spots; errors = errors }

abbrev pub star_from : Catalog → List Tier → Data → Option Star
star_from S T d = option_and_then (λ spots. option_map (star spots) (field 2 (list_of error_of) d)) (field 1 (list_of (entry_of S T)) d)

-- two nulls for a point that has no star any more, and else a star
abbrev pub star_part : Catalog → List Tier → Data → Option (Option Star)
star_part S T d =
    if is_some (field 1 as_null d) && is_some (field 2 as_null d) then Some None else option_map Some (star_from S T d)

abbrev pub difference : Point → Option Star → Difference
difference p s = (p, s)

abbrev pub change_from : Catalog → List Tier → Data → Option Difference
change_from S T d = option_and_then (λ p. option_map (difference p) (star_part S T d)) (field 0 point_of d)

abbrev pub change_of : Catalog → List Tier → Data → Option Difference
change_of S T = list_with 3 (change_from S T)

-- exactly this text
abbrev pub says : List ℕ → Data → Option ⊤
says text d = option_and_then (λ s. if bytes_eq s text then Some tt else None) (as_str d)
