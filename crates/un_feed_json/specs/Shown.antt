-- The values of pages of changes and of stars. Each is printed as the compact text of its value.
use Rattle.std.specs.Prelude.{ℕ, ℤ, List, [], ◌∷◌, map, codes, Option, None, Some}
use Rattle.std.specs.Option.{option_copied}
use denote.Ref.{Bor}
use Rattle.serde_json.specs.Data.{Data, null, boolean, string}
use Rattle.serde_json.specs.Written.{compact_text}
use Rattle.un_geom.specs.declared.point.Point.{Point}
use Rattle.un_schema.specs.Catalog.{Catalog}
use Rattle.un_tiers.specs.declared.tier.Tier.{Tier}
use Rattle.un_defs.specs.declared.assoc.Controller.{Controller}
use Rattle.un_defs.specs.declared.link.LinkName.{LinkName}
use Rattle.un_defs.specs.declared.link.LinkName.TheVariants.{Seg, Path, Coin, Assoc}
use Rattle.un_defs.specs.declared.link.Tie.{Tie}
use Rattle.un_defs.specs.declared.star.ErrorKind.{ErrorKind}
use Rattle.un_defs.specs.declared.star.ErrorKind.TheVariants as kind
use Rattle.un_defs.specs.declared.star.TopoError.{TopoError}
use Rattle.un_defs.specs.declared.star.Spot.{Spot}
use Rattle.un_defs.specs.declared.star.Star.{Star}
use Rattle.un_feed.specs.declared.changes.Changes.{Changes}
use Rattle.un_feed.specs.Differences.{Difference, ChangesShown, changes_shown}
use Rattle.un_feed_json.specs.Names.{named, kind_name, tier_name}
use Rattle.un_values.specs.Values.{count, counts, whole, list, tuple, object_of, attribute}

-- ---- parts of a star

abbrev pub point : Point → Data
point p = tuple (whole p.x ∷ whole p.y ∷ whole p.z ∷ [])

-- a link is named by the features that make it
abbrev pub link_name : LinkName → Data
link_name (Seg line index) = tuple (string (codes "seg") ∷ count line ∷ count index ∷ [])
link_name (Path device low high) = tuple (string (codes "path") ∷ count device ∷ count low ∷ count high ∷ [])
link_name (Coin junction terminal line vertex) =
    tuple (string (codes "coin") ∷ count junction ∷ count terminal ∷ count line ∷ count vertex ∷ [])
link_name (Assoc id) = tuple (string (codes "assoc") ∷ count id ∷ [])

-- a link: its name, the port and the point to which it leads, and whether flow leaves and comes in through it
abbrev pub link : Tie → Data
link t = tuple (
    link_name t.name ∷ count t.to.port.feature ∷ count t.to.port.number ∷ whole t.to.at.x ∷ whole t.to.at.y ∷ whole t.to.at.z
    ∷ boolean t.out ∷ boolean t.back ∷ [])

abbrev pub error_text : ErrorKind → List ℕ
error_text kind.Stacked = codes "Stacked"
error_text kind.MissingJunction = codes "MissingJunction"
error_text kind.NoRule = codes "NoRule"
error_text kind.BadTerminal = codes "BadTerminal"
error_text kind.MidspanTerminal = codes "MidspanTerminal"
error_text kind.AssociationRule = codes "AssociationRule"

abbrev pub error : TopoError → Data
error e = tuple (string (error_text e.kind) ∷ count e.feature ∷ count e.number ∷ count e.assoc ∷ [])

abbrev pub attributes : Catalog → List (ℕ × ℤ) → Data
attributes S attrs = object_of (map attribute (named S attrs))

-- a controller by its tier and its subnetwork; its port is that of its entry
abbrev pub controller : List Tier → Option Controller → Data
controller T None = null
controller T (Some c) = tuple (string (tier_name T c.tier) ∷ string c.subnet ∷ [])

abbrev pub entry : Catalog → List Tier → Spot → Data
entry S T s = tuple (
    count s.port.feature ∷ count s.port.number ∷ string (kind_name S s.kind) ∷ attributes S s.attrs ∷ list link s.ties
    ∷ controller T s.controller ∷ count s.container ∷ counts s.contents ∷ counts s.structures ∷ [])

-- ---- changes

-- a point with nulls where it has no star any more, and else with its star
abbrev pub removed : Point → Data
removed p = tuple (point p ∷ null ∷ null ∷ [])

abbrev pub change_at : Catalog → List Tier → Point → Option Star → Data
change_at S T p None = removed p
change_at S T p (Some star) = tuple (point p ∷ list (entry S T) star.spots ∷ list error star.errors ∷ [])

abbrev pub change : Catalog → List Tier → Difference → Data
change S T d = change_at S T d.0 d.1

-- a point, or null for none
abbrev pub place : Option Point → Data
place None = null
place (Some p) = point p

-- ---- replies

abbrev pub changes_value : Catalog → List Tier → ChangesShown → Data
changes_value S T t = object_of (
    (codes "after", place t.after) ∷ (codes "changes", list (change S T) t.page.pairs) ∷ (codes "more", boolean t.page.more)
    ∷ (codes "ok", string (codes "changes")) ∷ (codes "since", count t.since) ∷ (codes "upto", count t.upto) ∷ (codes "version", count t.version) ∷ [])

-- the star of a point, or null if it has none
abbrev pub star_or_null : Catalog → List Tier → Point → Option Star → Data
star_or_null S T p None = null
star_or_null S T p (Some star) = change_at S T p (Some star)

abbrev pub star_value : Catalog → List Tier → Point → Option Star → ℕ → Data
star_value S T p star version = object_of (
    (codes "ok", string (codes "star")) ∷ (codes "star", star_or_null S T p star) ∷ (codes "version", count version) ∷ [])

-- the reply to a page: how many points the copy has, and its version
abbrev pub followed_value : ℕ → ℕ → Data
followed_value points version = object_of (
    (codes "ok", string (codes "follow")) ∷ (codes "points", count points) ∷ (codes "version", count version) ∷ [])

-- ---- texts

abbrev pub changes_text : Catalog → List Tier → ChangesShown → List ℕ
changes_text S T t = compact_text (changes_value S T t)

abbrev pub star_text : Catalog → List Tier → Point → Option Star → ℕ → List ℕ
star_text S T p star version = compact_text (star_value S T p star version)

-- the same of changes and of a star as they are handed in
abbrev pub text_of_changes : Catalog → List Tier → Changes → List ℕ
text_of_changes S T changes = changes_text S T (changes_shown changes)

abbrev pub text_of_star : Catalog → List Tier → Point → Option (Bor Star) → ℕ → List ℕ
text_of_star S T p star version = star_text S T p (option_copied star) version

abbrev pub followed_text : ℕ → ℕ → List ℕ
followed_text points version = compact_text (followed_value points version)
