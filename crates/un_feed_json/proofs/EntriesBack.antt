-- Entries, stars and changes are read back as they are shown.
use Rattle.std.proofs.Common.{◌≡◌, ℕ, ◌<◌, Bool, true, ◌&&◌, if◌then◌else◌, List, length, All, Option, None, Some, IfSome, nat_le, refl, ap, sym, ◌∙◌}
use Rattle.std.specs.Option.{option_map}
use Rattle.std.specs.List.{list_all}
use Rattle.std.proofs.lemmas.Bool.{le-leb}
use Rattle.serde_json.specs.Data.{string}
use Rattle.un_geom.specs.declared.point.Point.{Point}
use Rattle.un_schema.specs.Catalog.{Catalog}
use Rattle.un_schema.specs.Names.{IsName, is_name_byte}
use Rattle.un_tiers.specs.declared.tier.Tier.{Tier}
use Rattle.un_defs.specs.declared.assoc.Controller.{Controller}
use Rattle.un_defs.specs.declared.port.Port.{Port}
use Rattle.un_defs.specs.declared.star.Spot.{Spot}
use Rattle.un_defs.specs.declared.star.Star.{Star}
use Rattle.un_feed.specs.Differences.{Difference}
use Rattle.un_json.specs.Forms.{name_of, list_of}
use Rattle.un_feed_json.specs.Shown as shown
use Rattle.un_values.specs.Values.{list}
use Rattle.un_feed_json.specs.Forms.{controller, controller_of, head, head_of, kind_of, tail, tail_of, spot, entry_of, tie_of, error_of, star, star_from, change_of, difference, field}
use Rattle.un_feed_json.specs.Sound.{IsSetup, IsEntry, IsStar, IsChange, IsLink, IsError}
use Rattle.un_feed_json.proofs.PartsBack.{then_some, map_some, point_back, port_back, tie_back, error_back, base_back, list_back, ids_back}
use Rattle.un_feed_json.proofs.NamesBack.{kind_back, tier_back}
use Rattle.un_feed_json.proofs.AttrsBack.{attrs_back, true_is}

all_three : (x y z : Bool) → x ≡ true → y ≡ true → z ≡ true → (x && y && z) ≡ true
all_three x y z a b c = rw (a, b, c) refl

name_back : (s : List ℕ) → IsName s → name_of (string s) ≡ Some s
name_back s h =
    ap (λ b. if b then Some s else None) (all_three (nat_le 1 (length s)) (nat_le (length s) 32) (list_all is_name_byte s) (le-leb 1 (length s) h.some) (le-leb (length s) 32 h.short) (true_is h.bytes))

controller_back : (S : Catalog) (T : List Tier) → IsSetup S T → (q : Port) (c : Option Controller) → IfSome c (λ k. k.tier < length T) → IfSome c (λ k. (k.port ≡ q) × IsName k.subnet)
    → controller_of T q (shown.controller T c) ≡ Some c
controller_back S T setup q None known h = refl
controller_back S T setup q (Some c) known h =
    map_some Some _ c
    (then_some _ _ c.tier c (tier_back T setup.tiers c.tier known)
    (map_some (controller q c.tier) _ c.subnet (name_back c.subnet h.1) ∙ ap (λ p. Some (controller p c.tier c.subnet)) (sym h.0)))

module _ (S : Catalog) (T : List Tier) (setup : IsSetup S T) where
  head_back : (s : Spot) → IsEntry S T s → head_of S (shown.entry S T s) ≡ Some (head s.port s.kind)
  head_back s h =
      then_some (λ q. option_map (head q) (field 2 (kind_of S) (shown.entry S T s))) _ s.port (head s.port s.kind)
      (port_back 0 1 (shown.entry S T s) s.port.feature s.port.number h.port refl refl)
      (map_some (head s.port) _ s.kind (kind_back S setup.catalog s.kind h.names.kind))

  tail_back : (s : Spot) → IsEntry S T s → tail_of (shown.entry S T s) ≡ Some (tail s.container s.contents s.structures)
  tail_back s h =
      then_some _ _ s.container _ (base_back s.container h.container)
      (then_some _ _ s.contents _ (ids_back s.contents h.contents) (map_some (tail s.container s.contents) _ s.structures (ids_back s.structures h.structures)))

  same_spot : (s : Spot) → IsEntry S T s → spot S (head s.port s.kind) s.attrs s.ties s.controller (tail s.container s.contents s.structures) ≡ s
  same_spot s h i = record s { class = sym h.class i; cats = sym h.cats i }

  pub entry_back : (s : Spot) → IsEntry S T s → entry_of S T (shown.entry S T s) ≡ Some s
  entry_back s h =
      then_some _ _ (head s.port s.kind) _ (head_back s h)
      (then_some _ _ s.attrs _ (attrs_back S setup.catalog s.attrs h.attrs h.names.attributes)
      (then_some _ _ s.ties _ (list_back tie_of shown.link IsLink tie_back s.ties h.links)
      (then_some _ _ s.controller _ (controller_back S T setup s.port s.controller h.names.tier h.controller)
      (map_some (spot S (head s.port s.kind) s.attrs s.ties s.controller) _ (tail s.container s.contents s.structures) (tail_back s h) ∙ ap Some (same_spot s h)))))

  star_back : (p : Point) (s : Star) → IsStar S T s → star_from S T (shown.change_at S T p (Some s)) ≡ Some s
  star_back p s h =
      then_some _ _ s.spots _ (list_back (entry_of S T) (shown.entry S T) (IsEntry S T) entry_back s.spots h.entries)
      (map_some (star s.spots) _ s.errors (list_back error_of shown.error IsError error_back s.errors h.errors))

  change_back : (d : Difference) → IsChange S T d → change_of S T (shown.change S T d) ≡ Some d
  change_back (p, None) h = then_some _ _ p _ (point_back p h.at) (map_some (difference p) _ None refl)
  change_back (p, Some s) h = then_some _ _ p _ (point_back p h.at) (map_some (difference p) _ (Some s) (map_some Some _ s (star_back p s h.star)))

  pub changes_back : (ds : List Difference) → All (IsChange S T) ds → list_of (change_of S T) (list (shown.change S T) ds) ≡ Some ds
  changes_back ds h = list_back (change_of S T) (shown.change S T) (IsChange S T) change_back ds h
