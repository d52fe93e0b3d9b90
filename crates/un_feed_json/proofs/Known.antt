-- What is read names kinds, attributes and tiers that exist.
use Rattle.std.proofs.Common.{◌≡◌, ℕ, ◌<◌, ℤ, Bool, true, false, ◌&&◌, List, [], ◌∷◌, length, map, All, Option, None, Some, IfSome, option_and_then, if◌then◌else◌, refl, sym, subst}
use Rattle.std.specs.Prelude.{position, is_some, is_none}
use Rattle.std.specs.Option.{option_map}
use Rattle.std.proofs.lemmas.List.Elements.{All-nil, All-cons, All-head, All-tail}
use Rattle.std.proofs.lemmas.List.Quantifiers.{position-Some}
use Rattle.serde_json.specs.Data.{Data, Items, no_items, item, Members, no_members, member}
use Rattle.serde_json.specs.Find.{at, as_str, as_null, as_array, as_object}
use Rattle.un_attrs.specs.Attributes.{bad_place, known, in_order}
use Rattle.un_attrs.proofs.PairLemmas.{All-in_order}
use Rattle.un_schema.specs.Catalog.{Catalog, kind_named, place_of, same_text}
use Rattle.un_tiers.specs.declared.tier.Tier.{Tier}
use Rattle.un_tiers.specs.Lists.{tier_named}
use Rattle.un_defs.specs.declared.assoc.Controller.{Controller}
use Rattle.un_defs.specs.declared.port.Port.{Port}
use Rattle.un_defs.specs.declared.star.Spot.{Spot}
use Rattle.un_defs.specs.declared.star.Star.{Star}
use Rattle.un_feed.specs.declared.changes.Change.{Change}
use Rattle.un_feed.specs.Differences.{Difference, change_shown}
use Rattle.un_json.specs.Forms.{whole, each_item, list_of, name_of, point_of}
use Rattle.un_feed_json.specs.Fits.{HasNames, StarHasNames, ChangeHasNames, HaveNames}
use Rattle.un_feed_json.specs.Forms.{field, list_with, has_length, kind_of, tier_of, numbered_of, each_numbered, taken, attrs_of, controller, controller_from, controller_of, head, head_of, tail_of, tie_of, entry_from, entry_of, error_of, star, star_from, star_part, change_from, change_of, difference, port_at, spot}
use Rattle.un_feed_json.specs.declared.read.entry.Head.{Head}

-- ---- values that are there

from_and_then : {A B : Type 0} (f : A → Option B) (o : Option A) (y : B) → option_and_then f o ≡ Some y → (x : A) × (o ≡ Some x) × (f x ≡ Some y)
from_and_then f None y e = let n : None ≡ Some y = e in cc
from_and_then f (Some x) y e = (x, refl, e)

pub from_map : {A B : Type 0} (f : A → B) (o : Option A) (y : B) → option_map f o ≡ Some y → (x : A) × (o ≡ Some x) × (f x ≡ y)
from_map f None y e = let n : None ≡ Some y = e in cc
from_map f (Some x) y e = let h : Some (f x) ≡ Some y = e in (x, refl, cc)

from_if : {A : Type 0} (b : Bool) (o : Option A) (y : A) → (if b then o else None) ≡ Some y → o ≡ Some y
from_if true o y e = e
from_if false o y e = let n : None ≡ Some y = e in cc

from_field : {A : Type 0} (i : ℕ) (form : Data → Option A) (d : Data) (y : A) → field i form d ≡ Some y → (e : Data) × (form e ≡ Some y)
from_field i form d y is = let found = from_and_then form (at i d) y is in (found.0, found.2)

-- ---- numbers of names

position_inside : {A : Type 0} (p : A → Bool) (xs : List A) (i : ℕ) → position p xs ≡ Some i → i < length xs
position_inside p [] i e = let n : None ≡ Some i = e in cc
position_inside p (x ∷ xs) i e = (position-Some p (x ∷ xs) i x e).0

kind_known : (S : Catalog) (d : Data) (k : ℕ) → kind_of S d ≡ Some k → k < length S.kinds
kind_known S d k is = let found = from_and_then (kind_named S) (as_str d) k is in position_inside (λ kind. same_text found.0 kind.name) S.kinds k found.2

tier_known : (T : List Tier) (d : Data) (t : ℕ) → tier_of T d ≡ Some t → t < length T
tier_known T d t is = let found = from_and_then (tier_named T) (as_str d) t is in position_inside (λ tier. same_text found.0 tier.name) T t found.2

-- ---- attributes

abbrev AreKnown : Catalog → List (ℕ × ℤ) → Type 0
AreKnown S attrs = All (λ pair. pair.0 < length S.attributes) attrs

known_more : (S : Catalog) (o : Option ℕ) (z : ℤ) (pairs : List (Option ℕ × ℤ)) → ((n : ℕ) → o ≡ Some n → n < length S.attributes) → AreKnown S (known pairs) → AreKnown S (known ((o, z) ∷ pairs))
known_more S None z pairs here rest = rest
known_more S (Some n) z pairs here rest = All-cons (λ pair. pair.0 < length S.attributes) (n, z) (known pairs) (here n refl) rest

numbered_known : (S : Catalog) (ms : Members) (pairs : List (Option ℕ × ℤ)) → each_numbered S ms ≡ Some pairs → AreKnown S (known pairs)
numbered_known S no_members pairs is = let h : [] ≡ pairs = cc in subst (λ ps. AreKnown S (known ps)) h (All-nil (λ (pair : ℕ × ℤ). pair.0 < length S.attributes))
numbered_known S (member k d ms) pairs is =
    let first = from_and_then (λ pair. option_map (λ ps. pair ∷ ps) (each_numbered S ms)) (numbered_of S k d) pairs is in
    let rest = from_map (λ ps. first.0 ∷ ps) (each_numbered S ms) pairs first.2 in
    let one = from_map (λ z. (place_of k S.attributes, z)) (whole d) first.0 first.1 in
    subst (λ ps. AreKnown S (known ps)) rest.2
    (subst (λ p. AreKnown S (known (p ∷ rest.0))) one.2
    (known_more S (place_of k S.attributes) one.0 rest.0 (λ n e. position_inside (λ name. same_text k name) S.attributes n e) (numbered_known S ms rest.0 rest.1)))

attrs_known : (S : Catalog) (d : Data) (attrs : List (ℕ × ℤ)) → attrs_of S d ≡ Some attrs → AreKnown S attrs
attrs_known S d attrs is =
    let pairs = from_and_then taken (option_and_then (each_numbered S) (as_object d)) attrs is in
    let members = from_and_then (each_numbered S) (as_object d) pairs.0 pairs.1 in
    let same : Some (in_order (known pairs.0)) ≡ Some attrs = from_if (is_none (bad_place pairs.0)) (Some (in_order (known pairs.0))) attrs pairs.2 in
    let h : in_order (known pairs.0) ≡ attrs = cc in
    subst (AreKnown S) h (All-in_order (λ pair. pair.0 < length S.attributes) (known pairs.0) (numbered_known S members.0 pairs.0 members.2))

-- ---- entries

controller_known : (T : List Tier) (q : Port) (d : Data) (c : Option Controller) → controller_of T q d ≡ Some c → IfSome c (λ k. k.tier < length T)
controller_known T q d c is = go (is_some (as_null d)) c is
  where
    go : (b : Bool) (c : Option Controller) → (if b then Some None else option_map Some (list_with 2 (controller_from T q) d)) ≡ Some c → IfSome c (λ k. k.tier < length T)
    go true None e = tt
    go true (Some k) e = let n : None ≡ Some k = cc in cc
    go false c e =
        let one = from_map Some (list_with 2 (controller_from T q) d) c e in
        let parts = from_if (has_length 2 d) (controller_from T q d) one.0 one.1 in
        let tier = from_and_then (λ t. option_map (controller q t) (field 1 name_of d)) (field 0 (tier_of T) d) one.0 parts in
        let subnet = from_map (controller q tier.0) (field 1 name_of d) one.0 tier.2 in
        let place = from_field 0 (tier_of T) d tier.0 tier.1 in
        subst (λ o. IfSome o (λ k. k.tier < length T)) one.2 (subst (λ k. k.tier < length T) subnet.2 (tier_known T place.0 tier.0 place.1))

entry_from_known : (S : Catalog) (T : List Tier) (d : Data) (s : Spot) → entry_from S T d ≡ Some s → HasNames S T s
entry_from_known S T d s is =
    let h = from_and_then (λ x. option_and_then (λ attrs. option_and_then (λ ties. option_and_then (λ controls. option_map (spot S x attrs ties controls) (tail_of d))
    (field 5 (controller_of T x.port) d)) (field 4 (list_of tie_of) d)) (field 3 (attrs_of S) d)) (head_of S d) s is in
    let attrs = from_and_then (λ attrs. option_and_then (λ ties. option_and_then (λ controls. option_map (spot S h.0 attrs ties controls) (tail_of d))
    (field 5 (controller_of T h.0.port) d)) (field 4 (list_of tie_of) d)) (field 3 (attrs_of S) d) s h.2 in
    let ties = from_and_then (λ ties. option_and_then (λ controls. option_map (spot S h.0 attrs.0 ties controls) (tail_of d))
    (field 5 (controller_of T h.0.port) d)) (field 4 (list_of tie_of) d) s attrs.2 in
    let controls = from_and_then (λ controls. option_map (spot S h.0 attrs.0 ties.0 controls) (tail_of d)) (field 5 (controller_of T h.0.port) d) s ties.2 in
    let last = from_map (spot S h.0 attrs.0 ties.0 controls.0) (tail_of d) s controls.2 in
    let q = from_and_then (λ q. option_map (head q) (field 2 (kind_of S) d)) (port_at 0 1 d) h.0 h.1 in
    let kind = from_map (head q.0) (field 2 (kind_of S) d) h.0 q.2 in
    let kind_place = from_field 2 (kind_of S) d kind.0 kind.1 in
    let attrs_place = from_field 3 (attrs_of S) d attrs.0 attrs.1 in
    let controls_place = from_field 5 (controller_of T h.0.port) d controls.0 controls.1 in
    subst (HasNames S T) last.2 (record {
      kind = subst (λ x. x.kind < length S.kinds) kind.2 (kind_known S kind_place.0 kind.0 kind_place.1);
      attributes = attrs_known S attrs_place.0 attrs.0 attrs_place.1;
      tier = controller_known T h.0.port controls_place.0 controls.0 controls_place.1;
    })

entry_known : (S : Catalog) (T : List Tier) (d : Data) (s : Spot) → entry_of S T d ≡ Some s → HasNames S T s
entry_known S T d s is = entry_from_known S T d s (from_if (has_length 9 d) (entry_from S T d) s is)

-- ---- lists

each_known : {A : Type 0} (f : Data → Option A) (P : A → Type 0) → ((d : Data) (x : A) → f d ≡ Some x → P x) → (ds : Items) (xs : List A) → each_item f ds ≡ Some xs → All P xs
each_known f P one no_items xs is = let h : [] ≡ xs = cc in subst (All P) h (All-nil P)
each_known f P one (item d ds) xs is =
    let first = from_and_then (λ x. option_map (λ ys. x ∷ ys) (each_item f ds)) (f d) xs is in
    let rest = from_map (λ ys. first.0 ∷ ys) (each_item f ds) xs first.2 in
    subst (All P) rest.2 (All-cons P first.0 rest.0 (one d first.0 first.1) (each_known f P one ds rest.0 rest.1))

list_known : {A : Type 0} (f : Data → Option A) (P : A → Type 0) → ((d : Data) (x : A) → f d ≡ Some x → P x) → (d : Data) (xs : List A) → list_of f d ≡ Some xs → All P xs
list_known f P one d xs is = let found = from_and_then (each_item f) (as_array d) xs is in each_known f P one found.0 xs found.2

-- ---- changes

star_known : (S : Catalog) (T : List Tier) (d : Data) (s : Star) → star_from S T d ≡ Some s → StarHasNames S T s
star_known S T d s is =
    let spots = from_and_then (λ spots. option_map (star spots) (field 2 (list_of error_of) d)) (field 1 (list_of (entry_of S T)) d) s is in
    let errors = from_map (star spots.0) (field 2 (list_of error_of) d) s spots.2 in
    let place = from_field 1 (list_of (entry_of S T)) d spots.0 spots.1 in
    subst (StarHasNames S T) errors.2 (list_known (entry_of S T) (HasNames S T) (entry_known S T) place.0 spots.0 place.1)

part_known : (S : Catalog) (T : List Tier) (d : Data) (o : Option Star) → star_part S T d ≡ Some o → IfSome o (StarHasNames S T)
part_known S T d o is = go (is_some (field 1 as_null d) && is_some (field 2 as_null d)) o is
  where
    go : (b : Bool) (o : Option Star) → (if b then Some None else option_map Some (star_from S T d)) ≡ Some o → IfSome o (StarHasNames S T)
    go true None e = tt
    go true (Some s) e = let n : None ≡ Some s = cc in cc
    go false o e = let one = from_map Some (star_from S T d) o e in subst (λ p. IfSome p (StarHasNames S T)) one.2 (star_known S T d one.0 one.1)

change_known : (S : Catalog) (T : List Tier) (d : Data) (c : Difference) → change_of S T d ≡ Some c → ChangeHasNames S T c
change_known S T d c is =
    let inside = from_if (has_length 3 d) (change_from S T d) c is in
    let p = from_and_then (λ p. option_map (difference p) (star_part S T d)) (field 0 point_of d) c inside in
    let part = from_map (difference p.0) (star_part S T d) c p.2 in
    subst (ChangeHasNames S T) part.2 (part_known S T d part.0 part.1)

-- the changes of a page
pub changes_known : (S : Catalog) (T : List Tier) (d : Data) (cs : List Difference) → list_of (change_of S T) d ≡ Some cs → All (ChangeHasNames S T) cs
changes_known S T d cs is = list_known (change_of S T) (ChangeHasNames S T) (change_known S T) d cs is

-- so are those of what the changes show
pub pairs_known : (S : Catalog) (T : List Tier) (d : Data) (pairs : List Change) → Some (map change_shown pairs) ≡ list_of (change_of S T) d → HaveNames S T pairs
pairs_known S T d pairs is = from_mapped change_shown (ChangeHasNames S T) pairs (changes_known S T d (map change_shown pairs) (sym is))
  where
    from_mapped : {A B : Type 0} (f : A → B) (P : B → Type 0) (xs : List A) → All P (map f xs) → All (λ x. P (f x)) xs
    from_mapped f P [] h = All-nil (λ x. P (f x))
    from_mapped f P (x ∷ xs) h = All-cons (λ y. P (f y)) x xs (All-head P (f x) (map f xs) h) (from_mapped f P xs (All-tail P (f x) (map f xs) h))

-- the entry's kind exists
pub head_known : (S : Catalog) (d : Data) (h : Head) → Some h ≡ head_of S d → h.kind < length S.kinds
head_known S d h is =
    let q = from_and_then (λ q. option_map (head q) (field 2 (kind_of S) d)) (port_at 0 1 d) h (sym is) in
    let kind = from_map (head q.0) (field 2 (kind_of S) d) h q.2 in
    let place = from_field 2 (kind_of S) d kind.0 kind.1 in
    subst (λ x. x.kind < length S.kinds) kind.2 (kind_known S place.0 kind.0 place.1)
