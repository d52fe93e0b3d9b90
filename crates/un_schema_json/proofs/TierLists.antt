-- Lists of values as tiers, read one after the other.
use Rattle.std.proofs.Common.{◌≡◌, List, [], ◌∷◌, ◌++◌, map, None, Some, sym}
use Rattle.std.proofs.lemmas.List.{map-append}
use Rattle.serde_json.specs.declared.value.Value.{Value}
use Rattle.serde_json.specs.View.{view, items_view}
use Rattle.un_tiers.specs.declared.raw.RawTier.{RawTier}
use Rattle.un_tiers.specs.Raw.{written_tier}
use Rattle.un_json.specs.Forms.{each_item}
use Rattle.un_json.proofs.Items.{HasRead, read_on as read_one_on, read_none as read_one_none, read_all as read_each}
use Rattle.un_schema_json.specs.Parts.{tier_of}

-- the tiers that are read, as they are written
abbrev pub ReadTiers : List RawTier → List Value → List Value → Type 0
ReadTiers tiers rest all = HasRead tier_of (map written_tier tiers) rest all

-- one more value is a tier
pub read_on : (tiers : List RawTier) (v : Value) (t : RawTier) (rest all : List Value) → ReadTiers tiers (v ∷ rest) all
    → Some (written_tier t) ≡ tier_of (view v) → ReadTiers (tiers ++ t ∷ []) rest all
read_on tiers v t rest all h is =
    rw (map-append written_tier tiers (t ∷ [])) (read_one_on tier_of (map written_tier tiers) v (written_tier t) rest all h (sym is))

-- one value is none
pub read_none : (tiers : List RawTier) (v : Value) (rest all : List Value) → ReadTiers tiers (v ∷ rest) all → None ≡ tier_of (view v)
    → None ≡ each_item tier_of (items_view all)
read_none tiers v rest all h is = sym (read_one_none tier_of (map written_tier tiers) v rest all h (sym is))

-- all values are tiers
pub read_all : (tiers : List RawTier) (all : List Value) → ReadTiers tiers [] all → Some (map written_tier tiers) ≡ each_item tier_of (items_view all)
read_all tiers all h = sym (read_each tier_of (map written_tier tiers) all h)
