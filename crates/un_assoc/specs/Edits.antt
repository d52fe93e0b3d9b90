-- The associations and controllers that an edit leaves.
use Rattle.std.specs.Prelude.{◌≡◌, ◌≢◌, ℕ, List, map, Some, None}
use Rattle.un_schema.specs.Catalog.{Catalog}
use Rattle.un_tiers.specs.declared.tier.Tier.{Tier}
use Rattle.un_defs.specs.declared.edit.Edit.{Edit}
use Rattle.un_defs.specs.declared.refusal.Refusal.{Refusal}
use Rattle.un_defs.specs.declared.refusal.Refusal.TheVariants.{Memory}
use Rattle.un_defs.specs.Features.{Features}
use Rattle.un_defs.specs.Change.{Setting, Next, changed}
use Rattle.un_assoc.specs.Links.{Links, with_links}
use Rattle.un_assoc.specs.Refusals.{refusal_of}

-- the names of the schema and of the tiers
abbrev pub setting_of : Catalog → List Tier → Setting
setting_of S tiers = record { catalog = S; tiers = map (λ t. t.name) tiers }

-- the id that a new association gets; these edits give no other
abbrev pub next_of : ℕ → Next
next_of association = record { feature = 0; association = association; moment = 0 }

-- the network whose associations and controllers were the first has the second once the edit is made
abbrev pub IsMade : Setting → ℕ → Features → Links → Edit → Links → Type 0
IsMade T next F before e after = with_links F after ≡ changed T (next_of next) (with_links F before) e

-- nothing speaks against the edit
abbrev pub IsGood : Setting → Features → Links → Edit → Type 0
IsGood T F before e = refusal_of T (with_links F before) e ≡ None

-- this is the refusal that is due, unless there was no memory
abbrev pub IsDue : Setting → Features → Links → Edit → Refusal → Type 0
IsDue T F before e refusal = refusal ≢ Memory → refusal_of T (with_links F before) e ≡ Some refusal

-- ---- in the setting of a schema and tiers

-- the edit is made there
abbrev pub IsMadeIn : Catalog → List Tier → ℕ → Features → Links → Edit → Links → Type 0
IsMadeIn S tiers next F before e after = IsMade (setting_of S tiers) next F before e after

-- the edit is made there, and gives no id
abbrev pub IsMadeWithAnyId : Catalog → List Tier → Features → Links → Edit → Links → Type 0
IsMadeWithAnyId S tiers F before e after = (next : ℕ) → IsMade (setting_of S tiers) next F before e after

-- nothing speaks against the edit there
abbrev pub IsGoodIn : Catalog → List Tier → Features → Links → Edit → Type 0
IsGoodIn S tiers F before e = IsGood (setting_of S tiers) F before e

-- this is the refusal that is due there
abbrev pub IsDueIn : Catalog → List Tier → Features → Links → Edit → Refusal → Type 0
IsDueIn S tiers F before e refusal = IsDue (setting_of S tiers) F before e refusal

-- ---- in any setting, for edits that look up no names

-- the edit is made
abbrev pub IsMadeInAnySetting : ℕ → Features → Links → Edit → Links → Type 0
IsMadeInAnySetting next F before e after = (T : Setting) → IsMade T next F before e after

-- the edit is made, and gives no id
abbrev pub IsMadeInAnySettingWithAnyId : Features → Links → Edit → Links → Type 0
IsMadeInAnySettingWithAnyId F before e after = (T : Setting) (next : ℕ) → IsMade T next F before e after

-- nothing speaks against the edit
abbrev pub IsGoodInAnySetting : Features → Links → Edit → Type 0
IsGoodInAnySetting F before e = (T : Setting) → IsGood T F before e

-- this is the refusal that is due
abbrev pub IsDueInAnySetting : Features → Links → Edit → Refusal → Type 0
IsDueInAnySetting F before e refusal = (T : Setting) → IsDue T F before e refusal

-- ---- in any network, for edits that look at associations alone

-- the edit is made, and gives no id
abbrev pub IsMadeInAnyNetwork : Links → Edit → Links → Type 0
IsMadeInAnyNetwork before e after = (T : Setting) (next : ℕ) (F : Features) → IsMade T next F before e after

-- nothing speaks against the edit
abbrev pub IsGoodInAnyNetwork : Links → Edit → Type 0
IsGoodInAnyNetwork before e = (T : Setting) (F : Features) → IsGood T F before e

-- this is the refusal that is due
abbrev pub IsDueInAnyNetwork : Links → Edit → Refusal → Type 0
IsDueInAnyNetwork before e refusal = (T : Setting) (F : Features) → IsDue T F before e refusal
