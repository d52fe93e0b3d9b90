-- Texts of which no byte is escaped.
use Rattle.std.proofs.Common.{◌≡◌, ℕ, ◌≤◌, ◌<◌, Bool, true, false, List, [], ◌∷◌, ◌++◌, refl, ap, ap₂, sym, ◌∙◌, arith, length, lit≤, Some, None, if◌then◌else◌}
use Rattle.std.proofs.lemmas.Bool.{true≢false, leb-true, and_parts, agree_below_at}
use Rattle.std.specs.List.{list_all}
use Rattle.json.specs.Print.{escape, escape_byte, quoted}
use Rattle.json.proofs.Printed.Strings.{escape_byte_plain}
use Rattle.serde_json.proofs.OnLiterals.{serde_json_on_literals}
use Rattle.un_schema.specs.Names.{IsName, is_name, is_name_byte}
use Rattle.un_schema.specs.Places.{place_text}
use Rattle.un_schema.specs.declared.place.Place.{Place}
use Rattle.un_schema.specs.declared.place.Place.TheVariants as place
use Rattle.un_defs.specs.declared.refusal.Limit.{Limit}
use Rattle.un_defs.specs.declared.refusal.Limit.TheVariants as limit
use Rattle.un_ask.specs.Words.{edit_text}
use Rattle.un_ask.specs.declared.word.EditWord.{EditWord}
use Rattle.un_ask.specs.declared.word.EditWord.TheVariants as word
use Rattle.un_replies.specs.Refusals.{limit_text}

-- no byte of a name is below 45
too_small : (x : ℕ) → is_name_byte x ≡ true → x < 45 → ⊥
too_small x h l = true≢false (sym h ∙ agree_below_at is_name_byte (λ _. false) 45 x refl l)

name_byte : (x : ℕ) → is_name_byte x ≡ true → escape_byte x ≡ x ∷ []
name_byte x h =
    let least = too_small x h in
    escape_byte_plain x (λ e. omega arith) (λ e. true≢false (sym h ∙ ap is_name_byte e)) (omega arith)

name_bytes : (xs : List ℕ) → list_all is_name_byte xs ≡ true → escape xs ≡ xs
name_bytes [] h = refl
name_bytes (x ∷ xs) h = let parts = and_parts _ _ h in ap₂ (λ a b. a ++ b) (name_byte x parts.0) (name_bytes xs parts.1)

-- a text is put in quotes as it is
pub quoted_plain : (text : List ℕ) → escape text ≡ text → quoted text ≡ 34 ∷ (text ++ 34 ∷ [])
quoted_plain text e = ap (λ t. 34 ∷ (t ++ 34 ∷ [])) e

-- so is a name
pub name_plain : (name : List ℕ) → IsName name → escape name ≡ name
name_plain name h = name_bytes name h.bytes

-- so is a place
pub place_text_plain : (x : Place) → escape (place_text x) ≡ place_text x
unfolding serde_json_on_literals
place_text_plain place.Whole = refl
place_text_plain place.Line = refl
place_text_plain place.Schema = refl
place_text_plain place.Attributes = refl
place_text_plain place.Categories = refl
place_text_plain place.Configs = refl
place_text_plain place.Kinds = refl
place_text_plain place.Rules = refl
place_text_plain place.Tiers = refl
place_text_plain place.Do = refl
place_text_plain place.Ask = refl
place_text_plain place.Extra = refl
place_text_plain place.Kind = refl
place_text_plain place.Points = refl
place_text_plain place.Attrs = refl
place_text_plain place.Flow = refl
place_text_plain place.Ends = refl
place_text_plain place.Note = refl
place_text_plain place.Id = refl
place_text_plain place.Base = refl
place_text_plain place.Path = refl
place_text_plain place.From = refl
place_text_plain place.To = refl
place_text_plain place.Container = refl
place_text_plain place.Content = refl
place_text_plain place.Structure = refl
place_text_plain place.Assoc = refl
place_text_plain place.Terminal = refl
place_text_plain place.Tier = refl
place_text_plain place.Subnet = refl
place_text_plain place.Rule = refl
place_text_plain place.Edits = refl
place_text_plain place.Extent = refl
place_text_plain place.Seen = refl
place_text_plain place.Type = refl
place_text_plain place.Starts = refl
place_text_plain place.Isolators = refl
place_text_plain place.Barriers = refl
place_text_plain place.Stops = refl
place_text_plain place.Consistent = refl
place_text_plain place.Include = refl
place_text_plain place.Functions = refl
place_text_plain place.Weight = refl
place_text_plain place.Certificate = refl
place_text_plain place.Nodes = refl
place_text_plain place.Labels = refl
place_text_plain place.Keep = refl
place_text_plain place.At = refl
place_text_plain place.Query = refl
place_text_plain place.Since = refl
place_text_plain place.Upto = refl
place_text_plain place.After = refl
place_text_plain place.Most = refl
place_text_plain place.Changes = refl
place_text_plain place.More = refl
place_text_plain place.Ok = refl
place_text_plain place.Version = refl

pub place_text_short : (x : Place) → length (place_text x) ≤ 12
place_text_short place.Whole = lit≤ tt
place_text_short place.Line = lit≤ tt
place_text_short place.Schema = lit≤ tt
place_text_short place.Attributes = lit≤ tt
place_text_short place.Categories = lit≤ tt
place_text_short place.Configs = lit≤ tt
place_text_short place.Kinds = lit≤ tt
place_text_short place.Rules = lit≤ tt
place_text_short place.Tiers = lit≤ tt
place_text_short place.Do = lit≤ tt
place_text_short place.Ask = lit≤ tt
place_text_short place.Extra = lit≤ tt
place_text_short place.Kind = lit≤ tt
place_text_short place.Points = lit≤ tt
place_text_short place.Attrs = lit≤ tt
place_text_short place.Flow = lit≤ tt
place_text_short place.Ends = lit≤ tt
place_text_short place.Note = lit≤ tt
place_text_short place.Id = lit≤ tt
place_text_short place.Base = lit≤ tt
place_text_short place.Path = lit≤ tt
place_text_short place.From = lit≤ tt
place_text_short place.To = lit≤ tt
place_text_short place.Container = lit≤ tt
place_text_short place.Content = lit≤ tt
place_text_short place.Structure = lit≤ tt
place_text_short place.Assoc = lit≤ tt
place_text_short place.Terminal = lit≤ tt
place_text_short place.Tier = lit≤ tt
place_text_short place.Subnet = lit≤ tt
place_text_short place.Rule = lit≤ tt
place_text_short place.Edits = lit≤ tt
place_text_short place.Extent = lit≤ tt
place_text_short place.Seen = lit≤ tt
place_text_short place.Type = lit≤ tt
place_text_short place.Starts = lit≤ tt
place_text_short place.Isolators = lit≤ tt
place_text_short place.Barriers = lit≤ tt
place_text_short place.Stops = lit≤ tt
place_text_short place.Consistent = lit≤ tt
place_text_short place.Include = lit≤ tt
place_text_short place.Functions = lit≤ tt
place_text_short place.Weight = lit≤ tt
place_text_short place.Certificate = lit≤ tt
place_text_short place.Nodes = lit≤ tt
place_text_short place.Labels = lit≤ tt
place_text_short place.Keep = lit≤ tt
place_text_short place.At = lit≤ tt
place_text_short place.Query = lit≤ tt
place_text_short place.Since = lit≤ tt
place_text_short place.Upto = lit≤ tt
place_text_short place.After = lit≤ tt
place_text_short place.Most = lit≤ tt
place_text_short place.Changes = lit≤ tt
place_text_short place.More = lit≤ tt
place_text_short place.Ok = lit≤ tt
place_text_short place.Version = lit≤ tt

-- so is what there is a greatest number of
pub limit_text_plain : (x : Limit) → escape (limit_text x) ≡ limit_text x
unfolding serde_json_on_literals
limit_text_plain limit.Numbers = refl
limit_text_plain limit.Features = refl
limit_text_plain limit.Areas = refl
limit_text_plain limit.Associations = refl
limit_text_plain limit.Contents = refl
limit_text_plain limit.Controllers = refl
limit_text_plain limit.Subnetworks = refl
limit_text_plain limit.Rules = refl

pub limit_text_short : (x : Limit) → length (limit_text x) ≤ 12
limit_text_short limit.Numbers = lit≤ tt
limit_text_short limit.Features = lit≤ tt
limit_text_short limit.Areas = lit≤ tt
limit_text_short limit.Associations = lit≤ tt
limit_text_short limit.Contents = lit≤ tt
limit_text_short limit.Controllers = lit≤ tt
limit_text_short limit.Subnetworks = lit≤ tt
limit_text_short limit.Rules = lit≤ tt

-- so is an edit's word
pub edit_text_plain : (x : EditWord) → escape (edit_text x) ≡ edit_text x
unfolding serde_json_on_literals
edit_text_plain word.Insert = refl
edit_text_plain word.Reshape = refl
edit_text_plain word.Attrs = refl
edit_text_plain word.Kind = refl
edit_text_plain word.Path = refl
edit_text_plain word.Flow = refl
edit_text_plain word.Ends = refl
edit_text_plain word.Note = refl
edit_text_plain word.Delete = refl
edit_text_plain word.Connect = refl
edit_text_plain word.Contain = refl
edit_text_plain word.Attach = refl
edit_text_plain word.Detach = refl
edit_text_plain word.Controller = refl
edit_text_plain word.Uncontroller = refl

pub edit_text_short : (x : EditWord) → length (edit_text x) ≤ 12
edit_text_short word.Insert = lit≤ tt
edit_text_short word.Reshape = lit≤ tt
edit_text_short word.Attrs = lit≤ tt
edit_text_short word.Kind = lit≤ tt
edit_text_short word.Path = lit≤ tt
edit_text_short word.Flow = lit≤ tt
edit_text_short word.Ends = lit≤ tt
edit_text_short word.Note = lit≤ tt
edit_text_short word.Delete = lit≤ tt
edit_text_short word.Connect = lit≤ tt
edit_text_short word.Contain = lit≤ tt
edit_text_short word.Attach = lit≤ tt
edit_text_short word.Detach = lit≤ tt
edit_text_short word.Controller = lit≤ tt
edit_text_short word.Uncontroller = lit≤ tt

-- a name that was made has the form of a name
pub name_made : (t n : List ℕ) → Some n ≡ (if is_name t then Some t else None) → IsName n
name_made t n e = go (is_name t) refl e
  where
    go : (b : Bool) → is_name t ≡ b → Some n ≡ (if b then Some t else None) → IsName n
    go false named e = let no : ⊥ = cc in absurd no
    go true named e =
        let same : n ≡ t = cc in
        let parts = and_parts _ _ named in
        let lengths = and_parts _ _ parts.0 in
        rw same (record { some = leb-true 1 (length t) lengths.0; short = leb-true (length t) 32 lengths.1; bytes = parts.1 })
