-- What a printed reply is read back as.
use Rattle.std.specs.Prelude.{◌≡◌, ℕ, Some, IfSome, All, IsUtf8, ⊤}
use Rattle.serde_json.specs.Read.{read}
use Rattle.un_defs.specs.declared.refusal.Refusal.{Refusal}
use Rattle.un_defs.specs.declared.refusal.Refusal.TheVariants as refusal
use Rattle.un_ask.specs.declared.reply.FeatureReply.{FeatureReply}
use Rattle.un_ask.specs.declared.reply.Reply.{Reply}
use Rattle.un_ask.specs.declared.reply.Reply.TheVariants as reply
use Rattle.un_values.specs.ReadBack.{Has64Bits, Has128Bits, EachNumber, value_read}
use Rattle.un_replies.specs.Replies.{reply_value, print, past_value, past_text}

-- ---- texts of replies

-- the name that the refusal carries, if it carries one, is UTF-8
abbrev pub HasUtf8Name : Refusal → Type 0
HasUtf8Name (refusal.NoSuchKind kind) = IsUtf8 kind
HasUtf8Name (refusal.BadAttribute attribute) = IsUtf8 attribute
HasUtf8Name (refusal.Conflict subnet feature port) = IsUtf8 subnet
HasUtf8Name other = ⊤

pub record FeatureHasUtf8 (f : FeatureReply) : Type 0 where
  pub attrs : All (λ pair. IsUtf8 pair.0) f.attrs
  pub kind : IsUtf8 f.kind
  pub note : IsUtf8 f.note
  pub path : IfSome f.path IsUtf8

-- the names and the note in the reply are UTF-8, as a `Name` and a `Note` of Rust hold
abbrev pub HasUtf8Texts : Reply → Type 0
HasUtf8Texts (reply.Feature feature version) = FeatureHasUtf8 feature
HasUtf8Texts (reply.Subnet controllers members status subnet tier updated version) = IsUtf8 subnet × IsUtf8 tier
HasUtf8Texts (reply.Controllers controllers version) = All (λ c. IsUtf8 c.subnet) controllers
HasUtf8Texts (reply.Refused refusal edit version) = HasUtf8Name refusal
HasUtf8Texts other = ⊤

-- ---- laws

-- what is printed of a reply is JSON, and its value is the reply's
abbrev pub ReadBackLaw : Type 0
ReadBackLaw = (reply : Reply) → EachNumber Has64Bits (reply_value reply) → read (print reply) ≡ Some (reply_value reply)

-- the same where numbers have more than 64 bits, as the sum of a function or a cost may have: they are read as the nearest floats
abbrev pub WideReadBackLaw : Type 0
WideReadBackLaw = (reply : Reply) → EachNumber Has128Bits (reply_value reply) → read (print reply) ≡ Some (value_read (reply_value reply))

-- what is printed of a reply is UTF-8, as a reader of bytes asks
abbrev pub Utf8Law : Type 0
Utf8Law = (reply : Reply) → HasUtf8Texts reply → IsUtf8 (print reply)

-- the same of what is printed of a reply to a query at a past version
abbrev pub PastReadBackLaw : Type 0
PastReadBackLaw = (past : Reply) (version : ℕ) → EachNumber Has64Bits (past_value past version) → read (past_text past version) ≡ Some (past_value past version)

abbrev pub PastWideReadBackLaw : Type 0
PastWideReadBackLaw = (past : Reply) (version : ℕ) → EachNumber Has128Bits (past_value past version) → read (past_text past version) ≡ Some (value_read (past_value past version))

abbrev pub PastUtf8Law : Type 0
PastUtf8Law = (past : Reply) (version : ℕ) → HasUtf8Texts past → IsUtf8 (past_text past version)
