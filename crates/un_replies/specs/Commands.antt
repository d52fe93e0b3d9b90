-- What is known of a command's reply, so that it fits in the room that is kept for it; and which replies to queries may be long.
pub use Rattle.un_ask.specs.Replies.{IsOfCommand, HasFewIds}
use Rattle.std.specs.Prelude.{ℕ, ◌+◌, ◌*◌, length, ⊤}
use Rattle.un_schema.specs.Names.{IsName}
use Rattle.un_defs.specs.declared.refusal.Refusal.{Refusal}
use Rattle.un_defs.specs.declared.refusal.Refusal.TheVariants as refusal
use Rattle.un_ask.specs.declared.reply.Reply.{Reply}
use Rattle.un_ask.specs.declared.reply.Reply.TheVariants as reply

-- the name that the refusal carries, if it carries one, has the form of a name
abbrev pub HasName : Refusal → Type 0
HasName (refusal.NoSuchKind kind) = IsName kind
HasName (refusal.BadAttribute attribute) = IsName attribute
HasName (refusal.Conflict subnet feature port) = IsName subnet
HasName other = ⊤

-- the same of the refusal that a reply tells
abbrev pub HasRefusalName : Reply → Type 0
HasRefusalName (reply.Refused refusal edit version) = HasName refusal
HasRefusalName other = ⊤

-- room that is enough for a command's reply
abbrev pub command_room : Reply → ℕ
command_room (reply.Batch areas ids version) = 21 * length ids + 128
command_room other = 512

-- whether a reply may tell a whole network
abbrev pub IsOfReach : Reply → Type 0
IsOfReach (reply.Traced result version) = ⊤
IsOfReach (reply.Loops segments version) = ⊤
IsOfReach (reply.Isolation borders features version) = ⊤
IsOfReach other = ⊥
