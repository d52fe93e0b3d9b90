-- Replies and refusals, grouped as they are copied.
use Rattle.std.specs.Prelude.{⊤}
use Rattle.un_defs.specs.declared.refusal.Refusal.{Refusal}
use Rattle.un_defs.specs.declared.refusal.Refusal.TheVariants as refusal
use Rattle.un_ask.specs.declared.reply.Reply.{Reply}
use Rattle.un_ask.specs.declared.reply.Reply.TheVariants as reply

-- the refusal holds a name
abbrev pub HasName : Refusal → Type 0
HasName (refusal.NoSuchKind kind) = ⊤
HasName (refusal.BadAttribute attribute) = ⊤
HasName (refusal.Conflict subnet feature port) = ⊤
HasName other = ⊥

-- the refusal holds several numbers, and no name
abbrev pub HasNumbers : Refusal → Type 0
HasNumbers (refusal.Disjoint feature port) = ⊤
HasNumbers (refusal.Ahead seen latest) = ⊤
HasNumbers (refusal.NoStart feature port) = ⊤
HasNumbers (refusal.StartIsValve feature terminal) = ⊤
HasNumbers (refusal.DirtyGround area feature port) = ⊤
HasNumbers (refusal.NotIsolable feature terminal) = ⊤
HasNumbers (refusal.NotYet at latest) = ⊤
HasNumbers (refusal.WrongPage after at) = ⊤
HasNumbers (refusal.BadSpan since upto) = ⊤
HasNumbers other = ⊥

-- a reply that holds numbers and words alone
abbrev pub IsPlainReply : Reply → Type 0
IsPlainReply (reply.Edited areas id word version) = ⊤
IsPlainReply (reply.Ruled areas rules version) = ⊤
IsPlainReply (reply.Validated cleared errors version) = ⊤
IsPlainReply (reply.Version version) = ⊤
IsPlainReply (reply.Check valid version) = ⊤
IsPlainReply other = ⊥

-- a reply of a command that holds more than numbers and words
abbrev pub IsCommandReply : Reply → Type 0
IsCommandReply (reply.Batch areas ids version) = ⊤
IsCommandReply (reply.Updated row version) = ⊤
IsCommandReply (reply.Refused refusal edit version) = ⊤
IsCommandReply other = ⊥

-- a reply of a query that does not walk, except for a version alone
abbrev pub IsQueryReply : Reply → Type 0
IsQueryReply (reply.Feature feature version) = ⊤
IsQueryReply (reply.Dirty areas version) = ⊤
IsQueryReply (reply.Errors errors version) = ⊤
IsQueryReply (reply.Subnet controllers members status subnet tier updated version) = ⊤
IsQueryReply other = ⊥

-- a reply of a trace
abbrev pub IsTraceReply : Reply → Type 0
IsTraceReply (reply.Traced traced version) = ⊤
IsTraceReply (reply.Controllers controllers version) = ⊤
IsTraceReply (reply.Loops segments version) = ⊤
IsTraceReply (reply.Isolation borders features version) = ⊤
IsTraceReply other = ⊥

-- a path or a diagram
abbrev pub IsShownReply : Reply → Type 0
IsShownReply (reply.Path cost labels nodes version) = ⊤
IsShownReply (reply.Diagram edges kept pieces version) = ⊤
IsShownReply other = ⊥
