-- The replies of commands, and of walks that meet dirt.
use Rattle.std.specs.Prelude.{◌≢◌, ◌≤◌, length, None, ⊤}
use Rattle.un_defs.specs.declared.walk.Dirt.{Dirt}
use Rattle.un_defs.specs.declared.refusal.Refusal.TheVariants.{DirtyGround, Memory}
use Rattle.un_ask.specs.declared.request.Command.{Command}
use Rattle.un_ask.specs.declared.request.Command.TheVariants.{Batch}
use Rattle.un_ask.specs.declared.reply.Reply.{Reply}
use Rattle.un_ask.specs.declared.reply.Reply.TheVariants as reply

-- the reply is one of a command, accepted or refused
abbrev pub IsOfCommand : Reply → Type 0
IsOfCommand (reply.Edited areas id word version) = ⊤
IsOfCommand (reply.Batch areas ids version) = ⊤
IsOfCommand (reply.Ruled areas rules version) = ⊤
IsOfCommand (reply.Validated cleared errors version) = ⊤
IsOfCommand (reply.Updated row version) = ⊤
IsOfCommand (reply.Refused refusal edit version) = ⊤
IsOfCommand other = ⊥

-- a batch has at most 256 edits
abbrev pub HasFewIds : Reply → Type 0
HasFewIds (reply.Batch areas ids version) = length ids ≤ 256
HasFewIds other = ⊤

-- a batch that is asked for has at most 256 edits
abbrev pub HasFewEdits : Command → Type 0
HasFewEdits (Batch edits) = length edits ≤ 256
HasFewEdits other = ⊤

-- the reply of a walk that meets dirt names the area and the port. The caller puts in the version.
abbrev pub on_dirty_ground : Dirt → Reply
on_dirty_ground d = reply.Refused (DirtyGround d.area d.port.feature d.port.number) None 0

-- the reply is none that tells of want of memory
abbrev pub IsNoMemory : Reply → Type 0
IsNoMemory (reply.Refused refusal edit version) = refusal ≢ Memory
IsNoMemory other = ⊤
