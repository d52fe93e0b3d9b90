-- The log of a network, which is a history that is written down in the order of its commands.
use Rattle.std.specs.Prelude.{◌≡◌, List, [], ◌∷◌, length}
use Rattle.un_geom.specs.Rectangle.{Rectangle}
use Rattle.un_schema.specs.Sound.{IsCatalog}
use Rattle.un_machine.specs.declared.Entry.{Entry}
use Rattle.un_machine.specs.Logs.{Leads}
use Rattle.un_ask.specs.declared.request.Command.{Command}
use Rattle.un_ask.specs.declared.reply.Reply.{Reply}
use Rattle.un_tiers.specs.declared.setup.Setup.{Setup}
use Rattle.un_core.specs.declared.prepared.Prepared.{Prepared}
use Rattle.un_core.specs.State.{State, opening}
use Rattle.un_core.specs.Accepted.{IsAfter}
use Rattle.un_core.specs.Commands.{step}

-- an entry of the log
abbrev pub LogEntry : Type 0
LogEntry = Entry State Command Reply Prepared (List Rectangle)

-- a history, and then the commands of a log
abbrev pub with_log : List Command → List LogEntry → List Command
with_log history [] = history
with_log history (e ∷ log) = with_log (e.cmd ∷ history) log

-- the commands of a log, the last one first
abbrev pub history_of : List LogEntry → List Command
history_of log = with_log [] log

-- Where a log leads from the opening state to another, that is the state after the commands of its entries, and its version is the log's
-- length. So a query that is answered at a version is answered by the first so many commands.
abbrev pub LogLaw : Type 0
LogLaw = (S : Setup) (log : List LogEntry) (s : State) → IsCatalog S.schema → Leads step (opening S) log s →
    IsAfter S (history_of log) s × (s.version ≡ length log)
