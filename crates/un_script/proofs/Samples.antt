-- The histories of some commands, and replies by them.
use Rattle.std.proofs.Common.{◌≡◌, [], ◌∷◌, Ok, None, refl}
use Rattle.un_geom.specs.Rectangle.{Rectangle}
use Rattle.un_schema.specs.declared.place.Place.TheVariants as place
use Rattle.un_defs.specs.declared.refusal.Refusal.TheVariants as refusal
use Rattle.un_schema.specs.declared.rule.Rule.{Rule}
use Rattle.un_defs.specs.declared.edit.Edit.TheVariants as edit
use Rattle.un_ask.specs.declared.request.Command.TheVariants as command
use Rattle.un_ask.specs.declared.request.Request.TheVariants.{Command}
use Rattle.un_ask.specs.declared.reply.Reply.TheVariants as reply
use Rattle.un_tiers.specs.declared.setup.Setup.{Setup}
use Rattle.un_script.specs.History.{History, history_behind_line, reply_after_line}

abbrev opening : Setup → History
opening S = record { setup = S; commands = [] }

-- two validations are accepted, and the last one stands first
two_validations : (S : Setup) (first second : Rectangle)
    → history_behind_line (history_behind_line (opening S) (Ok (Command (command.Validate first)))) (Ok (Command (command.Validate second)))
    ≡ record { setup = S; commands = command.Validate second ∷ command.Validate first ∷ [] }
two_validations S first second = refl

-- a command that is refused leaves the history as it was: a rule is added by a command of its own, and by no edit
rule_is_none : (S : Setup) (rule : Rule) → history_behind_line (opening S) (Ok (Command (command.Edit (edit.Rule rule)))) ≡ opening S
rule_is_none S rule = refl

rule_refused : (S : Setup) (rule : Rule)
    → reply_after_line (opening S) (Ok (Command (command.Edit (edit.Rule rule)))) ≡ reply.Refused (refusal.BadRequest place.Do) None 0
rule_refused S rule = refl
