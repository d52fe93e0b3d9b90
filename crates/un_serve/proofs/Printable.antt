-- The reply to a command fits in the room for it.
use Rattle.std.proofs.Common.{◌≡◌, sym, subst}
use Rattle.un_ask.specs.declared.request.Command.{Command}
use Rattle.un_ask.specs.declared.reply.Reply.{Reply}
use Rattle.un_ask.specs.Replies.{HasFewEdits}
use Rattle.un_core.specs.State.{State}
use Rattle.un_core.specs.Commands.{step, command_reply, StepLaw}
use Rattle.un_exchange.specs.Exchanges.{CanPrint}
use Rattle.un_serve.specs.Printing.{Fits}

fits : (c : Command) (s : State) (r : Reply) → StepLaw → HasFewEdits c → r ≡ command_reply s c → Fits r
fits c s r law few e = subst (λ (z : Reply). Fits z) (sym e) ((law s c).of_command, (law s c).few few)

pub can_print : (c : Command) → StepLaw → HasFewEdits c → CanPrint step Fits c
can_print c law few = (λ s t r mark e. fits c s r law few ((law s c).done t r mark e).1, λ s r e. fits c s r law few ((law s c).refused r e).1)
