-- A network that commands are done to again.
use Rattle.std.specs.Prelude.{◌≡◌, List, fold, Option, IfSome}
use Rattle.un_ask.specs.declared.request.Command.{Command}
use Rattle.un_core.specs.State.{State}
use Rattle.un_core.specs.Commands.{state_after}

-- the state after commands, one after another
abbrev pub redone : State → List Command → State
redone s cs = fold state_after s cs

-- the network, if there is one, is the one that the commands lead to
abbrev pub IsRedone : State → List Command → Option State → Type 0
IsRedone s cs net = IfSome net (λ n. n ≡ redone s cs)
