use Rattle.std.proofs.Common.{◌≡◌, take}
use Rattle.un_script.specs.Redone.{redone}
use Rattle.un_script.proofs.recoverable.after.Given as goal

-- the commands so far are applied
abbrev pub invariant-loop-command : goal.invariant-loop-command
invariant-loop-command l = l.last ≡ redone l.fn.net (take l.command-index l.commands)
