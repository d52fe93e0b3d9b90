use Rattle.std.proofs.Common.{◌≡◌, take, map}
use Rattle.un_resolve.specs.Resolved.{func_of}
use Rattle.un_resolve.proofs.names.functions.Given as goal

-- the functions so far
abbrev pub invariant-loop-function : goal.invariant-loop-function
invariant-loop-function l = l.funcs.items ≡ map (func_of l.schema) (take l.function-index l.named)
