use Rattle.std.proofs.Common.{◌≡◌, take}
use Rattle.un_walk.specs.Hashing.{number}
use Rattle.un_walk.proofs.hasher.number.Given as goal

-- the bytes so far as one number
abbrev pub invariant-loop-byte : goal.invariant-loop-byte
invariant-loop-byte l = l.number ≡ number (take l.byte-index l.bytes)
