use Rattle.std.proofs.Common.{◌≡◌, [], take}
use Rattle.un_trace.specs.Seen.{spots_of}
use Rattle.un_trace.proofs.features.first_entry.Given as goal

-- none so far has an entry
abbrev pub invariant-loop-one : goal.invariant-loop-one
invariant-loop-one l = spots_of (take l.one-index l.run) ≡ []
