use Rattle.std.proofs.Common.{◌≡◌, drop}
use Rattle.un_attrs.specs.Attributes.{bad_place, bad_from}
use Rattle.un_attrs.proofs.bad.first_bad.Given as goal

-- the first bad place is among those from here on
abbrev pub invariant-loop-i : goal.invariant-loop-i
invariant-loop-i l = bad_place l.pairs ≡ bad_from l.i (drop l.i l.pairs)
