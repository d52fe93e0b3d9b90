use Rattle.std.proofs.Common.{◌≡◌, [], fold, flat_map, take}
use Rattle.std.specs.Ordering.{nat_cmp}
use Rattle.std.specs.BTreeSet.{insert_key}
use Rattle.un_trace.specs.Seen.{spots_of}
use Rattle.un_trace.specs.Included.{ids_of}
use Rattle.un_trace.proofs.included.included.Given as goal

-- the set has the ids that the entries so far give
abbrev pub invariant-loop-one : goal.invariant-loop-one
invariant-loop-one l = l.set.keys ≡ fold (insert_key nat_cmp) [] (flat_map (ids_of l.inclusion) (spots_of (take l.one-index l.seen)))
