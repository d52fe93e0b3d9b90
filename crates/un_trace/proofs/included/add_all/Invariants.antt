use Rattle.std.proofs.Common.{◌≡◌, fold, take}
use Rattle.std.specs.Ordering.{nat_cmp}
use Rattle.std.specs.BTreeSet.{insert_key}
use Rattle.un_trace.proofs.included.add_all.Given as goal

abbrev pub invariant-loop-id : goal.invariant-loop-id
invariant-loop-id l = l.set.keys ≡ fold (insert_key nat_cmp) l.fn.set.keys (take l.id-index l.ids)
