use Rattle.std.proofs.Common.{◌≡◌, take}
use Rattle.un_store.specs.Edits.{settled}
use Rattle.un_store.proofs.store.Store.settle.Given as goal

abbrev pub invariant-loop-id : goal.invariant-loop-id
invariant-loop-id l = l.store ≡ settled (take l.id-index l.ids) l.moment l.fn.self
