use Rattle.std.proofs.Common.{◌⊎◌}
use Rattle.std.specs.BinaryHeap.{IsHeap}
use Rattle.un_path.specs.declared.search.Coming.{Coming}
use Rattle.un_path.specs.Search.{turned_cmp, IsPendingIn, IsSettledAt}
use Rattle.un_path.proofs.search.take_first.Given as goal

-- what was taken so far has settled places
abbrev pub invariant-loop-coming : goal.invariant-loop-coming
invariant-loop-coming l = record {
  heap : IsHeap turned_cmp l.pending.data.items;
  left : (e : Coming) → IsPendingIn l.fn.pending.data.items e → IsPendingIn l.pending.data.items e ⊎ IsSettledAt l.arrivals e.place;
  only : (e : Coming) → IsPendingIn l.pending.data.items e → IsPendingIn l.fn.pending.data.items e;
}

abbrev pub decreases-loop-coming : goal.decreases-loop-coming
decreases-loop-coming l = l.pending.data.len
