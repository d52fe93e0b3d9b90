use Rattle.std.proofs.Common.{take}
use Rattle.std.specs.BinaryHeap.{IsHeap}
use Rattle.un_path.specs.Search.{turned_cmp, PushesHops}
use Rattle.un_path.proofs.search.push_hops.Given as goal

-- the hops so far
abbrev pub invariant-loop-hop : goal.invariant-loop-hop
invariant-loop-hop l = record {
  heap : IsHeap turned_cmp l.pending.data.items;
  pushed : PushesHops l.arrivals (take l.hop-index l.hops) l.place l.arrival l.fn.pending.data.items l.pending.data.items;
}
