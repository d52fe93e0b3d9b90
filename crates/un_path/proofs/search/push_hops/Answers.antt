use Rattle.std.proofs.Common.{◌≡◌, ◌+◌, ◌<◌, List, ◌∷◌, get_or, take, sym, ap, subst, subst₂, arith}
use Rattle.std.specs.declared.cmp.Reverse.{Reverse}
use Rattle.std.specs.BinaryHeap.{IsHeap, heap_items}
use Rattle.std.specs.List.Sorted.{IsPermutation}
use Rattle.std.proofs.lemmas.List.{take_more}
use Rattle.un_walk.proofs.Growing.{contains_at}
use Rattle.un_path.specs.declared.hops.Hop.{Hop}
use Rattle.un_path.specs.declared.search.Coming.{Coming}
use Rattle.un_path.specs.Search.{turned_cmp, coming_by, PushesHops}
use Rattle.un_path.proofs.Pushing.{pushes_one, pushes_none}
use Rattle.un_path.proofs.search.push_hops.Goals as goal
use Rattle.un_path.proofs.search.push_hops.Goals.{then-is_free+in_ok-push, else-is_free}

abbrev no_hop : Hop
no_hop = record { to = 0; cost = 0 }

pub is_free-requires : goal.is_free-requires
is_free-requires c = c.requires.inside (get_or c.args.hops.now c.loop-hop.hop-index no_hop) (contains_at c.args.hops.now c.loop-hop.hop-index no_hop c.loop-hop-test.true)

pub loop-hop-preserved : goal.loop-hop-preserved
loop-hop-preserved c =
    let arrivals = c.args.arrivals.now in
    let all : List Hop = c.args.hops.now in
    let k = c.loop-hop.hop-index in
    let hop : Hop = get_or all k no_hop in
    let more = sym (take_more all k no_hop c.loop-hop-test.true) in
    let old : List (Reverse Coming) = c.args.pending.now.data.items in
    let before : List (Reverse Coming) = c.loop-hop.pending.data.items in
    elim c.if-is_free.branch [
      | then-is_free+in_ok-push v ↦
          let is = sym (ap heap_items v.pending-is) in
          let price = v.price.ensures.cost in
          let coming : record { cost = c.args.arrival.cost + v.price.result; steps = c.args.arrival.steps + 1; from = c.args.place; place = hop.to } ≡ coming_by c.args.place c.args.arrival hop =
          λ i. record { cost = c.args.arrival.cost + price i; steps = c.args.arrival.steps + 1; from = c.args.place; place = hop.to } in
          let same : IsPermutation (record { 0 = coming_by c.args.place c.args.arrival hop } ∷ before) v.push.new.self.data.items =
          subst (λ (e : Coming). IsPermutation (record { 0 = e } ∷ before) v.push.new.self.data.items) coming v.in_ok-push.ensures.permutation in
          let slight : hop.cost < 18446744073709551616 = (let e = v.price.ensures.small in omega (arith, price)) in
          record {
            heap = subst (IsHeap turned_cmp) is (v.in_ok-push.ensures.heap_order c.loop-hop.invariant.heap);
            pushed = subst₂ (λ l m. PushesHops arrivals l c.args.place c.args.arrival old m) more is
                (pushes_one arrivals (take k all) c.args.place c.args.arrival old before c.loop-hop.invariant.pushed hop v.push.new.self.data.items slight same);
          }
      | else-is_free v ↦
          let is = sym (ap heap_items v.pending-is) in
          record {
            heap = subst (IsHeap turned_cmp) is c.loop-hop.invariant.heap;
            pushed = subst₂ (λ l m. PushesHops arrivals l c.args.place c.args.arrival old m) more is
                (pushes_none arrivals (take k all) c.args.place c.args.arrival old before c.loop-hop.invariant.pushed hop v.if-is_free.ensures);
          }
    ]
