use Rattle.std.specs.BinaryHeap.{IsHeap}
use Rattle.un_defs.specs.declared.walk.Mode.TheVariants.{Any}
use Rattle.un_defs.specs.Reach.{leads}
use Rattle.un_path.specs.Costs.{step_cost}
use Rattle.un_path.specs.Search.{turned_cmp, IsPendingIn, HasArrival, first_arrival, free_count, IsUnderWay}
use Rattle.un_path.proofs.search.best_arrivals.Given as goal

abbrev pub invariant-loop-coming : goal.invariant-loop-coming
invariant-loop-coming g l =
    let G = g.G.Ground.stars_and_areas l.over in
    record {
      heap : IsHeap turned_cmp l.pending.data.items;
      begun : HasArrival l.arrivals.items l.start (first_arrival l.start);
      way : IsUnderWay (leads G l.barriers Any) (step_cost G l.barriers l.weight) l.nodes l.start l.arrivals.items (IsPendingIn l.pending.data.items);
    }

abbrev pub decreases-loop-coming : goal.decreases-loop-coming
decreases-loop-coming g l = free_count l.arrivals.items
