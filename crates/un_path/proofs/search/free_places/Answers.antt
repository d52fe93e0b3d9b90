use Rattle.std.proofs.Common.{ℕ, List, length, Option, None, sym, ap, subst, ◌∙◌, arith}
use Rattle.std.proofs.lemmas.List.{length_push}
use Rattle.un_path.specs.declared.search.Arrival.{Arrival}
use Rattle.un_path.specs.Search.{IsSettledAt, free_count}
use Rattle.un_path.proofs.Pushing.{one_more_free, still_free}
use Rattle.un_path.proofs.search.free_places.Goals as goal

pub loop-place-preserved : goal.loop-place-preserved
loop-place-preserved c =
    let before : List (Option Arrival) = c.loop-place.arrivals.items in
    let items = c.in_ok-push.ensures.items in
    record {
      count = ap length items ∙ length_push before None ∙ (let e = c.loop-place.invariant.count in omega arith);
      free = subst (λ (l : List (Option Arrival)). (i : ℕ) → IsSettledAt l i → ⊥) (sym items) (still_free before c.loop-place.invariant.free);
      free_count = ap free_count items ∙ one_more_free before ∙ (let e = c.loop-place.invariant.free_count in omega arith);
    }
