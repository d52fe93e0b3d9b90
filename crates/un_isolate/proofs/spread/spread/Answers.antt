use Rattle.std.proofs.Common.{◌≡◌, ◌<◌, ◌≤◌, ◌+◌, ℕ, Bool, List, length, length-append, Some, refl, sym, ap, subst, ◌∙◌, arith, rules, true≢false}
use Rattle.std.specs.Prelude.{slice_get, Contains}
use Rattle.std.proofs.lemmas.Option.{slice_get_read}
use Rattle.smallvec.specs.SmallVec.{SmallVec}
use Rattle.un_isolate.specs.declared.spread.Found.{Found}
use Rattle.un_isolate.specs.Spread.{mark_at, Adds, IsSpread}
use Rattle.un_isolate.proofs.Finding.{spread_begun, spread_on, spread_past, spread_done, spread_inside, no_mark, mark_inside, count_new}
use Rattle.un_isolate.proofs.spread.spread.Goals as goal
use Rattle.un_isolate.proofs.spread.spread.Goals.{then-not-closed-place+in_ok-add_all-2, else-not-closed-place}

pub add_all-requires-clause-inside : goal.add_all-requires-clause-inside
add_all-requires-clause-inside c = λ i has.
    let on = (c.in_ok-marked_places.ensures i).0 (subst (λ l. Contains l i) c.deref.ensures.value has) in
    omega (arith, mark_inside c.args.starts.now i on, c.requires.starts, count_new c.in_ok-found.found.marks.items (length c.args.links.now) c.in_ok-found.ensures.0)

pub loop-next-init : goal.loop-next-init
loop-next-init c =
    let places : List ℕ = c.deref.result.now in
    let marks : List Bool = c.in_ok-found.found.marks.items in
    record {
      within = omega arith;
      spread = spread_begun c.args.links.now c.args.starts.now c.args.closed.now c.in_ok-found.found c.add_all.new.self places c.in_ok-add_all.ensures
          (λ i e. true≢false (sym e ∙ ap (λ l. mark_at l i) c.in_ok-found.ensures.0 ∙ no_mark (length c.args.links.now) i))
          (λ i h. (c.in_ok-marked_places.ensures i).0 (subst (λ l. Contains l i) c.deref.ensures.value h))
          (λ i e. subst (λ l. Contains l i) (sym c.deref.ensures.value) ((c.in_ok-marked_places.ensures i).1 e))
          (count_new marks (length c.args.links.now) c.in_ok-found.ensures.0);
    }

pub bounds-closed-place : goal.bounds-closed-place
bounds-closed-place c =
    let found : Found = c.loop-next.found in
    let order : List ℕ = found.order.items in
    let below : c.loop-next.next < length order = search rules in
    let at : slice_get order c.loop-next.next ≡ Some c.index-place.result.now = slice_get_read order (length order) c.loop-next.next c.index-place.result.now refl below c.index-place.ensures in
    omega (arith, spread_inside c.args.links.now c.args.starts.now c.args.closed.now found c.loop-next.next c.loop-next.next c.index-place.result.now c.loop-next.invariant.spread at, c.requires.closed)

pub bounds-links-place : goal.bounds-links-place
bounds-links-place c =
    let found : Found = c.loop-next.found in
    let order : List ℕ = found.order.items in
    let below : c.loop-next.next < length order = search rules in
    let at : slice_get order c.loop-next.next ≡ Some c.index-place.result.now = slice_get_read order (length order) c.loop-next.next c.index-place.result.now refl below c.index-place.ensures in
    spread_inside c.args.links.now c.args.starts.now c.args.closed.now found c.loop-next.next c.loop-next.next c.index-place.result.now c.loop-next.invariant.spread at

pub offset_bounds-links-place : goal.offset_bounds-links-place
offset_bounds-links-place c =
    let below : c.index-place.result.now < length c.args.links.now = bounds-links-place c in
    search rules

pub add_all-requires-then-not-closed-place-clause-inside : goal.add_all-requires-then-not-closed-place-clause-inside
add_all-requires-then-not-closed-place-clause-inside c = λ i has.
    let links = c.args.links.now in
    let place : ℕ = c.index-place.result.now in
    let ends : SmallVec ℕ = c.index-links-place.result in
    let found : Found = c.loop-next.found in
    let order : List ℕ = found.order.items in
    let below : c.loop-next.next < length order = search rules in
    let at : slice_get order c.loop-next.next ≡ Some place = slice_get_read order (length order) c.loop-next.next place refl below c.index-place.ensures in
    let inside = spread_inside links c.args.starts.now c.args.closed.now found c.loop-next.next c.loop-next.next place c.loop-next.invariant.spread at in
    let row : slice_get links place ≡ Some ends = slice_get_read links (length links) place ends refl inside c.index-links-place.is in
    omega (arith, c.requires.inside place i (ends, row, subst (λ l. Contains l i) c.as_slice.ensures has), c.loop-next.invariant.spread.count)

pub loop-next-preserved : goal.loop-next-preserved
loop-next-preserved c =
    let links = c.args.links.now in
    let starts = c.args.starts.now in
    let closed = c.args.closed.now in
    let next = c.loop-next.next in
    let place : ℕ = c.index-place.result.now in
    let found : Found = c.loop-next.found in
    let order : List ℕ = found.order.items in
    let below : next < length order = search rules in
    let at : slice_get order next ≡ Some place = slice_get_read order (length order) next place refl below c.index-place.ensures in
    let so_far = c.loop-next.invariant.spread in
    let All : Found → Type 0 = λ f. (next + 1 ≤ length f.order.items) × IsSpread links starts closed f (next + 1) in
    let all : All c.if-not-closed-place.found = elim c.if-not-closed-place.branch [
      | then-not-closed-place+in_ok-add_all-2 w ↦
          let new : Found = w.add_all-then-not-closed-place.new.self in
          let ends : SmallVec ℕ = w.index-links-place.result in
          let inside = spread_inside links starts closed found next next place so_far at in
          let row : slice_get links place ≡ Some ends = slice_get_read links (length links) place ends refl inside w.index-links-place.is in
          let adds : Adds found new ends.items = subst (Adds found new) w.as_slice.ensures w.in_ok-add_all-2.ensures in
          subst All (sym w.found-is) (
            omega (arith, below, ap length adds.order, length-append order adds.more),
            spread_on links starts closed found new next (next + 1) place ends refl at w.if-not-closed-place.true row so_far adds below,
          )
      | else-not-closed-place w ↦
          subst All (sym w.found-is) (omega (arith, below), spread_past links starts closed found next (next + 1) place refl at w.if-not-closed-place.false so_far)
    ] in
    record { within = all.0; spread = all.1 }

pub returns : goal.returns
returns c =
    let done : length c.loop-next.found.order.items ≤ c.loop-next.next = search rules in
    spread_done c.args.links.now c.args.starts.now c.args.closed.now c.loop-next.found c.loop-next.next done c.loop-next.invariant.spread
