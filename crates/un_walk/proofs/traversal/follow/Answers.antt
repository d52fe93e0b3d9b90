use Rattle.std.proofs.Common.{◌≡◌, ℕ, suc, ◌-◌, ◌<◌, ◌≤◌, not, true, List, [], ◌∷◌, get_or, drop, drop-cons, slice_get, Some, length, length-append, Contains, refl, sym, ap, subst, ◌∙◌, arith}
use Rattle.std.specs.Option.{option_map_or}
use Rattle.std.proofs.lemmas.List.{drop_all}
use Rattle.un_defs.specs.declared.port.Node.{Node}
use Rattle.un_defs.specs.declared.link.Tie.{Tie}
use Rattle.un_defs.specs.Orders.{same_node}
use Rattle.un_defs.specs.Ground.{ties}
use Rattle.un_defs.specs.Reach.{goes_by, mode_takes, is_shut}
use Rattle.un_walk.specs.declared.found.Found.{Found}
use Rattle.un_walk.specs.Found.{nodes}
use Rattle.un_walk.specs.declared.traversal.Away.{Away}
use Rattle.std.proofs.lemmas.Option.{slice_get_within}
use Rattle.un_defs.proofs.Unique.{node_itself}
use Rattle.un_walk.proofs.Tracing.{at_kept}
use Rattle.un_walk.proofs.Following.{IsFollowing, following_none, following_link, following_back, following_not, following_later}
use Rattle.un_walk.proofs.Growing.{contains_at}
use Rattle.un_walk.proofs.LinkTests.{goes_when, goes_not}
use Rattle.un_walk.proofs.traversal.follow.Goals as goal

-- the links from one place on
from_on : (ts : List Tie) (k : ℕ) (t d : Tie) → 0 < k → k ≤ length ts → t ≡ get_or ts (k - 1) d → drop (k - 1) ts ≡ t ∷ drop k ts
from_on ts k t d some inside is =
    let next : suc (k - 1) ≡ k = omega (arith, some) in
    let within : k - 1 < length ts = omega (arith, some, inside) in
    drop-cons ts (k - 1) d within ∙ (λ i. sym is i ∷ drop (next i) ts)

pub loop-index-init : goal.loop-index-init
loop-index-init g c = record {
  over = c.requires.over;
  following = subst (IsFollowing (g.G.Ground.stars_and_areas c.args.over.now) c.args.barriers.now c.args.mode c.args.place.now.node c.args.place.now.number c.args.found.now c.args.found.now c.args.aways.now.items c.args.aways.now.items)
      (sym (drop_all (length c.ties-ties.result.now) c.ties-ties.result.now (omega arith)))
      (following_none (g.G.Ground.stars_and_areas c.args.over.now) c.args.barriers.now c.args.mode c.args.place.now.node c.args.place.now.number c.args.found.now c.args.aways.now.items);
  rises = omega arith;
  counted = λ stay. omega arith;
}

pub add-requires-clause-from : goal.add-requires-clause-from
add-requires-clause-from g c =
    let grown = c.loop-index.invariant.following.grown in
    omega (arith, slice_get_within (nodes c.args.found.now) c.args.place.now.number c.args.place.now.node c.requires.found, ap length grown.is, length-append (nodes c.args.found.now) grown.more)

pub loop-index-preserved-in-Continue-1 : goal.loop-index-preserved-in-Continue-1
loop-index-preserved-in-Continue-1 g c =
    let G = g.G.Ground.stars_and_areas c.args.over.now in
    let B = c.args.barriers.now in
    let mode = c.args.mode in
    let n = c.args.place.now.node in
    let p = c.args.place.now.number in
    let items : List Tie = c.ties-ties.result.now in
    let k = c.loop-index.index in
    let f : Found = c.loop-index.found in
    let tie : Tie = c.index-ties-index.result in
    let old : List Away = c.args.aways.now.items in
    let aways : List Away = c.loop-index.aways.items in
    let so_far = c.loop-index.invariant.following in
    let of_node : ties G n ≡ items = ap (λ o. option_map_or (λ s. s.ties) o []) c.requires.entry ∙ sym c.ties-ties.ensures in
    let inside : k - 1 < length items = omega (arith, c.loop-index-test.true, c.loop-index.auto.index) in
    let from_here : drop (k - 1) items ≡ tie ∷ drop k items = from_on items k tie _ c.loop-index-test.true c.loop-index.auto.index c.index-ties-index.is in
    let stands : Contains (ties G n) tie = subst (λ l. Contains l tie) (sym of_node) (subst (Contains items) (sym c.index-ties-index.is) (contains_at items (k - 1) tie inside)) in
    let at : slice_get (nodes f) p ≡ Some n = subst (λ l. slice_get l p ≡ Some n) (sym so_far.grown.is) (at_kept (nodes c.args.found.now) so_far.grown.more p n c.requires.found) in
    let m : Node = c.to-to.result in
    let goes : goes_by G B mode n m tie ≡ true = subst (λ m. goes_by G B mode n m tie ≡ true) (sym c.to-to.ensures)
    (goes_when (same_node tie.to tie.to) (mode_takes mode tie) (not (is_shut G B n tie)) (sym c.goes_by.ensures.goes ∙ c.if-goes_by.true) ∙ node_itself tie.to) in
    record {
      over = c.in_ok-add.ensures.over;
      following = subst (IsFollowing G B mode n p c.args.found.now c.add.new.self old aways) (sym from_here)
          (following_link G B mode n p c.args.found.now f old aways (drop k items) so_far c.add.new.self m _ c.in_ok-add.ensures.nodes c.in_ok-add.ensures.over.distinct at c.requires.opened stands goes c.in_ok-add.ensures.adds);
      rises = omega (arith, c.in_ok-add.ensures.never_falls, c.goes_by.ensures.never_falls, c.loop-index.invariant.rises);
      counted = λ stay. omega (arith, c.in_ok-add.ensures.once, c.goes_by.ensures.once (stay tie stands), c.loop-index.invariant.counted stay);
    }

pub loop-index-preserved-in-Continue-branch-2 : goal.loop-index-preserved-in-Continue-branch-2
loop-index-preserved-in-Continue-branch-2 g c =
    let G = g.G.Ground.stars_and_areas c.args.over.now in
    let B = c.args.barriers.now in
    let mode = c.args.mode in
    let n = c.args.place.now.node in
    let p = c.args.place.now.number in
    let items : List Tie = c.ties-ties.result.now in
    let k = c.loop-index.index in
    let f : Found = c.loop-index.found in
    let tie : Tie = c.index-ties-index.result in
    let old : List Away = c.args.aways.now.items in
    let aways : List Away = c.loop-index.aways.items in
    let so_far = c.loop-index.invariant.following in
    let of_node : ties G n ≡ items = ap (λ o. option_map_or (λ s. s.ties) o []) c.requires.entry ∙ sym c.ties-ties.ensures in
    let inside : k - 1 < length items = omega (arith, c.loop-index-test.true, c.loop-index.auto.index) in
    let from_here : drop (k - 1) items ≡ tie ∷ drop k items = from_on items k tie _ c.loop-index-test.true c.loop-index.auto.index c.index-ties-index.is in
    let stands : Contains (ties G n) tie = subst (λ l. Contains l tie) (sym of_node) (subst (Contains items) (sym c.index-ties-index.is) (contains_at items (k - 1) tie inside)) in
    let at : slice_get (nodes f) p ≡ Some n = subst (λ l. slice_get l p ≡ Some n) (sym so_far.grown.is) (at_kept (nodes c.args.found.now) so_far.grown.more p n c.requires.found) in
    let m : Node = c.to-to.result in
    let goes : goes_by G B mode n m tie ≡ true = subst (λ m. goes_by G B mode n m tie ≡ true) (sym c.to-to.ensures)
    (goes_when (same_node tie.to tie.to) (mode_takes mode tie) (not (is_shut G B n tie)) (sym c.goes_by.ensures.goes ∙ c.if-goes_by.true) ∙ node_itself tie.to) in
    record {
      over = c.loop-index.invariant.over;
      following = subst (IsFollowing G B mode n p c.args.found.now f old c.push.new.self.items) (sym from_here)
          (following_later G B mode n p c.args.found.now f old aways (drop k items) so_far c.push.new.self.items _ c.in_ok-push.ensures.items
          (record { from = refl; opened = c.requires.opened; stands = stands; goes = goes }));
      rises = omega (arith, c.goes_by.ensures.never_falls, c.loop-index.invariant.rises);
      counted = λ stay. omega (arith, c.goes_by.ensures.once (stay tie stands), c.loop-index.invariant.counted stay);
    }

pub loop-index-preserved-else-not-was_found_from : goal.loop-index-preserved-else-not-was_found_from
loop-index-preserved-else-not-was_found_from g c =
    let G = g.G.Ground.stars_and_areas c.args.over.now in
    let B = c.args.barriers.now in
    let mode = c.args.mode in
    let n = c.args.place.now.node in
    let p = c.args.place.now.number in
    let items : List Tie = c.ties-ties.result.now in
    let k = c.loop-index.index in
    let f : Found = c.loop-index.found in
    let tie : Tie = c.index-ties-index.result in
    let old : List Away = c.args.aways.now.items in
    let aways : List Away = c.loop-index.aways.items in
    let so_far = c.loop-index.invariant.following in
    let of_node : ties G n ≡ items = ap (λ o. option_map_or (λ s. s.ties) o []) c.requires.entry ∙ sym c.ties-ties.ensures in
    let inside : k - 1 < length items = omega (arith, c.loop-index-test.true, c.loop-index.auto.index) in
    let from_here : drop (k - 1) items ≡ tie ∷ drop k items = from_on items k tie _ c.loop-index-test.true c.loop-index.auto.index c.index-ties-index.is in
    let stands : Contains (ties G n) tie = subst (λ l. Contains l tie) (sym of_node) (subst (Contains items) (sym c.index-ties-index.is) (contains_at items (k - 1) tie inside)) in
    let at : slice_get (nodes f) p ≡ Some n = subst (λ l. slice_get l p ≡ Some n) (sym so_far.grown.is) (at_kept (nodes c.args.found.now) so_far.grown.more p n c.requires.found) in
    let m : Node = c.to-to.result in
    let goes : goes_by G B mode n m tie ≡ true = subst (λ m. goes_by G B mode n m tie ≡ true) (sym c.to-to.ensures)
    (goes_when (same_node tie.to tie.to) (mode_takes mode tie) (not (is_shut G B n tie)) (sym c.goes_by.ensures.goes ∙ c.if-goes_by.true) ∙ node_itself tie.to) in
    record {
      over = c.loop-index.invariant.over;
      following = subst (IsFollowing G B mode n p c.args.found.now f old aways) (sym from_here)
          (following_back G B mode n p c.args.found.now f old aways (drop k items) so_far m (record { ref_ptr = c.args.place.ref_ptr; now = tie })
          (c.was_found_from.ensures.found c.if-not-was_found_from.false) (c.was_found_from.ensures.from c.if-not-was_found_from.false) c.loop-index.invariant.over.distinct at c.requires.opened stands goes);
      rises = omega (arith, c.goes_by.ensures.never_falls, c.loop-index.invariant.rises);
      counted = λ stay. omega (arith, c.goes_by.ensures.once (stay tie stands), c.loop-index.invariant.counted stay);
    }

pub loop-index-preserved : goal.loop-index-preserved
loop-index-preserved g c =
    let G = g.G.Ground.stars_and_areas c.args.over.now in
    let B = c.args.barriers.now in
    let mode = c.args.mode in
    let n = c.args.place.now.node in
    let p = c.args.place.now.number in
    let items : List Tie = c.ties-ties.result.now in
    let k = c.loop-index.index in
    let f : Found = c.loop-index.found in
    let tie : Tie = c.index-ties-index.result in
    let old : List Away = c.args.aways.now.items in
    let aways : List Away = c.loop-index.aways.items in
    let so_far = c.loop-index.invariant.following in
    let of_node : ties G n ≡ items = ap (λ o. option_map_or (λ s. s.ties) o []) c.requires.entry ∙ sym c.ties-ties.ensures in
    let inside : k - 1 < length items = omega (arith, c.loop-index-test.true, c.loop-index.auto.index) in
    let from_here : drop (k - 1) items ≡ tie ∷ drop k items = from_on items k tie _ c.loop-index-test.true c.loop-index.auto.index c.index-ties-index.is in
    let stands : Contains (ties G n) tie = subst (λ l. Contains l tie) (sym of_node) (subst (Contains items) (sym c.index-ties-index.is) (contains_at items (k - 1) tie inside)) in
    record {
      over = c.loop-index.invariant.over;
      following = subst (IsFollowing G B mode n p c.args.found.now f old aways) (sym from_here)
          (following_not G B mode n p c.args.found.now f old aways (drop k items) so_far tie
          (λ x. goes_not (same_node tie.to x) (mode_takes mode tie) (not (is_shut G B n tie)) (sym c.goes_by.ensures.goes ∙ c.if-goes_by.false)));
      rises = omega (arith, c.goes_by.ensures.never_falls, c.loop-index.invariant.rises);
      counted = λ stay. omega (arith, c.goes_by.ensures.once (stay tie stands), c.loop-index.invariant.counted stay);
    }

pub returns-clause-next : goal.returns-clause-next
returns-clause-next g c = c.loop-index.invariant.following.grown

pub returns-clause-follows : goal.returns-clause-follows
returns-clause-follows g c =
    let G = g.G.Ground.stars_and_areas c.args.over.now in
    let n = c.args.place.now.node in
    let items : List Tie = c.ties-ties.result.now in
    let of_node : ties G n ≡ items = ap (λ o. option_map_or (λ s. s.ties) o []) c.requires.entry ∙ sym c.ties-ties.ensures in
    let none_left : c.loop-index.index ≡ 0 = omega (arith, c.loop-index-test.false) in
    let following = subst (IsFollowing G c.args.barriers.now c.args.mode n c.args.place.now.number c.args.found.now c.loop-index.found c.args.aways.now.items c.loop-index.aways.items)
    (ap (λ k. drop k items) none_left ∙ sym of_node) c.loop-index.invariant.following in
    record { aways = following.aways; is = following.is; of = following.of; follows = following.follows }
