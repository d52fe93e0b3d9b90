-- Marks on the places that walks along links reach are marks on the nodes that steps between these reach.
use Rattle.std.proofs.Common.{◌≡◌, ◌↔◌, ℕ, Bool, true, false, not, ◌&&◌, List, map, length, Some, sym, ap, subst, ◌∙◌}
use Rattle.std.specs.Prelude.{slice_get}
use Rattle.std.specs.Option.{option_map_or}
use Rattle.std.specs.List.Sorted.{IsStrictlySortedBy}
use Rattle.smallvec.specs.SmallVec.{SmallVec}
use Rattle.un_defs.specs.declared.port.Node.{Node}
use Rattle.un_defs.specs.Orders.{node_cmp}
use Rattle.un_defs.specs.Reach.{Walk}
use Rattle.un_defs.proofs.Rising.{Among}
use Rattle.un_defs.proofs.Members.{contains_from_among, among_from_contains}
use Rattle.un_defs.proofs.LinkCases.{both_true, true_both}
use Rattle.un_defs.proofs.Walking.{walk_from_start, walk_on, reached_have}
use Rattle.un_walk.proofs.Spreading.{has_from, from_has}
use Rattle.un_isolate.specs.IsolationList.{has_node, steps_among, reached_among}
use Rattle.un_isolate.specs.Links.{HasLink}
use Rattle.un_isolate.specs.Spread.{mark_at, AreReached}
use Rattle.un_isolate.proofs.Listing.{in_step, reach_among}
use Rattle.un_isolate.proofs.Places.{bool_same, place_of_among, among_place, mark_map, from_mark, marks_by_place, one_place}
use Rattle.un_isolate.proofs.Separation.{false_not}

module _ (reached : List Node) (sorted : IsStrictlySortedBy node_cmp reached) (step : Node → Node → Bool) where
  -- the links are the steps
  abbrev pub AreSteps : List (SmallVec ℕ) → Type 0
  AreSteps links = (i j : ℕ) → HasLink links i j ↔ ((n : Node) × (m : Node) × (slice_get reached i ≡ Some n) × (slice_get reached j ≡ Some m) × (step n m ≡ true))

  module _ (links : List (SmallVec ℕ)) (count : length links ≡ length reached) (are : AreSteps links) (start shut : Node → Bool) (starts : List Node)
      (is_start : (n : Node) → Among reached n → start n ≡ has_node starts n) (within : (n : Node) → Among starts n → Among reached n) where
    -- a step from a node that is not shut
    abbrev pub goes_on : Node → Node → Bool
    goes_on n m = not (shut n) && step n m

    abbrev pub found : List Node
    found = reached_among goes_on reached starts

    has_walk : (n : Node) → has_node found n ≡ true → Walk (steps_among goes_on reached) starts n
    has_walk n e = ((reach_among goes_on reached starts).exact n).0 (contains_from_among found n (from_has found n e))

    walk_has : (n : Node) → Walk (steps_among goes_on reached) starts n → has_node found n ≡ true
    walk_has n w = has_from found n (among_from_contains found n (((reach_among goes_on reached starts).exact n).1 w))

    module _ (marks : List Bool) (is : AreReached links (map start reached) (map shut reached) marks) where
      test : ℕ → Bool
      test i = option_map_or (has_node found) (slice_get reached i) false

      test_at : (i : ℕ) (n : Node) → slice_get reached i ≡ Some n → test i ≡ has_node found n
      unfolding test
      test_at i n e = ap (λ o. option_map_or (has_node found) o false) e

      marked_found : (i : ℕ) → mark_at marks i ≡ true → test i ≡ true
      marked_found = is.least test (record {
        begun = λ i e.
            let n = from_mark start reached i e in
            let here = among_place reached i n.0 n.1 in
            test_at i n.0 n.1 ∙ walk_has n.0 (walk_from_start (steps_among goes_on reached) starts n.0 (from_has starts n.0 (sym (is_start n.0 here) ∙ n.2)));
        onward = λ i j e opened link.
            let (n, m, at_n, at_m, goes) = (are i j).0 link in
            let free : shut n ≡ false = sym (mark_map shut reached i n at_n) ∙ opened in
            let w = has_walk n (sym (test_at i n at_n) ∙ e) in
            test_at j m at_m ∙ walk_has m (walk_on (steps_among goes_on reached) starts n m w
            (in_step goes_on reached starts n m (among_place reached i n at_n) (among_place reached j m at_m) (true_both (not (shut n)) (step n m) (ap not free) goes)));
      })

      abbrev HasMark : Node → Type 0
      HasMark n = (i : ℕ) × (slice_get reached i ≡ Some n) × (mark_at marks i ≡ true)

      found_marked : (n : Node) → Walk (steps_among goes_on reached) starts n → HasMark n
      found_marked = reached_have (steps_among goes_on reached) starts HasMark begins onward
        where
          begins : (n : Node) → Among starts n → HasMark n
          begins n h =
              let here = within n h in
              let place = place_of_among reached n here in
              (place.0, place.1, is.goes_on.begun place.0 (mark_map start reached place.0 n place.1 ∙ is_start n here ∙ has_from starts n h))

          onward : (n m : Node) → HasMark n → steps_among goes_on reached n m ≡ true → HasMark m
          onward n m p e =
              let parts = both_true (has_node reached n && has_node reached m) (goes_on n m) e in
              let place = place_of_among reached m (from_has reached m (both_true (has_node reached n) (has_node reached m) parts.0).1) in
              let goes = both_true (not (shut n)) (step n m) parts.1 in
              let opened = mark_map shut reached p.0 n p.1 ∙ false_not (shut n) goes.0 in
              (place.0, place.1, is.goes_on.onward p.0 place.0 p.2 opened ((are p.0 place.0).1 (n, m, p.1, place.1, goes.1)))

      pub marks_are : marks ≡ map (has_node found) reached
      marks_are = marks_by_place (has_node found) reached marks (is.count ∙ count)
          (λ i n at. bool_same (mark_at marks i) (has_node found n)
          (λ e. sym (test_at i n at) ∙ marked_found i e)
          (λ e. let p = found_marked n (has_walk n e) in subst (λ k. mark_at marks k ≡ true) (one_place reached sorted n p.0 i p.1 at) p.2))
