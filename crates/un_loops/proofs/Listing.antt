-- The list of loop segments has exactly these, and is the only such list.
use Rattle.std.proofs.Common.{◌≡◌, ℕ, slice_index, Bool, true, false, ◌&&◌, ◌==◌, not, List, [], ◌∷◌, filter, flat_map, Some, inl, inr, refl, sym, subst, eqb-true, true≢false}
use Rattle.std.specs.List.{list_any}
use Rattle.std.specs.Cmp.{IsTotalOrder}
use Rattle.std.specs.FinMap.{IsAntisymmetric}
use Rattle.un_defs.specs.declared.port.Node.{Node}
use Rattle.un_defs.specs.declared.link.LinkName.{LinkName}
use Rattle.un_defs.specs.declared.link.LinkName.TheVariants.{Seg, Path, Coin, Assoc}
use Rattle.un_defs.specs.declared.walk.Mode.TheVariants.{Any}
use Rattle.un_defs.specs.declared.walk.Barriers.{Barriers}
use Rattle.un_defs.specs.Ground.{Ground, ties}
use Rattle.un_defs.specs.Reach.{Walk, IsReach, leads, goes_by, is_open}
use Rattle.un_defs.proofs.Rising.{Among, among-rising, among_from-rising, sorted-rising, sorted_unique}
use Rattle.un_defs.proofs.Members.{contains_from_among, among_from_contains, among-filter, among_from-filter, among-flat_map, among-filter_map, among_from_list_any, list_any_from_among}
use Rattle.un_defs.proofs.OrderLaws.{by_numbers_total, by_numbers_ties}
use Rattle.un_defs.proofs.LinkCases.{both_true, true_both}
use Rattle.un_defs.proofs.Walking.{walk_from_start, walk_on, reached_have}
use Rattle.un_walk.proofs.Spreading.{reached_is_reach, has_from, from_has}
use Rattle.un_ask.specs.declared.results.Segment.{Segment}
use Rattle.un_loops.specs.Loops.{segment_cmp, is_named, goes_beside, leads_beside, IsLoop, AreLoops}
use Rattle.un_loops.specs.LoopList.{has_node, is_open_among, steps_beside, reached_beside, closes_loop, is_loop_segment, segment_of, segments_at, loop_segments}
use Rattle.un_loops.specs.Answer.{LoopListLaw}

-- ---- segments

abbrev numbers : Segment → List ℕ
numbers s = s.line ∷ s.index ∷ []

pub segment_total : IsTotalOrder segment_cmp
segment_total = by_numbers_total numbers

segment_from : List ℕ → Segment
segment_from xs = record { line = slice_index xs 0; index = slice_index xs 1 }

pub segment_ties : IsAntisymmetric segment_cmp
unfolding segment_from
segment_ties = by_numbers_ties numbers segment_from given
  where
    given : (s : Segment) → segment_from (numbers s) ≡ s
    given s = refl

untrue : {A : Type 0} → false ≡ true → A
untrue e = absurd (true≢false (sym e))

-- the name is of this segment alone
named_so : (s : Segment) (name : LinkName) → is_named s name ≡ true → segment_of name ≡ Some s
named_so s (Seg line index) e =
    let parts = both_true (line == s.line) (index == s.index) e in
    let lines = eqb-true line s.line parts.0 in
    let indices = eqb-true index s.index parts.1 in
    λ i. Some (record { line = lines i; index = indices i })
named_so s (Path device low high) e = untrue e
named_so s (Coin junction terminal line vertex) e = untrue e
named_so s (Assoc id) e = untrue e

-- ---- walks beside a segment

module _ (G : Ground) (B : Barriers) (starts reached : List Node) (reach : IsReach (leads G B Any) starts reached) where
  -- a walk beside a segment stays among the reached nodes
  closed : (s : Segment) (n m : Node) → Among reached n → leads_beside G B s n m ≡ true → Among reached m
  closed s n m i e =
      let parts = both_true (is_open G B n && is_open G B m) (list_any (goes_beside G B s n m) (ties G n)) e in
      let tie = among_from_list_any (goes_beside G B s n m) (ties G n) parts.1 in
      let goes = (both_true (goes_by G B Any n m tie.0) (not (is_named s (tie.0).name)) tie.2).0 in
      let on : leads G B Any n m ≡ true = true_both (is_open G B n) (list_any (goes_by G B Any n m) (ties G n)) (both_true (is_open G B n) (is_open G B m) parts.0).0
      (list_any_from_among (goes_by G B Any n m) (ties G n) tie.0 tie.1 goes) in
      among_from_contains reached m ((reach.exact m).1 (walk_on (leads G B Any) starts n m ((reach.exact n).0 (contains_from_among reached n i)) on))

  module _ (s : Segment) where
    abbrev step : Node → Node → Bool
    step = steps_beside G B reached s

    to_reached : (n m : Node) → step n m ≡ true → Among reached m
    to_reached n m e =
        from_has reached m (both_true (has_node reached n) (has_node reached m) (both_true (has_node reached n && has_node reached m) (leads_beside G B s n m) e).0).1

    module _ (first : Node) where
      abbrev IsWithin : Node → Type 0
      IsWithin n = Among reached n × Walk step (first ∷ []) n

      within : (to : Node) → Among reached first → Walk (leads_beside G B s) (first ∷ []) to → Walk step (first ∷ []) to
      within to i walk = (reached_have (leads_beside G B s) (first ∷ []) IsWithin begins goes_on to walk).1
        where
          begins : (n : Node) → Among (first ∷ []) n → IsWithin n
          begins n h = (elim h [ inl e ↦ subst (Among reached) e i | inr none ↦ absurd none ], walk_from_start step (first ∷ []) n h)

          goes_on : (n m : Node) → IsWithin n → leads_beside G B s n m ≡ true → IsWithin m
          goes_on n m p e =
              let there = closed s n m p.0 e in
              let both = true_both (has_node reached n) (has_node reached m) (has_from reached n p.0) (has_from reached m there) in
              (there, walk_on step (first ∷ []) n m p.1 (true_both (has_node reached n && has_node reached m) (leads_beside G B s n m) both e))

      without : (to : Node) → Walk step (first ∷ []) to → Walk (leads_beside G B s) (first ∷ []) to
      without to walk = reached_have step (first ∷ []) (Walk (leads_beside G B s) (first ∷ [])) (walk_from_start (leads_beside G B s) (first ∷ [])) goes_on to walk
        where
          goes_on : (n m : Node) → Walk (leads_beside G B s) (first ∷ []) n → step n m ≡ true → Walk (leads_beside G B s) (first ∷ []) m
          goes_on n m p e = walk_on (leads_beside G B s) (first ∷ []) n m p (both_true (has_node reached n && has_node reached m) (leads_beside G B s n m) e).1

      beside_is_reach : IsReach step (first ∷ []) (reached_beside G B reached s first)
      beside_is_reach = reached_is_reach step reached (first ∷ []) to_reached

    -- ---- one segment

    is_listed : IsLoop G B reached s → is_loop_segment G B reached s ≡ true
    is_listed loop =
        let n = loop.first in
        let t = loop.tie in
        let i = among_from_contains reached n loop.at_first.among in
        let j = among_from_contains reached t.to loop.at_second.among in
        let arrives = ((beside_is_reach n).exact t.to).1 (within n t.to i loop.walk) in
        let first_open = true_both (has_node reached n) (is_open G B n) (has_from reached n i) loop.at_first.opened in
        let second_open = true_both (has_node reached t.to) (is_open G B t.to) (has_from reached t.to j) loop.at_second.opened in
        let ends = true_both (is_open_among G B reached n) (is_open_among G B reached t.to) first_open second_open in
        let closes : closes_loop G B reached s n t ≡ true = true_both (is_named s t.name && (is_open_among G B reached n && is_open_among G B reached t.to)) (has_node (reached_beside G B reached s n) t.to)
        (true_both (is_named s t.name) (is_open_among G B reached n && is_open_among G B reached t.to) loop.named ends)
        (has_from (reached_beside G B reached s n) t.to (among_from_contains (reached_beside G B reached s n) t.to arrives)) in
        list_any_from_among (λ n. list_any (closes_loop G B reached s n) (ties G n)) reached n i
        (list_any_from_among (closes_loop G B reached s n) (ties G n) t (among_from_contains (ties G n) t loop.stands) closes)

    is_loop : is_loop_segment G B reached s ≡ true → IsLoop G B reached s
    is_loop e =
        let r = among_from_list_any (λ n. list_any (closes_loop G B reached s n) (ties G n)) reached e in
        let n = r.0 in
        let q = among_from_list_any (closes_loop G B reached s n) (ties G n) r.2 in
        let t = q.0 in
        let parts = both_true (is_named s t.name && (is_open_among G B reached n && is_open_among G B reached t.to)) (has_node (reached_beside G B reached s n) t.to) q.2 in
        let ends = both_true (is_named s t.name) (is_open_among G B reached n && is_open_among G B reached t.to) parts.0 in
        let opens = both_true (is_open_among G B reached n) (is_open_among G B reached t.to) ends.1 in
        let first_open = both_true (has_node reached n) (is_open G B n) opens.0 in
        let second_open = both_true (has_node reached t.to) (is_open G B t.to) opens.1 in
        let arrives = from_has (reached_beside G B reached s n) t.to parts.1 in
        record {
          first = n;
          tie = t;
          stands = contains_from_among (ties G n) t q.1;
          named = ends.0;
          at_first = record { among = contains_from_among reached n r.1; opened = first_open.1 };
          at_second = record { among = contains_from_among reached t.to (from_has reached t.to second_open.0); opened = second_open.1 };
          walk = without n t.to (((beside_is_reach n).exact t.to).0 (contains_from_among (reached_beside G B reached s n) t.to arrives));
        }

    -- a loop segment is a link of a reached node
    stands_there : IsLoop G B reached s → Among (flat_map (segments_at G) reached) s
    stands_there loop =
        among-flat_map (segments_at G) reached loop.first s (among_from_contains reached loop.first loop.at_first.among)
        (among-filter_map (λ t. segment_of t.name) (ties G loop.first) loop.tie s (among_from_contains (ties G loop.first) loop.tie loop.stands)
        (named_so s loop.tie.name loop.named))

  -- ---- the list

  abbrev candidates : List Segment
  candidates = flat_map (segments_at G) reached

  abbrev on_loops : List Segment
  on_loops = filter (is_loop_segment G B reached) candidates

  pub listed : AreLoops G B reached (loop_segments G B reached)
  listed = record {
    rising = sorted-rising segment_total on_loops;
    exact = λ s. (
      λ has. is_loop s (among_from-filter (is_loop_segment G B reached) candidates s (among_from-rising segment_cmp on_loops s (among_from_contains (loop_segments G B reached) s has))).1,
      λ loop. contains_from_among (loop_segments G B reached) s
          (among-rising segment_cmp on_loops (λ a b _ _ e. segment_ties a b e) s
          (among-filter (is_loop_segment G B reached) candidates s (stands_there s loop) (is_listed s loop))),
    );
  }

  pub only_list : (segments : List Segment) → AreLoops G B reached segments → segments ≡ loop_segments G B reached
  only_list segments are =
      sorted_unique segment_total segments (loop_segments G B reached) are.rising listed.rising
      (λ s h. among_from_contains (loop_segments G B reached) s ((listed.exact s).1 ((are.exact s).0 (contains_from_among segments s h))))
      (λ s h. among_from_contains segments s ((are.exact s).1 ((listed.exact s).0 (contains_from_among (loop_segments G B reached) s h))))

pub loops_listed : LoopListLaw
loops_listed G B starts reached reach = listed G B starts reached reach
