-- The list of walks from a node has those with few nodes and no others, and the best of it is the best of all walks.
use Rattle.std.proofs.Common.{◌≡◌, ℕ, zero, suc, ◌≤◌, ◌<◌, ◌⊎◌, Bool, true, List, [], ◌∷◌, length, filter, flat_map, Some, None, inl, inr, refl, sym, ap, subst, ◌∙◌, arith}
use Rattle.std.specs.Ordering.{is_le}
use Rattle.std.proofs.lemmas.Cmp.{tied_itself}
use Rattle.un_defs.specs.declared.port.Node.{Node}
use Rattle.un_defs.specs.Orders.{same_node}
use Rattle.un_defs.specs.Reach.{Follow, last_node, IsReach}
use Rattle.un_defs.proofs.Members.{among_from-filter, among-filter, among_from-map, among-map, among_from-flat_map, among-flat_map, contains_from_among, among_from_contains}
use Rattle.un_defs.proofs.Rising.{Among, TiesAreOne}
use Rattle.un_defs.proofs.Unique.{node_same, node_itself}
use Rattle.un_defs.proofs.Walking.{walk_on, walk_from_start}
use Rattle.un_walk.proofs.DirtMet.{least_among, least_low, none_low}
use Rattle.un_path.specs.Costs.{cost_after}
use Rattle.un_path.specs.Paths.{IsWalk, IsBestWalk, walk_cmp}
use Rattle.un_path.specs.WalkList.{walks_from, ends_in, walks_between, best_walk}
use Rattle.un_path.proofs.Ordered.{le_first, le_by, le_trans, walk_total, walk_ties}
use Rattle.un_path.proofs.Shortened.{shortened, distinct_few}

module _ (step : Node → Node → Bool) (nodes : List Node) where
  -- each walk of the list is one
  pub from_listed : (k : ℕ) (n : Node) (w : List Node) → Among (walks_from step nodes k n) w → (ms : List Node) × (w ≡ n ∷ ms) × Follow step n ms
  from_listed zero n w h = absurd h
  from_listed (suc k) n w (inl e) = ([], sym e, tt)
  from_listed (suc k) n w (inr h) =
      let (v, among, is) = among_from-map (λ ms. n ∷ ms) (flat_map (walks_from step nodes k) (filter (step n) nodes)) w h in
      let (m, next, here) = among_from-flat_map (walks_from step nodes k) (filter (step n) nodes) v among in
      let (ms, begins, follows) = from_listed k m v here in
      (m ∷ ms, sym is ∙ ap (λ l. n ∷ l) begins, ((among_from-filter (step n) nodes m next).1, follows))

  module _ (closed : (n m : Node) → Among nodes n → step n m ≡ true → Among nodes m) where
    -- walks stay among the nodes
    pub follow_within : (n : Node) (ms : List Node) → Among nodes n → Follow step n ms → (x : Node) → Among (n ∷ ms) x → Among nodes x
    follow_within n ms h f x (inl e) = subst (Among nodes) e h
    follow_within n [] h f x (inr i) = absurd i
    follow_within n (m ∷ ms) h f x (inr i) = follow_within m ms (closed n m h f.0) f.1 x i

    -- each walk with few nodes is in the list
    pub listed : (k : ℕ) (n : Node) (ms : List Node) → Among nodes n → Follow step n ms → length ms < k → Among (walks_from step nodes k n) (n ∷ ms)
    listed zero n ms h f few = absurd (omega arith)
    listed (suc k) n [] h f few = inl refl
    listed (suc k) n (m ∷ ms) h f few =
        let there = closed n m h f.0 in
        inr (among-map (λ ms. n ∷ ms) (flat_map (walks_from step nodes k) (filter (step n) nodes)) (m ∷ ms)
        (among-flat_map (walks_from step nodes k) (filter (step n) nodes) m (m ∷ ms) (among-filter (step n) nodes m there f.0) (listed k m ms there f.1 (omega arith))))

module _ (step : Node → Node → Bool) (cost : Node → Node → ℕ) (from : Node) (reached : List Node) (reach : IsReach step (from ∷ []) reached) where
  pub closed : (n m : Node) → Among reached n → step n m ≡ true → Among reached m
  closed n m h e = among_from_contains reached m ((reach.exact m).1 (walk_on step (from ∷ []) n m ((reach.exact n).0 (contains_from_among reached n h)) e))

  pub starts : Among reached from
  starts = among_from_contains reached from ((reach.exact from).1 (walk_from_start step (from ∷ []) from (inl refl)))

  -- the list of walks between two nodes has walks alone
  pub is_walk : (to : Node) (w : List Node) → Among (walks_between step reached from to) w → IsWalk step from to w
  is_walk to w h =
      let both = among_from-filter (ends_in to) (walks_from step reached (length reached) from) w h in
      let (ms, begins, follows) = from_listed step reached (length reached) from w both.0 in
      record { rest = ms; begins = begins; follows = follows; ends = node_same (last_node from ms) to (ap (ends_in to) (sym begins) ∙ both.1) }

  -- and for each walk one that does not come after it
  pub one_before : (to : Node) (others : List Node) → IsWalk step from to others
      → (w : List Node) × Among (walks_between step reached from to) w × (is_le (walk_cmp cost w others) ≡ true)
  one_before to others w =
      let (ks, short) = shortened step cost from w.rest w.follows in
      let few = distinct_few (from ∷ ks) reached short.distinct (follow_within step reached closed from ks starts short.follows) in
      let here = listed step reached closed (length reached) from ks starts short.follows (omega (arith, few)) in
      let ends : same_node (last_node from ks) to ≡ true = ap (λ n. same_node n to) (short.ends ∙ w.ends) ∙ node_itself to in (
        from ∷ ks,
        among-filter (ends_in to) (walks_from step reached (length reached) from) (from ∷ ks) here ends,
        ap (λ l. is_le (walk_cmp cost (from ∷ ks) l)) w.begins ∙ before ks short.costs short.fewer,
      )
    where
      before : (ks : List Node) → cost_after cost from ks ≤ cost_after cost from w.rest → (ks ≡ w.rest) ⊎ (length ks < length w.rest) → is_le (walk_cmp cost (from ∷ ks) (from ∷ w.rest)) ≡ true
      before ks low (inl e) = ap (λ l. is_le (walk_cmp cost (from ∷ ks) (from ∷ l))) (sym e) ∙ ap is_le (tied_itself (walk_total cost) (from ∷ ks))
      before ks low (inr fewer) =
          le_first (cost_after cost from ks) (cost_after cost from w.rest) _ low (λ _.
          le_first (length (from ∷ ks)) (length (from ∷ w.rest)) _ (omega arith) (λ same. absurd (omega arith)))

  ties : (to : Node) → TiesAreOne (walk_cmp cost) (walks_between step reached from to)
  ties to x y h g e = walk_ties cost x y e

  -- the first of the list comes before all walks
  pub best_is : (to : Node) (w : List Node) → best_walk step cost from reached to ≡ Some w → IsBestWalk step cost from to w
  best_is to w e = record {
    walk = is_walk to w (least_among (walk_total cost) (walks_between step reached from to) w e);
    best = λ others v.
        let (x, among, early) = one_before to others v in
        let low = least_low (walk_total cost) (walks_between step reached from to) w x (ties to) e among in
        le_trans (walk_total cost) w x others (le_by (walk_total cost) w x low) early;
  }

  -- and where the list is empty there is no walk
  pub none_is : (to : Node) → best_walk step cost from reached to ≡ None → (others : List Node) → IsWalk step from to others → ⊥
  none_is to e others v =
      let (x, among, early) = one_before to others v in
      none_low (walk_total cost) (walks_between step reached from to) x (ties to) e among
