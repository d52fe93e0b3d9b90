-- What walks reach over the kept topology is what they reach over all features, and over what the history leaves.
use Rattle.std.proofs.Common.{◌≡◌, ◌&&◌, Bool, true, false, List, [], ◌∷◌, ◌++◌, map, flat_map, find, Option, Some, None, refl, subst, ◌⊎◌, inl, inr, IsTrue, if◌then◌else◌}
use Rattle.std.specs.List.{list_any}
use Rattle.std.specs.Option.{option_map_or}
use Rattle.un_geom.specs.declared.point.Point.{Point}
use Rattle.un_geom.specs.Places.{same_point}
use Rattle.un_schema.specs.Catalog.{Catalog}
use Rattle.un_ask.specs.declared.request.Command.{Command}
use Rattle.un_tiers.specs.declared.setup.Setup.{Setup}
use Rattle.un_defs.specs.declared.port.Node.{Node}
use Rattle.un_defs.specs.declared.star.Spot.{Spot}
use Rattle.un_defs.specs.declared.walk.Mode.{Mode}
use Rattle.un_defs.specs.declared.walk.Barriers.{Barriers}
use Rattle.un_defs.specs.Features.{Features}
use Rattle.un_defs.specs.Orders.{same_port, same_node}
use Rattle.un_defs.specs.Star.{star, empty_star, standing_points}
use Rattle.un_defs.specs.Sound.{IsSound}
use Rattle.un_defs.specs.Ground.{Ground, entry, ties}
use Rattle.un_defs.specs.Reach.{IsReach, leads, is_open, goes_by, mode_takes}
use Rattle.un_defs.proofs.Rising.{Among, sorted_unique}
use Rattle.un_defs.proofs.Members.{among_left, among_right, among-map, among-flat_map, among_from_list_any, contains_from_among, among_from_contains}
use Rattle.un_defs.proofs.OrderLaws.{node_total}
use Rattle.un_defs.proofs.LinkCases.{both_true}
use Rattle.un_defs.proofs.Unique.{node_same, point_same}
use Rattle.un_defs.proofs.Empty.{empty_elsewhere}
use Rattle.un_defs.proofs.TwoGrounds.{two_grounds}
use Rattle.un_core.specs.State.{State, kept_ground, fresh_star}
use Rattle.un_core.specs.History.{after_all, kept_after, history_ground, points_before, rebuilds}
use Rattle.un_core.specs.Cover.{IsState, IsOfHistory, MayAllHappen}
use Rattle.un_core.specs.Walked.{Survey, reached, linked_at}
use Rattle.un_core.specs.Answers.{fresh_survey}
use Rattle.un_core.specs.HistoryAnswers.{history_survey}
use Rattle.un_core.proofs.Opening.{all_states}
use Rattle.un_core.proofs.Rebuilding.{bare_unless}
use Rattle.un_walk.proofs.Spreading.{reached_is_reach}

-- a reach is one list
pub reach_unique : (step : Node → Node → Bool) (starts xs ys : List Node) → IsReach step starts xs → IsReach step starts ys → xs ≡ ys
reach_unique step starts xs ys rx ry =
    sorted_unique node_total xs ys rx.rising ry.rising
    (λ n h. among_from_contains ys n ((ry.exact n).1 ((rx.exact n).0 (contains_from_among xs n h))))
    (λ n h. among_from_contains xs n ((rx.exact n).1 ((ry.exact n).0 (contains_from_among ys n h))))

-- the points are all at which the ground has something
abbrev pub HasPoints : Survey → Type 0
HasPoints v = (p : Point) → Among v.points p ⊎ (v.topology.stars p ≡ empty_star)

found_spot : (q : Spot → Bool) (xs : List Spot) (s : Spot) → find q xs ≡ Some s → Among xs s
found_spot q [] s e = absurd (none_some e)
  where
    none_some : None ≡ Some s → ⊥
    none_some e = cc
found_spot q (x ∷ xs) s e = go (q x) (found_spot q xs s) e
  where
    go : (b : Bool) → (find q xs ≡ Some s → Among xs s) → (if b then Some x else find q xs) ≡ Some s → Among (x ∷ xs) s
    go true rest e = inl (some_same e)
      where
        some_same : {x s : Spot} → Some x ≡ Some s → x ≡ s
        some_same e = cc
    go false rest e = inr (rest e)

module _ (v : Survey) (has : HasPoints v) (B : Barriers) (mode : Mode) where
  abbrev G : Ground
  G = v.topology

  abbrev points : List Point
  points = v.points

  -- a step leads to a node to which some entry has a link
  named : (n m : Node) → leads G B mode n m ≡ true → Among (flat_map (linked_at G) points) m
  named n m e =
      let parts = both_true (is_open G B n) (list_any (goes_by G B mode n m) (ties G n)) e in
      let tie = among_from_list_any (goes_by G B mode n m) (ties G n) parts.1 in
      let to : (tie.0).to ≡ m = node_same (tie.0).to m (both_true (same_node (tie.0).to m) (mode_takes mode tie.0) (both_true (same_node (tie.0).to m && mode_takes mode tie.0) _ tie.2).0).0 in
      go (entry G n) refl tie.0 tie.1 to
    where
      go : (o : Option Spot) → entry G n ≡ o → (t : _) → Among (ties G n) t → t.to ≡ m → Among (flat_map (linked_at G) points) m
      go None e t i to = absurd (subst (λ o. Among (option_map_or (λ s. s.ties) o []) t) e i)
      go (Some s) e t i to =
          let there : Among (G.stars n.at).spots s = found_spot (λ s. same_port s.port n.port) (G.stars n.at).spots s e in
          let tied : Among s.ties t = subst (λ o. Among (option_map_or (λ s. s.ties) o []) t) e i in
          elim (has n.at) [
            | inl p ↦ among-flat_map (linked_at G) points n.at m p
                (among-flat_map (λ s. map (λ t. t.to) s.ties) (G.stars n.at).spots s m there (subst (Among (map (λ t. t.to) s.ties)) to (among-map (λ t. t.to) s.ties t tied)))
            | inr none ↦ absurd (subst (λ star. Among star.spots s) none there)
          ]

  -- the list has what walks reach
  pub reached_reaches : (starts : List Node) → IsReach (leads G B mode) starts (reached v B mode starts)
  reached_reaches starts = reached_is_reach (leads G B mode) (flat_map (linked_at G) points) starts named

  pub reached_here : (starts nodes : List Node) → IsReach (leads G B mode) starts nodes → nodes ≡ reached v B mode starts
  reached_here starts nodes is = reach_unique (leads G B mode) starts nodes (reached v B mode starts) is (reached_reaches starts)

-- ---- all features

pub fresh_points : (S : Catalog) (F : Features) → IsSound S F → (p : Point) → Among (standing_points F) p ⊎ (star S F p ≡ empty_star)
fresh_points S F sound p = go (list_any (λ q. same_point q p) (standing_points F)) refl
  where
    go : (b : Bool) → list_any (λ q. same_point q p) (standing_points F) ≡ b → Among (standing_points F) p ⊎ (star S F p ≡ empty_star)
    go true e = let r = among_from_list_any (λ q. same_point q p) (standing_points F) e in inl (subst (Among (standing_points F)) (point_same r.0 p r.2) r.1)
    go false e = inr (empty_elsewhere S F sound p (bare_unless F p e))

-- in consistent mode, what is reached over what is kept is what is reached over all features
pub reached_fresh : (s : State) → IsState s → (B : Barriers) (mode : Mode) → IsTrue B.consistent → (starts nodes : List Node)
    → IsReach (leads (kept_ground s) B mode) starts nodes → nodes ≡ reached (fresh_survey s) B mode starts
reached_fresh s is B mode consistent starts nodes reach =
    reached_here (fresh_survey s) (fresh_points s.setup.schema s.features is.sound) B mode starts nodes
    (record {
      rising = reach.rising;
      exact = λ n. let both = two_grounds s.setup.schema s.features (kept_ground s) B mode starts is.cover consistent n in
          ((λ c. both.0 ((reach.exact n).0 c)), (λ w. (reach.exact n).1 (both.1 w)));
    })

-- ---- the history

pub history_points : (S : Setup) (history : List Command) → MayAllHappen S history → HasPoints (history_survey S history)
history_points S [] may p = inr refl
history_points S (c ∷ before) may p =
    go (rebuilds S before c p) (fresh_points (after_all S before).setup.schema (after_all S before).features (all_states S before may.1).sound p) (history_points S before may.1 p)
  where
    go : (b : Bool) → Among (standing_points (after_all S before).features) p ⊎ (fresh_star (after_all S before) p ≡ empty_star)
        → Among (points_before S before) p ⊎ (kept_after S before p ≡ empty_star)
        → Among (standing_points (after_all S before).features ++ points_before S before) p ⊎ ((if b then fresh_star (after_all S before) p else kept_after S before p) ≡ empty_star)
    go true here there = elim here [ inl i ↦ inl (among_left (standing_points (after_all S before).features) (points_before S before) p i) | inr n ↦ inr n ]
    go false here there = elim there [ inl i ↦ inl (among_right (standing_points (after_all S before).features) (points_before S before) p i) | inr n ↦ inr n ]

-- what is kept is what the history tells, as one ground
pub same_ground : (S : Setup) (history : List Command) → IsOfHistory S history → kept_ground (after_all S history) ≡ history_ground S history
same_ground S history is = λ i. record { stars = λ p. is.kept p i; areas = is.areas i }

pub reached_reply : (S : Setup) (history : List Command) → MayAllHappen S history → IsOfHistory S history → (B : Barriers) (mode : Mode) (starts nodes : List Node)
    → IsReach (leads (kept_ground (after_all S history)) B mode) starts nodes
    → nodes ≡ reached (history_survey S history) B mode starts
reached_reply S history may of_history B mode starts nodes reach =
    reached_here (history_survey S history) (history_points S history may) B mode starts nodes
    (subst (λ G. IsReach (leads G B mode) starts nodes) (same_ground S history of_history) reach)
