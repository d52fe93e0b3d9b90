-- Two grounds have the same steps between nodes that have the same entries in both, the same walks over them, and the same best walks.
use Rattle.std.proofs.Common.{◌≡◌, ℕ, zero, suc, ◌+◌, nat_cmp, Bool, true, false, ◌&&◌, ◌||◌, ◌==◌, not, if◌then◌else◌, List, [], ◌∷◌, length, reverse, map, filter, flat_map, Option, Some, None, refl, sym, ap, subst, ◌∙◌, inl, inr}
use Rattle.std.specs.Prelude.{unwrap_or, nat_le}
use Rattle.std.specs.List.{list_any, list_all}
use Rattle.std.specs.Ordering.{ordering_then}
use Rattle.std.specs.Cmp.Lexicographic.{slice_cmp}
use Rattle.std.specs.Option.{option_map, option_map_or}
use Rattle.un_geom.specs.Places.{covers}
use Rattle.un_defs.specs.declared.port.Node.{Node}
use Rattle.un_defs.specs.declared.link.Tie.{Tie}
use Rattle.un_defs.specs.declared.walk.Mode.TheVariants.{Any}
use Rattle.un_defs.specs.declared.walk.Barriers.{Barriers}
use Rattle.un_defs.specs.Orders.{least, node_cmp, same_port, same_node}
use Rattle.un_defs.specs.Ground.{Ground, entry, ties}
use Rattle.un_defs.specs.Reach.{IsReach, leads, is_open, meets_condition, is_path, is_shut, goes_by}
use Rattle.un_defs.proofs.ListLemmas.{filter-agree, any-agree, flat_map-agree}
use Rattle.un_defs.proofs.Members.{among_from-filter}
use Rattle.un_defs.proofs.Rising.{Among}
use Rattle.un_defs.proofs.Unique.{node_same}
use Rattle.un_walk.proofs.DirtMet.{least_is, least_among, least_low, none_low}
use Rattle.un_ask.specs.declared.typed.CheckAsk.{CheckAsk}
use Rattle.un_ask.specs.declared.typed.Weight.{Weight}
use Rattle.un_path.specs.Costs.{is_segment, segment_cost, link_cost, link_costs, step_cost, cost_after, walk_cost}
use Rattle.un_path.specs.Paths.{walk_cmp, ports_of, label_ports}
use Rattle.un_path.specs.Valid.{label_at}
use Rattle.un_path.specs.Verdict.{same_ports, is_label, keeps_step, keeps_steps, is_shown, shows_none, shows_walk, is_valid}
use Rattle.un_path.specs.WalkList.{walks_from, ends_in, walks_between, best_walk, best_cost, label_of, path_found}
use Rattle.un_path.proofs.Listed.{from_listed, follow_within, closed, starts}
use Rattle.un_path.proofs.Ordered.{walk_total, walk_ties}

all_agrees : {A : Type 0} (p q : A → Bool) (xs : List A) → ((x : A) → Among xs x → p x ≡ q x) → list_all p xs ≡ list_all q xs
all_agrees p q [] same = refl
all_agrees p q (x ∷ xs) same = λ i. same x (inl refl) i && all_agrees p q xs (λ y h. same y (inr h)) i

-- ---- steps and what they cost

module _ (G H : Ground) (areas : G.areas ≡ H.areas) (B : Barriers) (nodes : List Node) (same : (n : Node) → Among nodes n → entry G n ≡ entry H n) where
  same_ties : (n : Node) → Among nodes n → ties G n ≡ ties H n
  same_ties n h = ap (λ o. option_map_or (λ s. s.ties) o []) (same n h)

  same_open : (n : Node) → Among nodes n → is_open G B n ≡ is_open H B n
  same_open n h =
      λ i. not (option_map_or (meets_condition B) (same n h i) false || list_any (same_port n.port) B.stops) && not (B.consistent && list_any (λ area. covers area.1 n.at) (areas i))

  same_shut : (n : Node) (t : Tie) → Among nodes n → Among nodes t.to → is_shut G B n t ≡ is_shut H B n t
  same_shut n t h k =
      λ i. is_path t.name
      && option_map_or
      (λ tier. option_map_or (λ s. option_map_or (λ c. c.tier == tier) s.controller false) (same n h i) false
      || option_map_or (λ s. option_map_or (λ c. c.tier == tier) s.controller false) (same t.to k i) false) B.tier false

  same_goes_by : (n m : Node) → Among nodes n → Among nodes m → (t : Tie) → goes_by G B Any n m t ≡ goes_by H B Any n m t
  same_goes_by n m h k t = go (same_node t.to m) refl
    where
      go : (b : Bool) → same_node t.to m ≡ b → (b && true && not (is_shut G B n t)) ≡ (b && true && not (is_shut H B n t))
      go true e = λ i. true && true && not (same_shut n t h (subst (Among nodes) (sym (node_same t.to m e)) k) i)
      go false e = refl

  pub same_leads : (n m : Node) → Among nodes n → Among nodes m → leads G B Any n m ≡ leads H B Any n m
  same_leads n m h k =
      (λ i. same_open n h i && list_any (goes_by G B Any n m) (same_ties n h i))
      ∙ ap (λ found. is_open H B n && found) (any-agree (goes_by G B Any n m) (goes_by H B Any n m) (ties H n) (λ t _. same_goes_by n m h k t))

  pub same_cost : (w : Weight) (n m : Node) → Among nodes n → Among nodes m → step_cost G B w n m ≡ step_cost H B w n m
  same_cost w n m h k = ap (λ l. unwrap_or (least nat_cmp l) 0) costs
    where
      costs : link_costs G B w n m ≡ link_costs H B w n m
      costs =
          (λ i. map (λ (t : Tie). if is_segment t.name then option_map_or (λ s. segment_cost w s.attrs) (same n h i) 0 else 0) (filter (goes_by G B Any n m) (same_ties n h i)))
          ∙ ap (map (link_cost H w n)) (filter-agree (goes_by G B Any n m) (goes_by H B Any n m) (ties H n) (λ t _. same_goes_by n m h k t))

-- ---- walks by steps that agree

module _ (step other : Node → Node → Bool) (cost price : Node → Node → ℕ) (nodes : List Node)
    (steps : (n m : Node) → Among nodes n → Among nodes m → step n m ≡ other n m) (costs : (n m : Node) → Among nodes n → Among nodes m → cost n m ≡ price n m) where
  pub same_walks : (k : ℕ) (n : Node) → Among nodes n → walks_from step nodes k n ≡ walks_from other nodes k n
  same_walks zero n h = refl
  same_walks (suc k) n h =
      let next : filter (step n) nodes ≡ filter (other n) nodes = filter-agree (step n) (other n) nodes (λ m i. steps n m h i) in
      ap (λ ws. (n ∷ []) ∷ map (λ ms. n ∷ ms) ws)
      (ap (flat_map (walks_from step nodes k)) next
      ∙ flat_map-agree (walks_from step nodes k) (walks_from other nodes k) (filter (other n) nodes) (λ m i. same_walks k m (among_from-filter (other n) nodes m i).0))

  same_after : (n : Node) (ms : List Node) → ((x : Node) → Among (n ∷ ms) x → Among nodes x) → cost_after cost n ms ≡ cost_after price n ms
  same_after n [] within = refl
  same_after n (m ∷ ms) within = λ i. costs n m (within n (inl refl)) (within m (inr (inl refl))) i + same_after m ms (λ x h. within x (inr h)) i

  pub same_walk_cost : (w : List Node) → ((x : Node) → Among w x → Among nodes x) → walk_cost cost w ≡ walk_cost price w
  same_walk_cost [] within = refl
  same_walk_cost (n ∷ ms) within = same_after n ms within

  same_cmp : (v w : List Node) → ((x : Node) → Among v x → Among nodes x) → ((x : Node) → Among w x → Among nodes x) → walk_cmp cost v w ≡ walk_cmp price v w
  same_cmp v w in_v in_w = λ i. ordering_then (nat_cmp (same_walk_cost v in_v i) (same_walk_cost w in_w i)) (ordering_then (nat_cmp (length v) (length w)) (slice_cmp node_cmp (reverse v) (reverse w)))

  -- of walks among the nodes the first is the same
  same_first : (ws : List (List Node)) → ((w : List Node) → Among ws w → (x : Node) → Among w x → Among nodes x) → least (walk_cmp cost) ws ≡ least (walk_cmp price) ws
  same_first ws inside = go (least (walk_cmp cost) ws) (least (walk_cmp price) ws) refl refl
    where
      go : (o p : Option (List Node)) → least (walk_cmp cost) ws ≡ o → least (walk_cmp price) ws ≡ p → o ≡ p
      go None None e f = refl
      go None (Some v) e f = absurd (none_low (walk_total cost) ws v (λ x y _ _ t. walk_ties cost x y t) e (least_among (walk_total price) ws v f))
      go (Some v) p e f =
          let here = least_among (walk_total cost) ws v e in
          sym (least_is (walk_total price) ws v (λ x y _ _ t. walk_ties price x y t) here
          (λ x i less. least_low (walk_total cost) ws v x (λ x y _ _ t. walk_ties cost x y t) e i (same_cmp x v (inside x i) (inside v here) ∙ less)))
          ∙ f

  module _ (from : Node) (reach : IsReach step (from ∷ []) nodes) where
    -- the walks of the list stay among the nodes
    pub within : (k : ℕ) (w : List Node) → Among (walks_from step nodes k from) w → (x : Node) → Among w x → Among nodes x
    within k w h x i =
        let (ms, begins, follows) = from_listed step nodes k from w h in
        follow_within step nodes (closed step cost from nodes reach) from ms (starts step cost from nodes reach) follows x (subst (λ l. Among l x) begins i)

    between_within : (to : Node) (w : List Node) → Among (walks_between step nodes from to) w → (x : Node) → Among w x → Among nodes x
    between_within to w h = within (length nodes) w (among_from-filter (ends_in to) (walks_from step nodes (length nodes) from) w h).0

    same_list : (to : Node) → walks_between step nodes from to ≡ walks_between other nodes from to
    same_list to = ap (filter (ends_in to)) (same_walks (length nodes) from (starts step cost from nodes reach))

    same_best : (to : Node) → best_walk step cost from nodes to ≡ best_walk other price from nodes to
    same_best to = same_first (walks_between step nodes from to) (between_within to) ∙ ap (least (walk_cmp price)) (same_list to)

    same_cost_of : (to : Node) (o : Option (List Node)) → best_walk step cost from nodes to ≡ o → option_map (walk_cost cost) o ≡ option_map (walk_cost price) o
    same_cost_of to None e = refl
    same_cost_of to (Some w) e = ap Some (same_walk_cost w (between_within to w (least_among (walk_total cost) (walks_between step nodes from to) w e)))

    same_best_cost : (to : Node) → best_cost step cost from nodes to ≡ best_cost other price from nodes to
    same_best_cost to = same_cost_of to (best_walk step cost from nodes to) refl ∙ ap (option_map (walk_cost price)) (same_best to)

    same_labels : (ns : List Node) → map (label_of step cost from nodes) ns ≡ map (label_of other price from nodes) ns
    same_labels [] = refl
    same_labels (n ∷ ns) = λ i. record { port = n.port; cost = unwrap_or (same_best_cost n i) 0 } ∷ same_labels ns i

    pub same_found : (to : Node) (certificate : Bool) → path_found step cost from nodes to certificate ≡ path_found other price from nodes to certificate
    same_found to certificate =
        λ i. record {
          cost = same_best_cost to i;
          nodes = option_map_or ports_of (same_best to i) [];
          labels = if certificate then same_labels nodes i else [];
        }

  -- a certificate is judged the same
  module _ (ask : CheckAsk) (reach : IsReach step (ask.from ∷ []) nodes) where
    same_keeps : keeps_steps step cost nodes ask.labels ≡ keeps_steps other price nodes ask.labels
    same_keeps =
        all_agrees (λ n. list_all (keeps_step step cost ask.labels n) nodes) (λ n. list_all (keeps_step other price ask.labels n) nodes) nodes (λ n h.
        all_agrees (keeps_step step cost ask.labels n) (keeps_step other price ask.labels n) nodes (λ m k. λ i.
        not (steps n m h k i)
        || option_map_or (λ a. option_map_or (λ b. nat_le b (a + costs n m h k i)) (label_at ask.labels m.port) true) (label_at ask.labels n.port) true))

    same_shows : shows_walk step cost nodes ask ≡ shows_walk other price nodes ask
    same_shows =
        ap (λ found. shows_none nodes ask || found)
        (any-agree (is_shown cost ask) (is_shown price ask) (walks_from step nodes (length ask.nodes) ask.from) (λ w h. λ i.
        ends_in ask.to w && (same_ports ask.nodes (ports_of w) && is_label ask.labels ask.to (same_walk_cost w (within ask.from reach (length ask.nodes) w h) i)))
        ∙ ap (list_any (is_shown price ask)) (same_walks (length ask.nodes) ask.from (starts step cost ask.from nodes reach)))

    pub same_verdict : is_valid step cost nodes ask ≡ is_valid other price nodes ask
    same_verdict =
        λ i. same_ports (label_ports ask.labels) (ports_of nodes) && (is_label ask.labels ask.from 0 && (same_keeps i && same_shows i))
