-- The lists of an isolation have exactly what their definitions say.
use Rattle.std.proofs.Common.{◌≡◌, Bool, true, not, ◌&&◌, List, ◌++◌, filter, ◌⊎◌, inl, inr, subst, Some, None}
use Rattle.std.specs.List.{list_any}
use Rattle.un_defs.specs.declared.port.Port.{Port}
use Rattle.un_defs.specs.declared.port.Node.{Node}
use Rattle.un_defs.specs.Reach.{Walk, IsReach}
use Rattle.un_defs.proofs.Rising.{Among}
use Rattle.un_defs.proofs.Members.{among_left, among_right, among_cases, among_from-filter, among-filter, among_from-map, among-map, contains_from_among, among_from_contains, among_from_list_any, list_any_from_among}
use Rattle.un_defs.proofs.LinkCases.{both_true, true_both}
use Rattle.un_defs.proofs.OrderLaws.{port_total, port_ties}
use Rattle.un_defs.proofs.Walking.{walk_from_start, walk_on, reached_have}
use Rattle.un_walk.proofs.Spreading.{reached_is_reach, has_from, from_has}
use Rattle.un_isolate.specs.Isolation.{Isolation, is_isolating, is_controlled, goes, goes_inside, inner_starts, IsInner, IsBorder, IsInTheWay, IsFirstInTheWay, IsIsolable, shut, IsPart}
use Rattle.un_isolate.specs.IsolationList.{has_node, steps_among, reached_among, ports_of, inner_nodes, border_nodes, first_in_the_way, part_behind}
use Rattle.un_isolate.specs.Laws.{InnerListLaw, BorderListLaw, FirstInTheWayLaw, PartListLaw}
use Rattle.un_isolate.proofs.Least.{least_is, is_least, least_none, none_least}
use Rattle.un_isolate.proofs.Separation.{inside_goes, plain_step, border_walk}

-- ---- what walks over some nodes reach

module _ (step : Node → Node → Bool) (nodes starts : List Node) where
  step_in : (n m : Node) → steps_among step nodes n m ≡ true → (has_node nodes n ≡ true) × (has_node nodes m ≡ true) × (step n m ≡ true)
  step_in n m e =
      let parts = both_true (has_node nodes n && has_node nodes m) (step n m) e in
      let ends = both_true (has_node nodes n) (has_node nodes m) parts.0 in
      (ends.0, ends.1, parts.1)

  pub in_step : (n m : Node) → Among nodes n → Among nodes m → step n m ≡ true → steps_among step nodes n m ≡ true
  in_step n m h g e =
      true_both (has_node nodes n && has_node nodes m) (step n m) (true_both (has_node nodes n) (has_node nodes m) (has_from nodes n h) (has_from nodes m g)) e

  pub reach_among : IsReach (steps_among step nodes) starts (reached_among step nodes starts)
  reach_among = reached_is_reach (steps_among step nodes) nodes starts (λ n m e. from_has nodes m (step_in n m e).1)

  module _ (within : (n : Node) → Among starts n → Among nodes n) where
    pub among_within : (n : Node) → Among (reached_among step nodes starts) n → Among nodes n
    among_within n h =
        reached_have (steps_among step nodes) starts (Among nodes) within (λ k m _ e. from_has nodes m (step_in k m e).1) n
        ((reach_among.exact n).0 (contains_from_among (reached_among step nodes starts) n h))

    -- where steps lead from the nodes to these alone
    pub among_is_reach : ((n m : Node) → Among nodes n → step n m ≡ true → Among nodes m) → IsReach step starts (reached_among step nodes starts)
    among_is_reach closed = record {
      rising = reach_among.rising;
      exact = λ n. ((λ h. wide n ((reach_among.exact n).0 h)), (λ w. (reach_among.exact n).1 (narrow n w).1));
    }
      where
        wide : (n : Node) → Walk (steps_among step nodes) starts n → Walk step starts n
        wide = reached_have (steps_among step nodes) starts (Walk step starts) (walk_from_start step starts) (λ n m w e. walk_on step starts n m w (step_in n m e).2)

        narrow : (n : Node) → Walk step starts n → Among nodes n × Walk (steps_among step nodes) starts n
        narrow = reached_have step starts (λ n. Among nodes n × Walk (steps_among step nodes) starts n)
            (λ n h. (within n h, walk_from_start (steps_among step nodes) starts n h))
            (λ n m p e. let there = closed n m p.0 e in (there, walk_on (steps_among step nodes) starts n m p.1 (in_step n m p.0 there e)))

-- ---- the lists

module _ (I : Isolation) (reached : List Node) (reach : IsReach (goes I) I.starts reached) where
  pub starts_in : (n : Node) → Among I.starts n → Among reached n
  starts_in n h = among_from_contains reached n ((reach.exact n).1 (walk_from_start (goes I) I.starts n h))

  pub goes_in : (n m : Node) → Among reached n → goes I n m ≡ true → Among reached m
  goes_in n m h e = among_from_contains reached m ((reach.exact m).1 (walk_on (goes I) I.starts n m ((reach.exact n).0 (contains_from_among reached n h)) e))

  inner_starts_in : (n : Node) → Among (inner_starts I) n → Among reached n
  inner_starts_in n h = starts_in n (among_from-filter (λ n. not (is_isolating I n)) I.starts n h).0

  pub inner_listed : IsReach (goes_inside I) (inner_starts I) (inner_nodes I reached)
  inner_listed = among_is_reach (goes_inside I) reached (inner_starts I) inner_starts_in (λ n m h e. goes_in n m h (inside_goes I n m e))

  pub from_inner : (n : Node) → Among (inner_nodes I reached) n → IsInner I n
  from_inner n h = (inner_listed.exact n).0 (contains_from_among (inner_nodes I reached) n h)

  pub among_inner : (n : Node) → IsInner I n → Among (inner_nodes I reached) n
  among_inner n w = among_from_contains (inner_nodes I reached) n ((inner_listed.exact n).1 w)

  abbrev in_border : Node → Bool
  in_border m = is_isolating I m && list_any (λ n. goes I n m) (inner_nodes I reached)

  pub from_border : (m : Node) → Among (border_nodes I reached) m → IsBorder I m
  from_border m h =
      let test = both_true (is_isolating I m) (list_any (λ n. goes I n m) (inner_nodes I reached)) (among_from-filter in_border reached m h).1 in
      let from = among_from_list_any (λ n. goes I n m) (inner_nodes I reached) test.1 in
      record { from = from.0; inner = from_inner from.0 from.1; linked = from.2; isolating = test.0 }

  pub among_border : (m : Node) → IsBorder I m → Among (border_nodes I reached) m
  among_border m b =
      among-filter in_border reached m (among_from_contains reached m ((reach.exact m).1 (border_walk I m b)))
      (true_both (is_isolating I m) (list_any (λ n. goes I n m) (inner_nodes I reached)) b.isolating
      (list_any_from_among (λ n. goes I n m) (inner_nodes I reached) b.from (among_inner b.from b.inner) b.linked))

  -- the inner nodes and the border
  abbrev pub zone : List Node
  zone = inner_nodes I reached ++ border_nodes I reached

  pub from_zone : (n : Node) → Among zone n → IsInner I n ⊎ IsBorder I n
  from_zone n h = elim (among_cases (inner_nodes I reached) (border_nodes I reached) n h) [
    | inl i ↦ inl (from_inner n i)
    | inr i ↦ inr (from_border n i)
  ]

  pub among_zone : (n : Node) → IsInner I n ⊎ IsBorder I n → Among zone n
  among_zone n place = elim place [
    | inl w ↦ among_left (inner_nodes I reached) (border_nodes I reached) n (among_inner n w)
    | inr b ↦ among_right (inner_nodes I reached) (border_nodes I reached) n (among_border n b)
  ]

  -- ---- what stands in the way

  abbrev blocked : List Port
  blocked = ports_of (filter (is_controlled I) zone)

  from_blocked : (q : Port) → Among blocked q → IsInTheWay I q
  from_blocked q h =
      let n = among_from-map (λ n. n.port) (filter (is_controlled I) zone) q h in
      let f = among_from-filter (is_controlled I) zone n.0 n.1 in
      record { node = n.0; place = from_zone n.0 f.0; controlled = f.1; port = n.2 }

  among_blocked : (q : Port) → IsInTheWay I q → Among blocked q
  among_blocked q way =
      subst (Among blocked) way.port
      (among-map (λ n. n.port) (filter (is_controlled I) zone) way.node (among-filter (is_controlled I) zone way.node (among_zone way.node way.place) way.controlled))

  pub first_from : (q : Port) → first_in_the_way I reached ≡ Some q → IsFirstInTheWay I q
  first_from q e =
      let l = least_is port_total port_ties blocked q e in
      record { one = from_blocked q l.0; least = λ r way. l.1 r (among_blocked r way) }

  pub first_is : (q : Port) → IsFirstInTheWay I q → first_in_the_way I reached ≡ Some q
  first_is q f = is_least port_total port_ties blocked q (among_blocked q f.one, λ r h. f.least r (from_blocked r h))

  pub isolable_from : first_in_the_way I reached ≡ None → IsIsolable I
  isolable_from e q way = least_none port_total port_ties blocked e q (among_blocked q way)

  pub none_first : IsIsolable I → first_in_the_way I reached ≡ None
  none_first isolable = none_least port_total port_ties blocked (λ q h. isolable q (from_blocked q h))

  -- ---- the part

  pub part_listed : (ports : List Port) → IsPart I ports (part_behind I reached ports)
  part_listed ports = among_is_reach (goes (shut I ports)) reached I.starts starts_in (λ n m h e. goes_in n m h (plain_step I ports n m e).0)

pub inner_list : InnerListLaw
inner_list I reached reach = inner_listed I reached reach

pub border_list : BorderListLaw
border_list I reached reach n = (
  (λ h. from_border I reached reach n (among_from_contains (border_nodes I reached) n h)),
  (λ b. contains_from_among (border_nodes I reached) n (among_border I reached reach n b)),
)

pub first_listed : FirstInTheWayLaw
first_listed I reached reach = ((λ q. (first_from I reached reach q, first_is I reached reach q)), (isolable_from I reached reach, none_first I reached reach))

pub part_list : PartListLaw
part_list I reached reach ports = part_listed I reached reach ports
