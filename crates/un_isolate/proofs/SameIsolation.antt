-- Two grounds give one answer where the reached nodes have the same entries in both.
use Rattle.std.proofs.Common.{◌≡◌, Bool, true, false, ◌&&◌, ◌||◌, ◌==◌, not, List, [], ◌++◌, filter, Option, Some, None, refl, sym, ap, subst, ◌∙◌, inl, inr}
use Rattle.std.specs.List.{list_any}
use Rattle.std.specs.Option.{option_map_or}
use Rattle.un_geom.specs.Places.{covers}
use Rattle.un_defs.specs.declared.port.Port.{Port}
use Rattle.un_defs.specs.declared.port.Node.{Node}
use Rattle.un_defs.specs.declared.link.Tie.{Tie}
use Rattle.un_defs.specs.declared.walk.Mode.TheVariants.{Any}
use Rattle.un_defs.specs.declared.walk.Barriers.{Barriers}
use Rattle.un_defs.specs.declared.walk.Dirt.{Dirt}
use Rattle.un_defs.specs.Orders.{rising, least, port_cmp, same_port, same_node}
use Rattle.un_defs.specs.Ground.{Ground, entry, ties}
use Rattle.un_defs.specs.Reach.{leads, is_open, meets_condition, is_path, is_shut, goes_by, dirt}
use Rattle.un_defs.proofs.Rising.{Among}
use Rattle.un_defs.proofs.Members.{among_cases, among_from-filter, contains_from_among, among_from_contains}
use Rattle.un_defs.proofs.ListLemmas.{filter-agree, any-agree}
use Rattle.un_defs.proofs.Unique.{node_same}
use Rattle.un_defs.proofs.Walking.{walk_from_start}
use Rattle.un_walk.specs.Spread.{reached_in}
use Rattle.un_walk.proofs.Spreading.{from_has}
use Rattle.un_ask.specs.declared.typed.TypedAsk.{TypedAsk}
use Rattle.un_ask.specs.declared.reply.Reply.TheVariants.{Isolation as IsolationReply}
use Rattle.un_isolate.specs.Parts.{parts}
use Rattle.un_isolate.specs.Isolation.{Isolation, isolates, is_isolating, is_controlled, goes, goes_inside, inner_starts, shut}
use Rattle.un_isolate.specs.IsolationList.{has_node, steps_among, reached_among, ports_of, inner_nodes, border_nodes, border_ports, first_in_the_way, part_behind, is_needed, needed_ports, part_nodes}
use Rattle.un_isolate.specs.Answer.{isolation_of, isolation_given_way, isolation_given_dirt, isolation_reply}
use Rattle.un_isolate.specs.Laws.{SameIsolationLaw}
use Rattle.un_isolate.proofs.Listing.{among_within}

-- steps that agree between the nodes reach the same
module _ (nodes : List Node) (s t : Node → Node → Bool) (agree : (n m : Node) → Among nodes n → Among nodes m → s n m ≡ t n m) where
  same_steps : (n m : Node) → steps_among s nodes n m ≡ steps_among t nodes n m
  same_steps n m = go (has_node nodes n) (has_node nodes m) refl refl
    where
      go : (a b : Bool) → has_node nodes n ≡ a → has_node nodes m ≡ b → ((a && b) && s n m) ≡ ((a && b) && t n m)
      go true true e f = agree n m (from_has nodes n e) (from_has nodes m f)
      go true false e f = refl
      go false b e f = refl

  pub same_reached : (starts : List Node) → reached_among s nodes starts ≡ reached_among t nodes starts
  same_reached starts = λ i. reached_in (λ n m. same_steps n m i) nodes starts

module _ (G H : Ground) (areas : G.areas ≡ H.areas) (nodes : List Node) (same : (n : Node) → Among nodes n → entry G n ≡ entry H n) where
  same_open : (B : Barriers) (n : Node) → Among nodes n → is_open G B n ≡ is_open H B n
  same_open B n h =
      λ i. not (option_map_or (meets_condition B) (same n h i) false || list_any (same_port n.port) B.stops) && not (B.consistent && list_any (λ area. covers area.1 n.at) (areas i))

  same_shut : (B : Barriers) (n : Node) (t : Tie) → Among nodes n → Among nodes t.to → is_shut G B n t ≡ is_shut H B n t
  same_shut B n t h k =
      λ i. is_path t.name
      && option_map_or
      (λ tier. option_map_or (λ s. option_map_or (λ c. c.tier == tier) s.controller false) (same n h i) false
      || option_map_or (λ s. option_map_or (λ c. c.tier == tier) s.controller false) (same t.to k i) false) B.tier false

  same_goes_by : (B : Barriers) (n m : Node) → Among nodes n → Among nodes m → (t : Tie) → goes_by G B Any n m t ≡ goes_by H B Any n m t
  same_goes_by B n m h k t = go (same_node t.to m) refl
    where
      go : (b : Bool) → same_node t.to m ≡ b → (b && true && not (is_shut G B n t)) ≡ (b && true && not (is_shut H B n t))
      go true e = λ i. true && true && not (same_shut B n t h (subst (Among nodes) (sym (node_same t.to m e)) k) i)
      go false e = refl

  pub same_leads : (B : Barriers) (n m : Node) → Among nodes n → Among nodes m → leads G B Any n m ≡ leads H B Any n m
  same_leads B n m h k =
      (λ i. same_open B n h i && list_any (goes_by G B Any n m) (option_map_or (λ s. s.ties) (same n h i) []))
      ∙ ap (λ found. is_open H B n && found) (any-agree (goes_by G B Any n m) (goes_by H B Any n m) (ties H n) (λ t _. same_goes_by B n m h k t))

  module _ (ask : TypedAsk) (within : (n : Node) → Among ask.starts n → Among nodes n) where
    abbrev I : Isolation
    I = isolation_of G ask

    abbrev J : Isolation
    J = isolation_of H ask

    same_isolating : (n : Node) → Among nodes n → is_isolating I n ≡ is_isolating J n
    same_isolating n h = ap (λ o. option_map_or (isolates ask.isolators) o false) (same n h)

    same_controlled : (n : Node) → Among nodes n → is_controlled I n ≡ is_controlled J n
    same_controlled n h =
        λ i. option_map_or (λ tier. option_map_or (λ s. option_map_or (λ c. c.tier == tier) s.controller false) (same n h i) false) ask.barriers.tier false

    same_inside : (n m : Node) → Among nodes n → Among nodes m → goes_inside I n m ≡ goes_inside J n m
    same_inside n m h k = λ i. not (same_isolating n h i) && not (same_isolating m k i) && same_leads ask.barriers n m h k i

    same_starts : inner_starts I ≡ inner_starts J
    same_starts = filter-agree (λ n. not (is_isolating I n)) (λ n. not (is_isolating J n)) ask.starts (λ n h. ap not (same_isolating n (within n h)))

    same_inner : inner_nodes I nodes ≡ inner_nodes J nodes
    same_inner = ap (reached_among (goes_inside I) nodes) same_starts ∙ same_reached nodes (goes_inside I) (goes_inside J) same_inside (inner_starts J)

    inner_within : (n : Node) → Among (inner_nodes I nodes) n → Among nodes n
    inner_within = among_within (goes_inside I) nodes (inner_starts I) (λ n h. within n (among_from-filter (λ n. not (is_isolating I n)) ask.starts n h).0)

    same_border : border_nodes I nodes ≡ border_nodes J nodes
    same_border =
        filter-agree (λ m. is_isolating I m && list_any (λ n. goes I n m) (inner_nodes I nodes)) (λ m. is_isolating J m && list_any (λ n. goes J n m) (inner_nodes J nodes)) nodes
        (λ m k. (λ i. same_isolating m k i && any-agree (λ n. goes I n m) (λ n. goes J n m) (inner_nodes I nodes) (λ n h. same_leads ask.barriers n m (inner_within n h) k) i)
        ∙ ap (λ inner. is_isolating J m && list_any (λ n. goes J n m) inner) same_inner)

    zone_within : (n : Node) → Among (inner_nodes I nodes ++ border_nodes I nodes) n → Among nodes n
    zone_within n h = elim (among_cases (inner_nodes I nodes) (border_nodes I nodes) n h) [
      | inl i ↦ inner_within n i
      | inr i ↦ (among_from-filter (λ m. is_isolating I m && list_any (λ n. goes I n m) (inner_nodes I nodes)) nodes n i).0
    ]

    pub same_first : first_in_the_way I nodes ≡ first_in_the_way J nodes
    same_first =
        ap (λ l. least port_cmp (ports_of l)) (filter-agree (is_controlled I) (is_controlled J) (inner_nodes I nodes ++ border_nodes I nodes) (λ n h. same_controlled n (zone_within n h)))
        ∙ (λ i. least port_cmp (ports_of (filter (is_controlled J) (same_inner i ++ same_border i))))

    same_part : (ports : List Port) → part_behind I nodes ports ≡ part_behind J nodes ports
    same_part ports = same_reached nodes (goes (shut I ports)) (goes (shut J ports)) (λ n m h k. same_leads (shut I ports).barriers n m h k) ask.starts

    same_test : (b : Port) → is_needed I nodes b ≡ is_needed J nodes b
    same_test b =
        let others : List Port = filter (λ q. not (same_port q b)) (border_ports I nodes) in
        any-agree (is_controlled I) (is_controlled J) (part_behind I nodes others) (λ n h. same_controlled n (among_within (goes (shut I others)) nodes ask.starts within n h))
        ∙ ap (list_any (is_controlled J)) (same_part others)
        ∙ ap (λ border. list_any (is_controlled J) (part_behind J nodes (filter (λ q. not (same_port q b)) (rising port_cmp (ports_of border))))) same_border

    pub same_needed : needed_ports I nodes ≡ needed_ports J nodes
    same_needed =
        filter-agree (is_needed I nodes) (is_needed J nodes) (border_ports I nodes) (λ b _. same_test b)
        ∙ ap (λ border. filter (is_needed J nodes) (rising port_cmp (ports_of border))) same_border

    pub same_part_nodes : part_nodes I nodes ≡ part_nodes J nodes
    same_part_nodes = same_part (needed_ports I nodes) ∙ ap (part_behind J nodes) same_needed

pub same_isolation : SameIsolationLaw
same_isolation G H ask reached areas reach entries = go (dirt G reached) refl
  where
    within : (n : Node) → Among ask.starts n → Among reached n
    within n h = among_from_contains reached n ((reach.exact n).1 (walk_from_start (leads G ask.barriers Any) ask.starts n h))

    over : dirt G reached ≡ dirt H reached
    over = λ i. dirt (record { stars = G.stars; areas = areas i }) reached

    way_same : (o : Option Port) → ((n : Node) → Among reached n → entry G n ≡ entry H n) → isolation_given_way o (isolation_of G ask) reached ≡ isolation_given_way o (isolation_of H ask) reached
    way_same (Some q) same = refl
    way_same None same =
        λ i. IsolationReply (same_needed G H areas reached same ask within i) (parts (same_part_nodes G H areas reached same ask within i)) 0

    go : (o : Option Dirt) → dirt G reached ≡ o → isolation_reply G ask reached ≡ isolation_reply H ask reached
    go (Some d) e =
        ap (λ o. isolation_given_dirt o G ask reached) e ∙ sym (ap (λ o. isolation_given_dirt o H ask reached) (sym over ∙ e))
    go None e =
        let same : (n : Node) → Among reached n → entry G n ≡ entry H n = λ n h. entries e n (contains_from_among reached n h) in
        ap (λ o. isolation_given_dirt o G ask reached) e
        ∙ way_same (first_in_the_way (isolation_of G ask) reached) same
        ∙ ap (λ o. isolation_given_way o (isolation_of H ask) reached) (same_first G H areas reached same ask within)
        ∙ sym (ap (λ o. isolation_given_dirt o H ask reached) (sym over ∙ e))
