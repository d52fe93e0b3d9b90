-- Updates over two grounds with the same areas, and with the same entries at the reached nodes.
use Rattle.std.proofs.Common.{◌≡◌, ℕ, Bool, true, false, ◌&&◌, ◌||◌, ◌==◌, not, List, [], ◌∷◌, map, refl, sym, ap, subst, ◌∙◌, inl, inr, Option, Some, None, option_and_then, if◌then◌else◌}
use Rattle.std.specs.List.{list_any}
use Rattle.std.specs.Option.{option_map, option_map_or}
use Rattle.un_geom.specs.Places.{covers}
use Rattle.un_geom.specs.Rectangle.{Rectangle}
use Rattle.un_defs.specs.declared.port.Port.{Port}
use Rattle.un_defs.specs.declared.port.Node.{Node}
use Rattle.un_defs.specs.declared.link.Tie.{Tie}
use Rattle.un_defs.specs.declared.walk.Mode.TheVariants.{Any}
use Rattle.un_defs.specs.declared.walk.Barriers.{Barriers}
use Rattle.un_defs.specs.declared.walk.Dirt.{Dirt}
use Rattle.un_defs.specs.declared.refusal.Refusal.TheVariants.{Disjoint}
use Rattle.un_defs.specs.Orders.{least, port_cmp, same_port, same_node}
use Rattle.un_defs.specs.Ground.{Ground, entry, ties}
use Rattle.un_defs.specs.Reach.{is_open, meets_condition, is_path, is_shut, goes_by, leads, dirt}
use Rattle.un_defs.specs.Refusing.{first_refusal}
use Rattle.un_defs.proofs.Rising.{Among}
use Rattle.un_defs.proofs.Members.{contains_from_among}
use Rattle.un_defs.proofs.Unique.{node_same}
use Rattle.un_walk.specs.Spread.{reached_in}
use Rattle.un_walk.proofs.Spreading.{from_has}
use Rattle.un_ask.specs.declared.typed.TypedAsk.{TypedAsk}
use Rattle.un_ask.specs.declared.reply.Reply.TheVariants.{Updated, Refused}
use Rattle.un_walk.specs.Growth.{has_node}
use Rattle.un_subnet.specs.Alone.{leads_among, least_start, reached_alone, ports_outside}
use Rattle.un_subnet.specs.Refusals.{dirt_refusal, conflict_with, conflict_at, conflict_refusal, disjoint_refusal}
use Rattle.un_subnet.specs.Answer.{tier_of, subnet_of, walk_refusal, row_of}
use Rattle.un_subnet.specs.Outcome.{update_ask, has_controllers, no_subnet, no_room, unless_refused, stores, removes}
use Rattle.un_subnet.specs.Laws.{AreAlike, SameReplyLaw, SameOutcomeLaw}

any_agrees : {A : Type 0} (p q : A → Bool) (xs : List A) → ((x : A) → Among xs x → p x ≡ q x) → list_any p xs ≡ list_any q xs
any_agrees p q [] same = refl
any_agrees p q (x ∷ xs) same = λ i. same x (inl refl) i || any_agrees p q xs (λ y h. same y (inr h)) i

map_agrees : {A B : Type 0} (f g : A → B) (xs : List A) → ((x : A) → Among xs x → f x ≡ g x) → map f xs ≡ map g xs
map_agrees f g [] same = refl
map_agrees f g (x ∷ xs) same = λ i. same x (inl refl) i ∷ map_agrees f g xs (λ y h. same y (inr h)) i

-- the dirt of some nodes by the areas alone
abbrev dirt_by : List (ℕ × Rectangle) → List Node → Option Dirt
dirt_by areas nodes = dirt (record { stars = λ p. record { spots = []; errors = [] }; areas = areas }) nodes

same_dirt : (G H : Ground) → G.areas ≡ H.areas → (nodes : List Node) → dirt G nodes ≡ dirt H nodes
same_dirt G H areas nodes = λ i. dirt_by (areas i) nodes

module _ (G H : Ground) (areas : G.areas ≡ H.areas) (B : Barriers) (nodes : List Node) (same : (n : Node) → Among nodes n → entry G n ≡ entry H n) where
  same_conflict : (tier : ℕ) (subnet : List ℕ) → conflict_refusal G tier subnet nodes ≡ conflict_refusal H tier subnet nodes
  same_conflict tier subnet =
      ap first_refusal
      (map_agrees (conflict_at G tier subnet) (conflict_at H tier subnet) nodes
      (λ n h. ap (λ o. option_and_then (conflict_with tier subnet n.port) (option_and_then (λ s. s.controller) o)) (same n h)))

  same_ties : (n : Node) → Among nodes n → ties G n ≡ ties H n
  same_ties n h = ap (λ o. option_map_or (λ s. s.ties) o []) (same n h)

  same_open : (n : Node) → Among nodes n → is_open G B n ≡ is_open H B n
  same_open n h =
      λ i. not (option_map_or (meets_condition B) (same n h i) false || list_any (same_port n.port) B.stops) && not (B.consistent && list_any (λ area. covers area.1 n.at) (areas i))

  same_shut : (n : Node) (t : Tie) → Among nodes n → Among nodes t.to → is_shut G B n t ≡ is_shut H B n t
  same_shut n t h k =
      λ i. is_path t.name
      && option_map_or
      (λ tier. option_map_or (λ s. option_map_or (λ c. c.tier == tier) s.controller false) (same n h i) false
      || option_map_or (λ s. option_map_or (λ c. c.tier == tier) s.controller false) (same t.to k i) false) B.tier false

  same_goes : (n m : Node) → Among nodes n → Among nodes m → (t : Tie) → goes_by G B Any n m t ≡ goes_by H B Any n m t
  same_goes n m h k t = go (same_node t.to m) refl
    where
      go : (b : Bool) → same_node t.to m ≡ b → (b && true && not (is_shut G B n t)) ≡ (b && true && not (is_shut H B n t))
      go true e = λ i. true && true && not (same_shut n t h (subst (Among nodes) (sym (node_same t.to m e)) k) i)
      go false e = refl

  same_leads : (n m : Node) → Among nodes n → Among nodes m → leads G B Any n m ≡ leads H B Any n m
  same_leads n m h k =
      (λ i. same_open n h i && list_any (goes_by G B Any n m) (same_ties n h i))
      ∙ ap (λ found. is_open H B n && found) (any_agrees (goes_by G B Any n m) (goes_by H B Any n m) (ties H n) (λ t _. same_goes n m h k t))

  same_steps : (n m : Node) → leads_among G B nodes n m ≡ leads_among H B nodes n m
  same_steps n m = go (has_node nodes n) (has_node nodes m) refl refl
    where
      go : (a b : Bool) → has_node nodes n ≡ a → has_node nodes m ≡ b → ((a && b) && leads G B Any n m) ≡ ((a && b) && leads H B Any n m)
      go true true e f = same_leads n m (from_has nodes n e) (from_has nodes m f)
      go true false e f = refl
      go false b e f = refl

  same_alone : (starts : List Node) → reached_alone G B starts nodes ≡ reached_alone H B starts nodes
  same_alone starts = λ i. reached_in (λ n m. same_steps n m i) nodes (least_start starts)

  same_disjoint : (allowed : Bool) (starts : List Node) → disjoint_refusal G B allowed starts nodes ≡ disjoint_refusal H B allowed starts nodes
  same_disjoint true starts = refl
  same_disjoint false starts = λ i. option_map (λ (q : Port). Disjoint q.feature q.number) (least port_cmp (ports_outside (same_alone starts i) starts))

-- where no area covers a reached node, all refusals are the same, and else that for the area is
same_refusal : (G H : Ground) (ask : TypedAsk) (reached : List Node) → AreAlike G H reached → walk_refusal G ask reached ≡ walk_refusal H ask reached
same_refusal G H ask reached alike = go (dirt G reached) refl
  where
    go : (o : Option Dirt) → dirt G reached ≡ o → walk_refusal G ask reached ≡ walk_refusal H ask reached
    go (Some d) e =
        ap (λ o. first_refusal (dirt_refusal o ∷ conflict_refusal G (tier_of ask) (subnet_of ask) reached ∷ disjoint_refusal G ask.barriers ask.disjoint ask.starts reached ∷ [])) e
        ∙ sym (ap
        (λ o. first_refusal (dirt_refusal o ∷ conflict_refusal H (tier_of ask) (subnet_of ask) reached ∷ disjoint_refusal H ask.barriers ask.disjoint ask.starts reached ∷ []))
        (sym (same_dirt G H alike.areas reached) ∙ e))
    go None e =
        let agree : (n : Node) → Among reached n → entry G n ≡ entry H n = λ n h. alike.entries e n (contains_from_among reached n h) in
        λ i. first_refusal
        (dirt_refusal (same_dirt G H alike.areas reached i)
        ∷ same_conflict G H alike.areas ask.barriers reached agree (tier_of ask) (subnet_of ask) i
        ∷ same_disjoint G H alike.areas ask.barriers reached agree ask.disjoint ask.starts i
        ∷ [])

pub same_reply : SameReplyLaw
same_reply G H ask reached alike =
    ap (λ d. option_map_or (λ r. Refused r None 0) d (Updated (Some (row_of ask reached)) 0)) (same_refusal G H ask reached alike)

pub same_outcome : SameOutcomeLaw
same_outcome G H F rows barrier disjoint None subnet reached alike = refl
same_outcome G H F rows barrier disjoint (Some tier) subnet reached alike =
    let ask = update_ask F barrier disjoint tier subnet in
    ap (λ d. unless_refused (no_subnet F rows tier subnet)
    (if has_controllers F tier subnet then unless_refused (first_refusal (d ∷ no_room rows tier subnet ∷ [])) (stores (row_of ask reached)) else removes))
    (same_refusal G H ask reached alike)
