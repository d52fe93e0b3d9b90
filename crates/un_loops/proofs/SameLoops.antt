-- Two grounds have the same loop segments among nodes that have the same entries in both.
use Rattle.std.proofs.Common.{◌≡◌, Bool, true, false, ◌&&◌, ◌||◌, ◌==◌, not, List, [], ◌∷◌, ◌++◌, filter, filter_map, flat_map, refl, sym, ap, subst, ◌∙◌, inl, inr}
use Rattle.std.specs.List.{list_any}
use Rattle.std.specs.Option.{option_map_or}
use Rattle.un_geom.specs.Places.{covers}
use Rattle.un_defs.specs.declared.port.Node.{Node}
use Rattle.un_defs.specs.declared.link.Tie.{Tie}
use Rattle.un_defs.specs.declared.walk.Barriers.{Barriers}
use Rattle.un_defs.specs.Orders.{rising, same_port, same_node}
use Rattle.un_defs.specs.Ground.{Ground, entry, ties}
use Rattle.un_defs.specs.Reach.{is_open, meets_condition, is_path, is_shut}
use Rattle.un_defs.proofs.Rising.{Among}
use Rattle.un_defs.proofs.Unique.{node_same}
use Rattle.un_walk.specs.Spread.{reached_in}
use Rattle.un_walk.proofs.Spreading.{from_has}
use Rattle.un_ask.specs.declared.results.Segment.{Segment}
use Rattle.un_loops.specs.Loops.{segment_cmp, is_named, goes_beside, leads_beside}
use Rattle.un_loops.specs.LoopList.{has_node, is_open_among, steps_beside, closes_loop, is_loop_segment, segment_of, segments_at, loop_segments}

any_agrees : {A : Type 0} (p q : A → Bool) (xs : List A) → ((x : A) → Among xs x → p x ≡ q x) → list_any p xs ≡ list_any q xs
any_agrees p q [] same = refl
any_agrees p q (x ∷ xs) same = λ i. same x (inl refl) i || any_agrees p q xs (λ y h. same y (inr h)) i

flat_agrees : {A B : Type 0} (f g : A → List B) (xs : List A) → ((x : A) → Among xs x → f x ≡ g x) → flat_map f xs ≡ flat_map g xs
flat_agrees f g [] same = refl
flat_agrees f g (x ∷ xs) same = λ i. same x (inl refl) i ++ flat_agrees f g xs (λ y h. same y (inr h)) i

module _ (G H : Ground) (areas : G.areas ≡ H.areas) (B : Barriers) (nodes : List Node) (same : (n : Node) → Among nodes n → entry G n ≡ entry H n) where
  same_ties : (n : Node) → Among nodes n → ties G n ≡ ties H n
  same_ties n h = ap (λ o. option_map_or (λ s. s.ties) o []) (same n h)

  same_open : (n : Node) → Among nodes n → is_open G B n ≡ is_open H B n
  same_open n h =
      λ i. not (option_map_or (meets_condition B) (same n h i) false || list_any (same_port n.port) B.stops) && not (B.consistent && list_any (λ area. covers area.1 n.at) (areas i))

  same_shut : (n : Node) (t : Tie) → Among nodes n → Among nodes t.to → is_shut G B n t ≡ is_shut H B n t
  same_shut n t h k =
      λ i. is_path t.name
      && option_map_or
      (λ tier. option_map_or (λ s. option_map_or (λ c. c.tier == tier) s.controller false) (same n h i) false
      || option_map_or (λ s. option_map_or (λ c. c.tier == tier) s.controller false) (same t.to k i) false) B.tier false

  same_beside : (s : Segment) (n m : Node) → Among nodes n → Among nodes m → (t : Tie) → goes_beside G B s n m t ≡ goes_beside H B s n m t
  same_beside s n m h k t = go (same_node t.to m) refl
    where
      go : (b : Bool) → same_node t.to m ≡ b → ((b && true && not (is_shut G B n t)) && not (is_named s t.name)) ≡ ((b && true && not (is_shut H B n t)) && not (is_named s t.name))
      go true e = λ i. (true && true && not (same_shut n t h (subst (Among nodes) (sym (node_same t.to m e)) k) i)) && not (is_named s t.name)
      go false e = refl

  same_leads : (s : Segment) (n m : Node) → Among nodes n → Among nodes m → leads_beside G B s n m ≡ leads_beside H B s n m
  same_leads s n m h k =
      (λ i. (same_open n h i && same_open m k i) && list_any (goes_beside G B s n m) (same_ties n h i))
      ∙ ap (λ found. (is_open H B n && is_open H B m) && found) (any_agrees (goes_beside G B s n m) (goes_beside H B s n m) (ties H n) (λ t _. same_beside s n m h k t))

  same_steps : (s : Segment) (n m : Node) → steps_beside G B nodes s n m ≡ steps_beside H B nodes s n m
  same_steps s n m = go (has_node nodes n) (has_node nodes m) refl refl
    where
      go : (a b : Bool) → has_node nodes n ≡ a → has_node nodes m ≡ b → ((a && b) && leads_beside G B s n m) ≡ ((a && b) && leads_beside H B s n m)
      go true true e f = same_leads s n m (from_has nodes n e) (from_has nodes m f)
      go true false e f = refl
      go false b e f = refl

  same_open_among : (n : Node) → is_open_among G B nodes n ≡ is_open_among H B nodes n
  same_open_among n = go (has_node nodes n) refl
    where
      go : (b : Bool) → has_node nodes n ≡ b → (b && is_open G B n) ≡ (b && is_open H B n)
      go true e = same_open n (from_has nodes n e)
      go false e = refl

  same_closes : (s : Segment) (n : Node) → closes_loop G B nodes s n ≡ closes_loop H B nodes s n
  same_closes s n =
      λ i t. (is_named s t.name && (same_open_among n i && same_open_among t.to i)) && has_node (reached_in (λ k m. same_steps s k m i) nodes (n ∷ [])) t.to

  same_segment : (s : Segment) → is_loop_segment G B nodes s ≡ is_loop_segment H B nodes s
  same_segment s =
      any_agrees (λ n. list_any (closes_loop G B nodes s n) (ties G n)) (λ n. list_any (closes_loop H B nodes s n) (ties H n)) nodes
      (λ n h. λ i. list_any (same_closes s n i) (same_ties n h i))

  pub same_loops : loop_segments G B nodes ≡ loop_segments H B nodes
  same_loops =
      let candidates = flat_agrees (segments_at G) (segments_at H) nodes (λ n h. ap (λ l. filter_map (λ t. segment_of t.name) l) (same_ties n h)) in
      λ i. rising segment_cmp (filter (λ s. same_segment s i) (candidates i))
