-- What walks from the least start reach, of the nodes that walks from all starts reach.
use Rattle.std.proofs.Common.{◌≡◌, suc, ◌≤◌, ◌<◌, Bool, true, false, cond, not, ◌&&◌, List, [], ◌∷◌, map, filter, length, slice_get, option_to_list, Option, Some, None, refl, sym, ap, subst, inl, inr, arith, Result, Ok, Err, OnOk}
use Rattle.std.specs.declared.cmp.Ordering.{Ordering}
use Rattle.std.specs.declared.cmp.Ordering.TheVariants.{Less, Equal, Greater}
use Rattle.std.specs.Ordering.{match_ordering}
use Rattle.std.specs.BTreeSet.{insert_key}
use Rattle.std.proofs.lemmas.List.Kept.{IsStrictlySortedBy-filter}
use Rattle.un_defs.specs.declared.port.Node.{Node}
use Rattle.un_defs.specs.declared.walk.Mode.TheVariants.{Any}
use Rattle.un_defs.specs.declared.walk.Barriers.{Barriers}
use Rattle.un_defs.specs.Orders.{rising, least, port_cmp, node_cmp}
use Rattle.un_defs.specs.Ground.{Ground}
use Rattle.un_defs.specs.Reach.{Walk, IsReach, leads}
use Rattle.un_defs.proofs.Rising.{Among, among_from-rising, sorted_unique}
use Rattle.un_defs.proofs.Members.{contains_from_among, among_from_contains, among-filter, among_from-filter}
use Rattle.un_defs.proofs.OrderLaws.{node_total}
use Rattle.un_defs.proofs.LinkCases.{both_true, true_both}
use Rattle.un_defs.proofs.Walking.{walk_from_start, walk_on, reached_have}
use Rattle.un_walk.proofs.Spreading.{reached_is_reach, has_from, from_has}
use Rattle.un_walk.specs.Growth.{has_node}
use Rattle.un_subnet.specs.Alone.{leads_among, least_start, reached_alone, least_apart}
use Rattle.un_subnet.specs.Laws.{AloneLaw}

-- the reach is one list
pub reach_unique : (step : Node → Node → Bool) (starts xs ys : List Node) → IsReach step starts xs → IsReach step starts ys → xs ≡ ys
reach_unique step starts xs ys a b =
    sorted_unique node_total xs ys a.rising b.rising
    (λ n h. among_from_contains ys n ((b.exact n).1 ((a.exact n).0 (contains_from_among xs n h))))
    (λ n h. among_from_contains xs n ((a.exact n).1 ((b.exact n).0 (contains_from_among ys n h))))

-- what holds in any case holds where there is a result
pub on_ok : {T E P : Type 0} (r : Result T E) → P → OnOk r P
on_ok (Ok x) h = h
on_ok (Err e) h = tt

-- where there is no least start, there is none
first_inserted : (ns : List Node) (n : Node) → slice_get (insert_key node_cmp ns n) 0 ≡ None → ⊥
first_inserted [] n e = cc
first_inserted (m ∷ ns) n e = by (node_cmp n m) e
  where
    by : (k : Ordering) → slice_get (match_ordering k (n ∷ m ∷ ns) (m ∷ ns) (m ∷ insert_key node_cmp ns n)) 0 ≡ None → ⊥
    by Less e = cc
    by Equal e = cc
    by Greater e = cc

pub no_starts : (starts : List Node) → least node_cmp starts ≡ None → starts ≡ []
no_starts [] e = refl
no_starts (n ∷ ns) e = absurd (first_inserted (rising node_cmp ns) n e)

-- the least start is a start
among_first : (o : Option Node) (n : Node) → Among (option_to_list o) n → o ≡ Some n
among_first None n h = absurd h
among_first (Some m) n h = elim h [ inl e ↦ ap Some e | inr none ↦ absurd none ]

at_front : (xs : List Node) (n : Node) → slice_get xs 0 ≡ Some n → Among xs n
at_front [] n e = cc
at_front (x ∷ xs) n e = inl (some_one e)
  where
    some_one : Some x ≡ Some n → x ≡ n
    some_one e = cc

is_start : (starts : List Node) (n : Node) → Among (least_start starts) n → Among starts n
is_start starts n h = among_from-rising node_cmp starts n (at_front (rising node_cmp starts) n (among_first (least node_cmp starts) n h))

module _ (G : Ground) (B : Barriers) (starts reached : List Node) (reach : IsReach (leads G B Any) starts reached) where
  abbrev step : Node → Node → Bool
  step = leads G B Any

  abbrev among : Node → Node → Bool
  among = leads_among G B reached

  abbrev first : List Node
  first = least_start starts

  abbrev alone : List Node
  alone = reached_alone G B starts reached

  -- a walk stays among the reached nodes
  closed : (n m : Node) → Among reached n → step n m ≡ true → Among reached m
  closed n m i e =
      among_from_contains reached m ((reach.exact m).1 (walk_on step starts n m ((reach.exact n).0 (contains_from_among reached n i)) e))

  begins : (n : Node) → Among first n → Among reached n
  begins n h = among_from_contains reached n ((reach.exact n).1 (walk_from_start step starts n (is_start starts n h)))

  to_reached : (n m : Node) → among n m ≡ true → Among reached m
  to_reached n m e =
      from_has reached m (both_true (has_node reached n) (has_node reached m) (both_true (has_node reached n && has_node reached m) (step n m) e).0).1

  abbrev IsWithin : Node → Type 0
  IsWithin n = Among reached n × Walk among first n

  within : (n : Node) → Walk step first n → Walk among first n
  within n walk = (reached_have step first IsWithin (λ n h. (begins n h, walk_from_start among first n h)) goes_on n walk).1
    where
      goes_on : (n m : Node) → IsWithin n → step n m ≡ true → IsWithin m
      goes_on n m p e =
          let there = closed n m p.0 e in
          let both = true_both (has_node reached n) (has_node reached m) (has_from reached n p.0) (has_from reached m there) in
          (there, walk_on among first n m p.1 (true_both (has_node reached n && has_node reached m) (step n m) both e))

  without : (n : Node) → Walk among first n → Walk step first n
  without n walk = reached_have among first (Walk step first) (walk_from_start step first) goes_on n walk
    where
      goes_on : (n m : Node) → Walk step first n → among n m ≡ true → Walk step first m
      goes_on n m p e = walk_on step first n m p (both_true (has_node reached n && has_node reached m) (step n m) e).1

  pub alone_is_reach : IsReach step first alone
  alone_is_reach =
      let is = reached_is_reach among reached first to_reached in
      record { rising = is.rising; exact = λ n. ((λ h. without n ((is.exact n).0 h)), (λ w. (is.exact n).1 (within n w))) }

  -- what a walk from the least start reached is that list
  pub alone_is : (nodes : List Node) → IsReach step first nodes → nodes ≡ alone
  alone_is nodes is = reach_unique step first nodes alone is alone_is_reach

  -- it has no more nodes than were reached
  alone_reached : (n : Node) → Among alone n → Among reached n
  alone_reached n h =
      reached_have step first (Among reached) begins closed n ((alone_is_reach.exact n).0 (contains_from_among alone n h))

  pub alone_shorter : length alone ≤ length reached
  alone_shorter =
      let kept : alone ≡ filter (has_node alone) reached = sorted_unique node_total alone (filter (has_node alone) reached) alone_is_reach.rising
      (IsStrictlySortedBy-filter node_cmp (has_node alone) reached reach.rising)
      (λ n h. among-filter (has_node alone) reached n (alone_reached n h) (has_from alone n h))
      (λ n h. from_has alone n (among_from-filter (has_node alone) reached n h).1) in
      subst (λ l. length l ≤ length reached) (sym kept) (no_more reached)
    where
      no_more : (xs : List Node) → length (filter (has_node alone) xs) ≤ length xs
      no_more [] = omega arith
      no_more (x ∷ xs) = go (has_node alone x) (no_more xs)
        where
          go : (b : Bool) → length (filter (has_node alone) xs) ≤ length xs → length (cond b (x ∷ filter (has_node alone) xs) (filter (has_node alone) xs)) ≤ suc (length xs)
          go true l = omega (arith, l)
          go false l = omega (arith, l)

-- one start is not apart from itself
pub none_apart : (G : Ground) (B : Barriers) (starts reached : List Node) → IsReach (leads G B Any) starts reached → length starts < 2 → least_apart G B starts reached ≡ None
none_apart G B [] reached reach few = refl
none_apart G B (n ∷ []) reached reach few =
    let alone = reached_alone G B (n ∷ []) reached in
    let arrives = ((alone_is_reach G B (n ∷ []) reached reach).exact n).1 (walk_from_start (leads G B Any) (least_start (n ∷ [])) n (inl refl)) in
    ap (λ b. least port_cmp (map (λ m. m.port) (cond (not b) (n ∷ []) []))) (has_from alone n (among_from_contains alone n arrives))
none_apart G B (n ∷ m ∷ ns) reached reach few = absurd (omega (arith, few))

pub alone_law : AloneLaw
alone_law G B starts reached reach = alone_is_reach G B starts reached reach
