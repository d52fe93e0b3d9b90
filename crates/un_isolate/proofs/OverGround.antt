-- The graph of the reached nodes is that of the ground.
use Rattle.std.proofs.Common.{◌≡◌, ◌↔◌, ℕ, zero, suc, Bool, true, false, not, ◌&&◌, ◌||◌, List, [], ◌∷◌, map, length, Option, Some, None, refl, sym, ap, ◌∙◌, arith}
use Rattle.std.specs.Prelude.{slice_get}
use Rattle.std.specs.List.{list_any}
use Rattle.std.specs.Option.{option_map, option_map_or}
use Rattle.std.proofs.lemmas.List.{length-map}
use Rattle.std.proofs.lemmas.Option.{slice_get_within, slice_get-map}
use Rattle.un_defs.specs.declared.port.Node.{Node}
use Rattle.un_defs.specs.declared.link.Tie.{Tie}
use Rattle.un_defs.specs.declared.star.Spot.{Spot}
use Rattle.un_defs.specs.declared.walk.Barriers.{Barriers}
use Rattle.un_defs.specs.declared.walk.Mode.TheVariants.{Any}
use Rattle.un_defs.specs.Orders.{same_port, same_node}
use Rattle.un_defs.specs.Ground.{Ground, entry, ties, is_dirty}
use Rattle.un_defs.specs.Reach.{leads, is_open, is_barrier, is_path, is_shut, goes_by, meets_condition, dirt}
use Rattle.un_defs.proofs.FreshLinked.{clean}
use Rattle.un_defs.proofs.ListLemmas.{map-map, any-agree}
use Rattle.un_defs.proofs.Unique.{node_same}
use Rattle.un_ask.specs.declared.typed.TypedAsk.{TypedAsk}
use Rattle.un_isolate.specs.declared.network.Network.{Network}
use Rattle.un_walk.specs.declared.seen.Seen.{Seen}
use Rattle.un_isolate.specs.Answer.{isolation_of}
use Rattle.un_isolate.specs.Isolation.{isolates, is_isolating, is_controlled}
use Rattle.un_isolate.specs.IsolationList.{has_node}
use Rattle.un_isolate.specs.Links.{HasLink, AreLinksOf}
use Rattle.un_isolate.specs.Network.{GoesBetween, IsNetworkOf}
use Rattle.un_isolate.specs.Entries.{spot_of, AreSeen, has_controller, isolates_by, is_controlled_by, is_barrier_by, is_shut_by, goes_to, leads_to}
use Rattle.un_isolate.proofs.Places.{among_place}

some_is : {A : Type 0} (x y : A) → Some x ≡ Some y → x ≡ y
some_is x y e = cc

none_some : {A : Type 0} (x : A) → None ≡ Some x → ⊥
none_some x e = cc

from_map_place : {A B : Type 0} (f : A → B) (xs : List A) (i : ℕ) (y : B) → slice_get (map f xs) i ≡ Some y → (x : A) × (slice_get xs i ≡ Some x) × (f x ≡ y)
from_map_place f [] i y e = absurd (none_some y e)
from_map_place f (x ∷ xs) zero y e = (x, refl, some_is (f x) y e)
from_map_place f (x ∷ xs) (suc i) y e = from_map_place f xs i y e

and_true : (b : Bool) → b ≡ (b && true)
and_true true = refl
and_true false = refl

module _ (G : Ground) (reached : List Node) (none : dirt G reached ≡ None) (seen : List Seen) (are : AreSeen G reached seen) where
  reached_at : (i : ℕ) (v : Seen) → slice_get seen i ≡ Some v → slice_get reached i ≡ Some v.node
  reached_at i v at = ap (λ l. slice_get l i) (sym are.nodes) ∙ slice_get-map (λ (x : Seen). x.node) seen i ∙ ap (option_map (λ (x : Seen). x.node)) at

  entry_at : (i : ℕ) (v : Seen) → slice_get seen i ≡ Some v → spot_of v ≡ entry G v.node
  entry_at i v at =
      some_is (spot_of v) (entry G v.node)
      (sym (slice_get-map spot_of seen i ∙ ap (option_map spot_of) at) ∙ ap (λ l. slice_get l i) are.entries ∙ slice_get-map (entry G) reached i
      ∙ ap (option_map (entry G)) (reached_at i v at))

  visited_at : (i : ℕ) (n : Node) → slice_get reached i ≡ Some n → (v : Seen) × (slice_get seen i ≡ Some v) × (v.node ≡ n)
  visited_at i n at = from_map_place (λ (x : Seen). x.node) seen i n (ap (λ l. slice_get l i) are.nodes ∙ at)

  clean_at : (n : Node) (i : ℕ) → slice_get reached i ≡ Some n → is_dirty G n.at ≡ false
  clean_at n i at = clean G reached none n (among_place reached i n at)

  -- ---- steps

  module _ (B : Barriers) (i j : ℕ) (v w : Seen) (at_v : slice_get seen i ≡ Some v) (at_w : slice_get seen j ≡ Some w) where
    abbrev here : spot_of v ≡ entry G v.node
    here = entry_at i v at_v

    abbrev there : spot_of w ≡ entry G w.node
    there = entry_at j w at_w

    shut_is : (t : Tie) → t.to ≡ w.node → is_shut_by B.tier t.name v w ≡ is_shut G B v.node t
    shut_is t to =
        (λ k. is_path t.name
        && option_map_or (λ tier. option_map_or (has_controller tier) (here k) false || option_map_or (has_controller tier) (there k) false) B.tier false)
        ∙ ap (λ m. is_path t.name
        && option_map_or (λ tier. option_map_or (has_controller tier) (entry G v.node) false || option_map_or (has_controller tier) (entry G m) false) B.tier false) (sym to)

    goes_is : (t : Tie) → goes_to B.tier v w t ≡ goes_by G B Any v.node w.node t
    goes_is t = go (same_node t.to w.node) refl
      where
        go : (b : Bool) → same_node t.to w.node ≡ b → (b && not (is_shut_by B.tier t.name v w)) ≡ (b && true && not (is_shut G B v.node t))
        go true e = ap not (shut_is t (node_same t.to w.node e))
        go false e = refl

    open_is : not (is_barrier_by B v) ≡ is_open G B v.node
    open_is =
        (λ k. not (option_map_or (meets_condition B) (here k) false || list_any (same_port v.node.port) B.stops))
        ∙ and_true (not (is_barrier G B v.node))
        ∙ ap (λ b. not (is_barrier G B v.node) && not b) (sym (undirtied B.consistent))
      where
        undirtied : (b : Bool) → (b && is_dirty G v.node.at) ≡ false
        undirtied true = clean_at v.node i (reached_at i v at_v)
        undirtied false = refl

    leads_is : leads_to B v w ≡ leads G B Any v.node w.node
    leads_is =
        (λ k. open_is k && list_any (goes_to B.tier v w) (option_map_or (λ s. s.ties) (here k) []))
        ∙ ap (λ found. is_open G B v.node && found) (any-agree (goes_to B.tier v w) (goes_by G B Any v.node w.node) (ties G v.node) (λ t _. goes_is t))

  module _ (ask : TypedAsk) (network : Network) (starts : network.starts.items ≡ map (has_node ask.starts) reached)
      (isolating : network.isolating.items ≡ map (isolates_by ask.isolators) seen) (controlled : network.controlled.items ≡ map (is_controlled_by ask.barriers.tier) seen)
      (links : AreLinksOf ask.barriers seen network.onward.items (length seen)) where
    count : length seen ≡ length reached
    count = sym (length-map seen (λ (x : Seen). x.node)) ∙ ap length are.nodes

    isolating_is : network.isolating.items ≡ map (is_isolating (isolation_of G ask)) reached
    isolating_is =
        isolating
        ∙ sym (map-map spot_of (λ o. option_map_or (isolates ask.isolators) o false) seen)
        ∙ ap (map (λ o. option_map_or (isolates ask.isolators) o false)) are.entries
        ∙ map-map (entry G) (λ o. option_map_or (isolates ask.isolators) o false) reached

    abbrev controlled_by : Option Spot → Bool
    controlled_by o = option_map_or (λ tier. option_map_or (has_controller tier) o false) ask.barriers.tier false

    controlled_is : network.controlled.items ≡ map (is_controlled (isolation_of G ask)) reached
    controlled_is = controlled ∙ sym (map-map spot_of controlled_by seen) ∙ ap (map controlled_by) are.entries ∙ map-map (entry G) controlled_by reached

    step_is : (i j : ℕ) → HasLink network.onward.items i j ↔ GoesBetween (isolation_of G ask) reached i j
    step_is i j = (
      λ link.
          let (v, at_v, (w, at_w, leads)) = ((links.exact i j).0 link).1 in
          (v.node, w.node, reached_at i v at_v, reached_at j w at_w, sym (leads_is ask.barriers i j v w at_v at_w) ∙ leads),
      λ (n, m, at_n, at_m, goes).
          let (v, at_v, is_v) = visited_at i n at_n in
          let (w, at_w, is_w) = visited_at j m at_m in
          let leads = leads_is ask.barriers i j v w at_v at_w ∙ (λ k. leads G ask.barriers Any (is_v k) (is_w k)) ∙ goes in
          (links.exact i j).1 (slice_get_within seen i v at_v, (v, at_v, (w, at_w, leads))),
    )

    pub network_is : IsNetworkOf (isolation_of G ask) reached network
    network_is = record {
      whole = record {
        starts = ap length starts ∙ length-map reached (has_node ask.starts) ∙ sym count ∙ sym links.count;
        isolating = ap length isolating ∙ length-map seen (isolates_by ask.isolators) ∙ sym links.count;
        controlled = ap length controlled ∙ length-map seen (is_controlled_by ask.barriers.tier) ∙ sym links.count;
        inside = λ i j link. let step = ((links.exact i j).0 link).1 in omega (arith, slice_get_within seen j step.2.0 step.2.1, links.count);
      };
      starts = starts;
      isolating = isolating_is;
      controlled = controlled_is;
      count = links.count ∙ count;
      exact = step_is;
    }
