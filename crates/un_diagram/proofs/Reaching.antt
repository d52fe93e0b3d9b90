-- What holds of the nodes that walks from the starts reach.
use Rattle.std.proofs.Common.{◌≡◌, ℕ, ◌+◌, ◌≤◌, List, length, None, ap, arith, OnOk, Result, Ok, Err}
use Rattle.std.proofs.lemmas.List.{length-map}
use Rattle.un_defs.specs.declared.port.Node.{Node}
use Rattle.un_defs.specs.declared.walk.Mode.TheVariants.{Any}
use Rattle.un_defs.specs.Ground.{Ground}
use Rattle.un_defs.specs.Linked.{AreLinked}
use Rattle.un_defs.specs.Reach.{leads, dirt}
use Rattle.un_defs.proofs.FreshLinked.{clean}
use Rattle.un_defs.proofs.Members.{contains_from_among, among_from_contains}
use Rattle.un_defs.proofs.OrderLaws.{node_total}
use Rattle.un_defs.proofs.Rising.{sorted_unique}
use Rattle.un_defs.proofs.Walking.{walk_on}
use Rattle.un_walk.specs.declared.seen.Seen.{Seen}
use Rattle.un_walk.specs.Seen.{node_of, nodes_of, HaveEntries}
use Rattle.un_ask.specs.declared.typed.DiagramAsk.{DiagramAsk}
use Rattle.un_diagram.specs.Answer.{IsReachOf, AreLinkedOnCleanGround}
use Rattle.un_diagram.specs.Places.{IsNetwork, AreReached}

module _ (G : Ground) (ask : DiagramAsk) where
  pub is_network : (nodes : List Node) → IsReachOf G ask nodes → AreLinked G nodes → ask.barriers.tier ≡ None → IsNetwork G ask.barriers nodes
  is_network nodes reach linked untiered = record {
    rising = reach.rising;
    closed = λ n m h l. (reach.exact m).1 (walk_on (leads G ask.barriers Any) ask.starts n m ((reach.exact n).0 h) l);
    linked = linked;
    untiered = untiered;
  }

  pub are_reached : (seen : List Seen) (nodes : List Node) → nodes_of seen ≡ nodes → IsReachOf G ask nodes → HaveEntries G seen → dirt G nodes ≡ None → ask.barriers.tier ≡ None
      → AreLinkedOnCleanGround G ask → AreReached G ask.barriers seen nodes
  are_reached seen nodes are reach entries none untiered linked = record {
    net = is_network nodes reach (linked nodes reach none) untiered;
    are = are;
    entries = entries;
    clean = λ n h. clean G nodes none n (among_from_contains nodes n h);
  }

  -- the list of reached nodes is the only one
  reach_unique : (xs ys : List Node) → IsReachOf G ask xs → IsReachOf G ask ys → xs ≡ ys
  reach_unique xs ys a b =
      sorted_unique node_total xs ys a.rising b.rising
      (λ n h. among_from_contains ys n ((b.exact n).1 ((a.exact n).0 (contains_from_among xs n h))))
      (λ n h. among_from_contains xs n ((a.exact n).1 ((b.exact n).0 (contains_from_among ys n h))))

  pub few_looked_up : (seen : List Seen) (reached : List Node) (old new : ℕ) → IsReachOf G ask (nodes_of seen) → IsReachOf G ask reached → new ≤ old + length seen → new ≤ old + length reached
  few_looked_up seen reached old new found reach few =
      omega (arith, ap length (reach_unique reached (nodes_of seen) reach found), length-map seen node_of, few)

pub on_ok_any : {T E : Type 0} (r : Result T E) {P : Type 0} → P → OnOk r P
on_ok_any (Ok x) h = h
on_ok_any (Err e) h = tt
