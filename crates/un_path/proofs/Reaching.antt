-- What holds of the nodes that walks from one node reach.
use Rattle.std.proofs.Common.{◌≡◌, ℕ, ◌+◌, ◌≤◌, List, [], ◌∷◌, length, None, inl, refl, ap, arith}
use Rattle.std.specs.Prelude.{Contains}
use Rattle.std.proofs.lemmas.List.{length-map}
use Rattle.un_defs.specs.declared.port.Node.{Node}
use Rattle.un_defs.specs.declared.walk.Barriers.{Barriers}
use Rattle.un_defs.specs.declared.walk.Mode.TheVariants.{Any}
use Rattle.un_defs.specs.Ground.{Ground}
use Rattle.un_defs.specs.Reach.{leads, dirt}
use Rattle.un_defs.proofs.FreshLinked.{clean}
use Rattle.un_defs.proofs.Members.{contains_from_among, among_from_contains}
use Rattle.un_defs.proofs.OrderLaws.{node_total}
use Rattle.un_defs.proofs.Rising.{sorted_unique}
use Rattle.un_defs.proofs.Walking.{walk_from_start, walk_on}
use Rattle.un_walk.specs.declared.seen.Seen.{Seen}
use Rattle.un_walk.specs.Seen.{node_of, nodes_of, HaveEntries}
use Rattle.un_path.specs.Answer.{IsReachFrom, HaveOwnPortsOnCleanGround}
use Rattle.un_path.specs.Hops.{AreReached}

module _ (G : Ground) (B : Barriers) (from : Node) where
  pub reached_from : (nodes : List Node) → IsReachFrom G B from nodes → Contains nodes from
  reached_from nodes reach = (reach.exact from).1 (walk_from_start (leads G B Any) (from ∷ []) from (inl refl))

  pub are_reached : (seen : List Seen) (nodes : List Node) → nodes_of seen ≡ nodes → IsReachFrom G B from nodes → HaveEntries G seen → dirt G nodes ≡ None → B.tier ≡ None
      → HaveOwnPortsOnCleanGround G B from → AreReached G B seen nodes
  are_reached seen nodes are reach entries none untiered own = record {
    rising = reach.rising;
    closed = λ n m h l. (reach.exact m).1 (walk_on (leads G B Any) (from ∷ []) n m ((reach.exact n).0 h) l);
    own_ports = own nodes reach none;
    are = are;
    entries = entries;
    clean = λ n h. clean G nodes none n (among_from_contains nodes n h);
    untiered = untiered;
  }

  -- the list of reached nodes is the only one
  reach_unique : (xs ys : List Node) → IsReachFrom G B from xs → IsReachFrom G B from ys → xs ≡ ys
  reach_unique xs ys a b =
      sorted_unique node_total xs ys a.rising b.rising
      (λ n h. among_from_contains ys n ((b.exact n).1 ((a.exact n).0 (contains_from_among xs n h))))
      (λ n h. among_from_contains xs n ((a.exact n).1 ((b.exact n).0 (contains_from_among ys n h))))

  pub few_looked_up : (seen : List Seen) (reached : List Node) (old new : ℕ) → IsReachFrom G B from (nodes_of seen) → IsReachFrom G B from reached → new ≤ old + length seen → new ≤ old + length reached
  few_looked_up seen reached old new found reach few =
      omega (arith, ap length (reach_unique reached (nodes_of seen) reach found), length-map seen node_of, few)
