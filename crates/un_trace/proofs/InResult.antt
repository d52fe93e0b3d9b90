-- The nodes of a result are told by their entries.
use Rattle.std.proofs.Common.{◌≡◌, Bool, true, false, cond, not, ◌||◌, List, [], ◌∷◌, filter, refl, ap, ◌∙◌}
use Rattle.un_defs.specs.declared.walk.Barriers.{Barriers}
use Rattle.un_defs.specs.Ground.{Ground, entry}
use Rattle.un_defs.specs.Reach.{is_barrier}
use Rattle.un_defs.specs.Result.{result_nodes}
use Rattle.un_walk.specs.declared.seen.Seen.{Seen}
use Rattle.un_trace.specs.Seen.{spot_of, nodes_of, HaveEntries, is_in_result}
use Rattle.un_walk.proofs.Entered.{head_of, tail_of, barrier_by}

module _ (G : Ground) (B : Barriers) (with_barriers : Bool) where
  -- the test by the entry is the one over the ground
  pub same_test : (s : Seen) → spot_of s ≡ entry G s.node → is_in_result B with_barriers s ≡ (with_barriers || not (is_barrier G B s.node))
  same_test s e = ap (λ b. with_barriers || not b) (barrier_by G B s e)

  pub in_result_nodes : (seen : List Seen) → HaveEntries G seen → nodes_of (filter (is_in_result B with_barriers) seen) ≡ result_nodes G B with_barriers (nodes_of seen)
  in_result_nodes [] e = refl
  in_result_nodes (s ∷ seen) e =
      kept (is_in_result B with_barriers s)
      ∙ ap (λ b. cond b (s.node ∷ nodes_of (filter (is_in_result B with_barriers) seen)) (nodes_of (filter (is_in_result B with_barriers) seen))) (same_test s (ap head_of e))
      ∙ ap (λ ns. cond (with_barriers || not (is_barrier G B s.node)) (s.node ∷ ns) ns) (in_result_nodes seen (ap tail_of e))
    where
      kept : (b : Bool) → nodes_of (cond b (s ∷ filter (is_in_result B with_barriers) seen) (filter (is_in_result B with_barriers) seen))
          ≡ cond b (s.node ∷ nodes_of (filter (is_in_result B with_barriers) seen)) (nodes_of (filter (is_in_result B with_barriers) seen))
      kept true = refl
      kept false = refl

-- nodes that are kept keep their entries
pub kept_entries : (G : Ground) (p : Seen → Bool) (seen : List Seen) → HaveEntries G seen → HaveEntries G (filter p seen)
kept_entries G p [] e = refl
kept_entries G p (s ∷ seen) e = go (p s) (kept_entries G p seen (ap tail_of e))
  where
    go : (b : Bool) → HaveEntries G (filter p seen) → HaveEntries G (cond b (s ∷ filter p seen) (filter p seen))
    go true rest = λ i. head_of (e i) ∷ rest i
    go false rest = rest
