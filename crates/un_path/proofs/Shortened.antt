-- From each walk the rounds can be cut: a walk that comes to no node twice costs no more and has fewer nodes, unless it is that walk.
use Rattle.std.proofs.Common.{◌≡◌, ℕ, ◌≤◌, ◌<◌, ◌⊎◌, Bool, true, false, ◌||◌, List, [], ◌∷◌, length, inl, inr, refl, sym, ap, subst, ◌∙◌, arith, true≢false}
use Rattle.std.specs.List.{list_any, AllByRecursion, IsDistinct}
use Rattle.std.proofs.lemmas.Map.Made.{length-le_from_is_member}
use Rattle.un_defs.specs.declared.port.Node.{Node}
use Rattle.un_defs.specs.Orders.{same_node}
use Rattle.un_defs.specs.Reach.{Follow, last_node}
use Rattle.un_defs.proofs.ListLemmas.{none_passes}
use Rattle.un_defs.proofs.Rising.{Among}
use Rattle.un_defs.proofs.Unique.{node_same}
use Rattle.un_walk.proofs.Once.{same_node_laws}
use Rattle.un_walk.proofs.Spreading.{from_has, has_from}
use Rattle.un_path.specs.Costs.{cost_after}

-- ---- nodes that differ

-- distinct nodes of a list are at most as many as it has
pub distinct_few : (ns nodes : List Node) → IsDistinct same_node ns → ((n : Node) → Among ns n → Among nodes n) → length ns ≤ length nodes
distinct_few ns nodes distinct within = length-le_from_is_member same_node_laws ns nodes distinct (λ n e. has_from nodes n (within n (from_has ns n e)))

all_differ : (n : Node) (ms : List Node) → ((m : Node) → Among ms m → same_node n m ≡ false) → AllByRecursion (λ m. same_node n m ≡ false) ms
all_differ n [] h = tt
all_differ n (m ∷ ms) h = (h m (inl refl), all_differ n ms (λ k i. h k (inr i)))

-- ---- walks without rounds

module _ (step : Node → Node → Bool) (cost : Node → Node → ℕ) where
  -- nodes that follow the first, end as the others, and cost no more, none twice
  record Goes (n m : Node) (ks ms : List Node) : Type 0 where
    pub follows : Follow step n ks
    pub ends : last_node n ks ≡ last_node m ms
    pub costs : cost_after cost n ks ≤ cost_after cost m ms
    pub distinct : IsDistinct same_node (n ∷ ks)

  -- so few of them
  abbrev GoesBy : Node → Node → List Node → Type 0
  GoesBy n m ms = (ks : List Node) × Goes n m ks ms × (length ks ≤ length ms)

  from_here : (n m : Node) (ms : List Node) → same_node n m ≡ true → Follow step m ms → IsDistinct same_node (m ∷ ms) → GoesBy n m ms
  from_here n m ms same f d =
      let one : m ≡ n = sym (node_same n m same) in (
        ms,
        record {
          follows = subst (λ k. Follow step k ms) one f;
          ends = ap (λ k. last_node k ms) (sym one);
          costs = subst (λ k. cost_after cost k ms ≤ cost_after cost m ms) one (omega arith);
          distinct = subst (λ k. IsDistinct same_node (k ∷ ms)) one d;
        },
        omega arith,
      )

  further_on : (n m k : Node) (ks : List Node) → GoesBy n k ks → GoesBy n m (k ∷ ks)
  further_on n m k ks rest =
      let goes = rest.1 in (
        rest.0,
        record { follows = goes.follows; ends = goes.ends; costs = (let c = goes.costs in omega arith); distinct = goes.distinct },
        (let l = rest.2 in omega arith),
      )

  -- where a walk without rounds comes to a node, it goes on from there
  cut : (n m : Node) (ms : List Node) → list_any (same_node n) (m ∷ ms) ≡ true → Follow step m ms → IsDistinct same_node (m ∷ ms) → GoesBy n m ms
  unfolding IsDistinct
  cut n m [] e f d =
      elim (same_node n m) as (λ b. same_node n m ≡ b → (b || false) ≡ true → GoesBy n m []) [
        | true ↦ λ same _. from_here n m [] same f d
        | false ↦ λ _ e. absurd (true≢false (sym e))
      ] refl e
  cut n m (k ∷ ks) e f d =
      elim (same_node n m) as (λ b. same_node n m ≡ b → (b || list_any (same_node n) (k ∷ ks)) ≡ true → GoesBy n m (k ∷ ks)) [
        | true ↦ λ same _. from_here n m (k ∷ ks) same f d
        | false ↦ λ _ e. further_on n m k ks (cut n k ks e f.1 d.1)
      ] refl e

  pub record IsShortened (n : Node) (ms ks : List Node) : Type 0 where
    pub follows : Follow step n ks
    pub ends : last_node n ks ≡ last_node n ms
    pub costs : cost_after cost n ks ≤ cost_after cost n ms
    pub distinct : IsDistinct same_node (n ∷ ks)
    pub fewer : (ks ≡ ms) ⊎ (length ks < length ms)

  no_longer : (ks ms : List Node) → (ks ≡ ms) ⊎ (length ks < length ms) → length ks ≤ length ms
  no_longer ks ms (inl e) = let f = ap length e in omega arith
  no_longer ks ms (inr l) = omega arith

  -- one step before a walk without rounds: the walk comes to the first node, or it does not
  one_more : (n m : Node) (ms : List Node) → step n m ≡ true → (ks : List Node) → IsShortened m ms ks → (js : List Node) × IsShortened n (m ∷ ms) js
  unfolding IsDistinct
  one_more n m ms s ks rest = go (list_any (same_node n) (m ∷ ks)) refl
    where
      longer : (ks ≡ ms) ⊎ (length ks < length ms) → (m ∷ ks ≡ m ∷ ms) ⊎ (length (m ∷ ks) < length (m ∷ ms))
      longer (inl e) = inl (ap (λ l. m ∷ l) e)
      longer (inr l) = inr (omega arith)

      go : (b : Bool) → list_any (same_node n) (m ∷ ks) ≡ b → (js : List Node) × IsShortened n (m ∷ ms) js
      go false e = (
        m ∷ ks,
        record {
          follows = (s, rest.follows);
          ends = rest.ends;
          costs = (let c = rest.costs in omega arith);
          distinct = (all_differ n (m ∷ ks) (none_passes (same_node n) (m ∷ ks) e), rest.distinct);
          fewer = longer rest.fewer;
        },
      )
      go true e =
          let part = cut n m ks e rest.follows rest.distinct in
          let goes = part.1 in (
            part.0,
            record {
              follows = goes.follows;
              ends = goes.ends ∙ rest.ends;
              costs = (let c = rest.costs in let d = goes.costs in omega arith);
              distinct = goes.distinct;
              fewer = inr (let l = part.2 in let k = no_longer ks ms rest.fewer in omega arith);
            },
          )

  pub shortened : (n : Node) (ms : List Node) → Follow step n ms → (ks : List Node) × IsShortened n ms ks
  unfolding IsDistinct
  shortened n [] f = ([], record { follows = tt; ends = refl; costs = omega arith; distinct = (tt, tt); fewer = inl refl })
  shortened n (m ∷ ms) f = let rest = shortened m ms f.1 in one_more n m ms f.0 rest.0 rest.1
