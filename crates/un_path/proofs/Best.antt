-- The chain back from a node is its best walk.
use Rattle.std.proofs.Common.{◌≡◌, ℕ, zero, suc, ◌+◌, ◌≤◌, Ordering, Less, Equal, Greater, Bool, true, List, [], ◌∷◌, length, reverse, inl, inr, refl, sym, ap, subst, ◌∙◌, arith, true≢false}
use Rattle.std.specs.Ordering.{ordering_then, is_le}
use Rattle.std.specs.Cmp.Lexicographic.{slice_cmp}
use Rattle.std.proofs.lemmas.Cmp.{tied_itself}
use Rattle.std.proofs.lemmas.List.{length-reverse, reverse-reverse}
use Rattle.un_defs.specs.declared.port.Node.{Node}
use Rattle.un_defs.specs.Orders.{node_cmp}
use Rattle.un_defs.proofs.OrderLaws.{node_total, node_ties}
use Rattle.un_path.specs.Costs.{walk_cost}
use Rattle.un_path.specs.Paths.{IsWalk, IsBestWalk, IsLeastCost}
use Rattle.un_path.specs.Settled.{AreSettled, IsChain}
use Rattle.un_path.proofs.Ordered.{le_first}
use Rattle.un_path.proofs.Back.{Back, back_cost, walk_from_back, back_from_walk}

module _ (step : Node → Node → Bool) (cost : Node → Node → ℕ) (start : Node) (Has : Node → ℕ → ℕ → Node → Type 0) (settled : AreSettled step cost start Has) where
  -- nothing is known to be later than any walk
  pub low : (n : Node) (ms : List Node) → Back step cost start n ms → (c h : ℕ) × (u : Node) × Has n c h u × (c ≤ back_cost step cost start n ms) × (c ≡ back_cost step cost start n ms → h ≤ length ms)
  low n [] b = (0, 0, start, subst (λ m. Has m 0 0 start) (sym b) settled.first, omega arith, λ _. omega arith)
  low n (m ∷ ms) b =
      let (c, h, u, has, under, fewer) = low m ms b.1 in
      let (d, k, v, there, late) = settled.closed m c h u n has b.0 in (
        d,
        k,
        v,
        there,
        (let e = late.cost in omega arith),
        λ e.
            let one : c ≡ back_cost step cost start m ms = (let f = late.cost in omega arith) in
            let other : d ≡ c + cost m n = omega arith in
            (let f = fewer one in let g = late.steps other in omega arith),
      )

  -- a chain is a walk, which costs and takes no more than is known
  pub chain_back : (n : Node) (ms : List Node) (c h : ℕ) (u : Node) → Has n c h u → IsChain Has n ms → Back step cost start n ms × (back_cost step cost start n ms ≤ c) × (length ms ≡ h)
  chain_back n [] c h u has (d, v, also) =
      let same = settled.one n c h u d 0 v has also in
      elim (settled.real n c h u has) [
        | inl s ↦ (s.0, omega arith, sym same.1)
        | inr (d, k, v, before, leads, under, steps) ↦ absurd (let e = same.1 in omega arith)
      ]
  chain_back n (m ∷ ms) c h u has (d, k, also, rest) =
      let same = settled.one n c h u d (k + 1) m has also in
      elim (settled.real n d (k + 1) m also) [
        | inl s ↦ absurd (let e = s.1 in omega arith)
        | inr (d', k', v, before, leads, under, steps) ↦
            let more = chain_back m ms d' k' v before rest in
            ((leads, more.0), (let e = same.0 in let f = more.1 in omega arith), (let e = same.1 in let f = more.2 in omega arith))
      ]

  -- and read from its last node it comes before each walk that costs and takes no more
  first_back : (n : Node) (ms ks : List Node) (c h : ℕ) (u : Node) → Has n c h u → IsChain Has n ms → Back step cost start n ks → back_cost step cost start n ks ≤ c → length ks ≤ h
      → is_le (slice_cmp node_cmp ms ks) ≡ true
  first_back n [] [] c h u has chain b low_cost few = refl
  first_back n [] (k ∷ ks) c h u has chain b low_cost few = refl
  first_back n (m ∷ ms) [] c h u has (d, j, also, rest) b low_cost few =
      let same = settled.one n 0 0 start d (j + 1) m (subst (λ x. Has x 0 0 start) (sym b) settled.first) also in
      absurd (let e = same.1 in omega arith)
  first_back n (m ∷ ms) (k ∷ ks) c h u has (d, j, also, rest) b low_cost few =
      let (ck, hk, uk, has_k, under, fewer) = low k ks b.1 in
      let (d', k', v, there, late) = settled.closed k ck hk uk n has_k b.0 in
      let one = settled.one n c h u d (j + 1) m has also in
      let two = settled.one n d (j + 1) m d' k' v also there in
      let first : ck ≡ back_cost step cost start k ks = (let e = late.cost in let f = one.0 in let g = two.0 in omega arith) in
      let whole : d' ≡ ck + cost k n = (let e = late.cost in let f = one.0 in let g = two.0 in omega arith) in
      let fit : hk ≡ length ks = (let e = late.steps whole in let f = one.1 in let g = two.1 in let i = fewer first in omega arith) in
      let exact : k' ≡ hk + 1 = (let e = late.steps whole in let f = one.1 in let g = two.1 in omega arith) in
      let order : is_le (node_cmp m k) ≡ true = ap (λ x. is_le (node_cmp x k)) two.2 ∙ late.before whole exact in
      go (λ same. first_back k ms ks ck hk uk has_k (subst (λ x. IsChain Has x ms) same rest) b.1 (omega arith) (omega arith)) (node_cmp m k) refl order
    where
      go : (m ≡ k → is_le (slice_cmp node_cmp ms ks) ≡ true) → (o : Ordering) → node_cmp m k ≡ o → is_le (node_cmp m k) ≡ true → is_le (slice_cmp node_cmp (m ∷ ms) (k ∷ ks)) ≡ true
      go more Less e order = ap (λ r. is_le (ordering_then r (slice_cmp node_cmp ms ks))) e
      go more Equal e order = ap (λ r. is_le (ordering_then r (slice_cmp node_cmp ms ks))) e ∙ more (node_ties m k e)
      go more Greater e order = absurd (true≢false (sym order ∙ ap is_le e))

  -- so it is the best walk
  pub best : (n : Node) (ms : List Node) (c h : ℕ) (u : Node) → Has n c h u → IsChain Has n ms → IsBestWalk step cost start n (reverse (n ∷ ms)) × (walk_cost cost (reverse (n ∷ ms)) ≡ c)
  best n ms c h u has chain =
      let back = chain_back n ms c h u has chain in
      let walk = walk_from_back step cost start n ms back.0 in
      let (d, k, v, also, under, fewer) = low n ms back.0 in
      let same = settled.one n c h u d k v has also in
      let exact : walk_cost cost (reverse (n ∷ ms)) ≡ c = (let e = walk.1 in let f = back.1 in let g = same.0 in omega arith) in (
        record {
          walk = walk.0;
          best = λ others w.
              let (ks, other, is, price) = back_from_walk step cost start n others w in
              let (d', k', v', there, under', fewer') = low n ks other in
              let one = settled.one n c h u d' k' v' has there in
              let lengths : length others ≡ length (n ∷ ks) = ap length is ∙ length-reverse (n ∷ ks) in
              let own : length (reverse (n ∷ ms)) ≡ length (n ∷ ms) = length-reverse (n ∷ ms) in
              le_first (walk_cost cost (reverse (n ∷ ms))) (walk_cost cost others) _ (let e = one.0 in omega arith) (λ (alike : walk_cost cost (reverse (n ∷ ms)) ≡ walk_cost cost others).
              let tight : d' ≡ back_cost step cost start n ks = (let e = one.0 in omega arith) in
              le_first (length (reverse (n ∷ ms))) (length others) _ (let e = one.1 in let f = fewer' tight in let g = back.2 in omega arith) (λ (few : length (reverse (n ∷ ms)) ≡ length others).
              let first = first_back n ms ks c h u has chain other (let e = one.0 in omega arith) (let g = back.2 in omega arith) in
              ap (λ l. is_le (slice_cmp node_cmp l (reverse others))) (reverse-reverse (n ∷ ms))
              ∙ ap (λ l. is_le (slice_cmp node_cmp (n ∷ ms) (reverse l))) is
              ∙ ap (λ l. is_le (slice_cmp node_cmp (n ∷ ms) l)) (reverse-reverse (n ∷ ks))
              ∙ ap (λ r. is_le (ordering_then r (slice_cmp node_cmp ms ks))) (tied_itself node_total n) ∙ first));
        },
        exact,
      )

  -- each walk's last node is known, and no walk costs less than is known
  pub least : (n : Node) (nodes : List Node) → IsWalk step start n nodes → (c h : ℕ) × (u : Node) × Has n c h u × (c ≤ walk_cost cost nodes)
  least n nodes w =
      let (ks, back, is, price) = back_from_walk step cost start n nodes w in
      let (c, h, u, has, under, fewer) = low n ks back in
      (c, h, u, has, omega arith)

  -- from each node that is known a chain leads back
  pub chain_of : (h : ℕ) (n : Node) (c : ℕ) (u : Node) → Has n c h u → (ms : List Node) × IsChain Has n ms
  chain_of zero n c u has = ([], (c, u, has))
  chain_of (suc h) n c u has = elim (settled.real n c (suc h) u has) [
    | inl first ↦ absurd (let e = first.1 in omega arith)
    | inr (d, k, v, before, leads, under, steps) ↦
        let same : k ≡ h = omega (arith, steps) in
        let rest = chain_of h u d v (subst (λ x. Has u d x v) same before) in
        (u ∷ rest.0, (c, k, subst (λ x. Has n c x u) steps has, rest.1))
  ]

  -- what is known is the least cost
  pub least_cost : (n : Node) (c h : ℕ) (u : Node) → Has n c h u → IsLeastCost step cost start n c
  least_cost n c h u has =
      let chain = chain_of h n c u has in
      let b = best n chain.0 c h u has chain.1 in
      record {
        nodes = reverse (n ∷ chain.0);
        walk = b.0.walk;
        costs = b.1;
        least = λ others w.
            let (d, k, v, also, under) = least n others w in
            let same = settled.one n c h u d k v has also in
            (let e = same.0 in omega arith);
      }
