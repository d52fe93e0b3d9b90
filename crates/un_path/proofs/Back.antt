-- Walks read from their last node back to their first.
use Rattle.std.proofs.Common.{◌≡◌, ℕ, ◌+◌, Bool, List, [], ◌∷◌, ◌++◌, reverse, refl, sym, ap, subst, ◌∙◌, arith, append_assoc}
use Rattle.std.specs.Prelude.{IsTrue}
use Rattle.std.proofs.lemmas.List.{reverse-append, append-nil}
use Rattle.un_defs.specs.declared.port.Node.{Node}
use Rattle.un_defs.specs.Reach.{Follow, last_node}
use Rattle.un_path.specs.Costs.{cost_after, walk_cost}
use Rattle.un_path.specs.Paths.{IsWalk}
use Rattle.un_path.proofs.Labelled.{one_further, further_cost}

reverse_first : (x : Node) (xs : List Node) → reverse (x ∷ xs) ≡ reverse xs ++ x ∷ []
reverse_first x xs = reverse-append (x ∷ []) xs

module _ (step : Node → Node → Bool) (cost : Node → Node → ℕ) (start : Node) where
  -- from the node each step leads back to the next of these nodes, and the last of them is the start
  abbrev pub Back : Node → List Node → Type 0
  Back n [] = n ≡ start
  Back n (m ∷ ms) = IsTrue (step m n) × Back m ms

  abbrev pub back_cost : Node → List Node → ℕ
  back_cost n [] = 0
  back_cost n (m ∷ ms) = cost m n + back_cost m ms

  -- turned round they are a walk
  pub walk_from_back : (n : Node) (ms : List Node) → Back n ms → IsWalk step start n (reverse (n ∷ ms)) × (walk_cost cost (reverse (n ∷ ms)) ≡ back_cost n ms)
  walk_from_back n [] b = (record { rest = []; begins = ap (λ k. k ∷ []) b; follows = tt; ends = sym b }, refl)
  walk_from_back n (m ∷ ms) b =
      let rest = walk_from_back m ms b.1 in
      let turned = reverse_first n (m ∷ ms) in
      let price = further_cost step cost start m n (reverse (m ∷ ms)) rest.0 in (
        subst (IsWalk step start n) (sym turned) (one_further step cost start m n (reverse (m ∷ ms)) rest.0 b.0),
        ap (walk_cost cost) turned ∙ (let e = rest.1 in omega arith),
      )

  turn : (m : Node) (acc : List Node) → Back m acc → (rest : List Node) → Follow step m rest
      → (ks : List Node) × Back (last_node m rest) ks × (reverse (last_node m rest ∷ ks) ≡ reverse (m ∷ acc) ++ rest) × (back_cost (last_node m rest) ks ≡ back_cost m acc + cost_after cost m rest)
  turn m acc b [] f = (acc, b, sym (append-nil (reverse (m ∷ acc))), omega arith)
  turn m acc b (k ∷ ks) f =
      let more = turn k (m ∷ acc) (f.0, b) ks f.1 in
      (more.0, more.1, more.2 ∙ ap (λ l. l ++ ks) (reverse_first k (m ∷ acc)) ∙ append_assoc (reverse (m ∷ acc)) (k ∷ []) ks, (let e = more.3 in omega arith))

  pub back_from_walk : (n : Node) (nodes : List Node) → IsWalk step start n nodes → (ks : List Node) × Back n ks × (nodes ≡ reverse (n ∷ ks)) × (walk_cost cost nodes ≡ back_cost n ks)
  back_from_walk n nodes w =
      let t = turn start [] refl w.rest w.follows in (
        t.0,
        subst (λ m. Back m t.0) w.ends t.1,
        w.begins ∙ sym t.2 ∙ ap (λ m. reverse (m ∷ t.0)) w.ends,
        ap (walk_cost cost) w.begins ∙ (let e = t.3 in let all : back_cost (last_node start w.rest) t.0 ≡ cost_after cost start w.rest = omega arith in sym all) ∙ ap (λ m. back_cost m t.0) w.ends,
      )
