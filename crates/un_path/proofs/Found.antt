-- What the definition finds is what is found: it has the best walk and the least costs, and nothing else has.
use Rattle.std.proofs.Common.{◌≡◌, ℕ, Bool, true, false, if◌then◌else◌, List, [], ◌∷◌, map, Option, Some, None, inl, inr, refl, sym, ap, subst, ◌∙◌, arith}
use Rattle.std.specs.Prelude.{MatchOption, unwrap_or}
use Rattle.std.specs.Option.{option_map, option_map_or}
use Rattle.std.proofs.lemmas.Map.Keys.{le_from_is_le}
use Rattle.un_defs.specs.declared.port.Node.{Node}
use Rattle.un_defs.specs.Linked.{HaveOwnPorts}
use Rattle.un_defs.specs.Reach.{IsReach}
use Rattle.un_defs.proofs.Members.{among_from-map, contains_from_among, among_from_contains}
use Rattle.un_defs.proofs.Rising.{Among}
use Rattle.un_ask.specs.declared.results.Label.{Label}
use Rattle.un_path.specs.declared.answer.PathFound.{PathFound}
use Rattle.un_path.specs.Costs.{walk_cost}
use Rattle.un_path.specs.Paths.{IsWalk, IsBestWalk, IsLeastCost, IsToldOf, AreLeastCosts, IsPathFound, ports_of, label_ports}
use Rattle.un_path.specs.WalkList.{best_walk, best_cost, label_of, path_found}
use Rattle.un_path.proofs.Labelled.{walk_from}
use Rattle.un_path.proofs.Listed.{best_is, none_is}
use Rattle.un_path.proofs.Ordered.{first_le, tied_by, walk_total, walk_ties}
use Rattle.un_path.proofs.RightWalk.{heads, tails}

-- ---- the definition finds it

module _ (step : Node → Node → Bool) (cost : Node → Node → ℕ) (from : Node) (reached : List Node) (reach : IsReach step (from ∷ []) reached) where
  -- what the best walk to a node costs is the least cost
  by_best : (n : Node) (w : List Node) → IsBestWalk step cost from n w → IsLeastCost step cost from n (walk_cost cost w)
  by_best n w best = record {
    nodes = w;
    walk = best.walk;
    costs = refl;
    least = λ others v. le_from_is_le (walk_cost cost w) (walk_cost cost others) (first_le _ _ (best.best others v));
  }

  label_least : (n : Node) → Among reached n → IsLeastCost step cost from n (unwrap_or (best_cost step cost from reached n) 0)
  label_least n h = go (best_walk step cost from reached n) refl
    where
      go : (o : Option (List Node)) → best_walk step cost from reached n ≡ o → IsLeastCost step cost from n (unwrap_or (option_map (walk_cost cost) o) 0)
      go (Some w) e = by_best n w (best_is step cost from reached reach n w e)
      go None e =
          let v = walk_from step cost from n ((reach.exact n).0 (contains_from_among reached n h)) in
          absurd (none_is step cost from reached reach n e v.0 v.1)

  same_label_ports : (ns : List Node) → label_ports (map (label_of step cost from reached) ns) ≡ ports_of ns
  same_label_ports [] = refl
  same_label_ports (n ∷ ns) = ap (λ l. n.port ∷ l) (same_label_ports ns)

  labels_least : HaveOwnPorts reached → AreLeastCosts step cost from reached (map (label_of step cost from reached) reached)
  labels_least own = record {
    ports = same_label_ports reached;
    least = λ n l there among port.
        let (m, h, is) = among_from-map (label_of step cost from reached) reached l (among_from_contains (map (label_of step cost from reached) reached) l among) in
        let one : m ≡ n = own m n (contains_from_among reached m h) there (ap (λ (k : Label). k.port) is ∙ port) in
        subst (λ k. IsLeastCost step cost from k l.cost) one (subst (λ (k : Label). IsLeastCost step cost from m k.cost) is (label_least m h));
  }

  pub finds : HaveOwnPorts reached → (to : Node) (certificate : Bool) → IsPathFound step cost from to certificate reached (path_found step cost from reached to certificate)
  finds own to certificate = record {
    path = path (best_walk step cost from reached to) refl;
    labels = λ e. subst (λ b. AreLeastCosts step cost from reached (if b then map (label_of step cost from reached) reached else [])) (sym e) (labels_least own);
    bare = λ e. ap (λ b. if b then map (label_of step cost from reached) reached else []) e;
  }
    where
      path : (o : Option (List Node)) → best_walk step cost from reached to ≡ o → MatchOption (option_map (walk_cost cost) o)
          ((option_map_or ports_of (best_walk step cost from reached to) [] ≡ []) × ((nodes : List Node) → IsWalk step from to nodes → ⊥))
          (λ c. (nodes : List Node) × IsBestWalk step cost from to nodes × IsToldOf cost (path_found step cost from reached to certificate) c nodes)
      path None e = (ap (λ o. option_map_or ports_of o []) e, none_is step cost from reached reach to e)
      path (Some w) e = (w, best_is step cost from reached reach to w e, record { costs = refl; ports = ap (λ o. option_map_or ports_of o []) e })

-- ---- and nothing else is found

module _ (step : Node → Node → Bool) (cost : Node → Node → ℕ) (from : Node) where
  one_cost : (n : Node) (a b : ℕ) → IsLeastCost step cost from n a → IsLeastCost step cost from n b → a ≡ b
  one_cost n a b p q = (let l = p.least q.nodes q.walk in let k = q.least p.nodes p.walk in let e = p.costs in let f = q.costs in omega arith)

  one_walk : (n : Node) (v w : List Node) → IsBestWalk step cost from n v → IsBestWalk step cost from n w → v ≡ w
  one_walk n v w p q = walk_ties cost v w (tied_by (walk_total cost) v w (p.best w q.walk) (q.best v p.walk))

  -- labels with the same ports and the least costs are the same
  one_list : (ns : List Node) (ls ks : List Label) → label_ports ls ≡ ports_of ns → label_ports ks ≡ ports_of ns
      → ((n : Node) (l : Label) → Among ns n → Among ls l → l.port ≡ n.port → IsLeastCost step cost from n l.cost)
      → ((n : Node) (l : Label) → Among ns n → Among ks l → l.port ≡ n.port → IsLeastCost step cost from n l.cost)
      → ls ≡ ks
  one_list [] [] [] e f p q = refl
  one_list [] (l ∷ ls) ks e f p q = let g : l.port ∷ label_ports ls ≡ [] = e in cc
  one_list [] [] (k ∷ ks) e f p q = let g : k.port ∷ label_ports ks ≡ [] = f in cc
  one_list (n ∷ ns) [] ks e f p q = let g : [] ≡ n.port ∷ ports_of ns = e in cc
  one_list (n ∷ ns) (l ∷ ls) [] e f p q = let g : [] ≡ n.port ∷ ports_of ns = f in cc
  one_list (n ∷ ns) (l ∷ ls) (k ∷ ks) e f p q =
      let at_l : l.port ≡ n.port = heads l.port n.port (label_ports ls) (ports_of ns) e in
      let at_k : k.port ≡ n.port = heads k.port n.port (label_ports ks) (ports_of ns) f in
      let port : l.port ≡ k.port = at_l ∙ sym at_k in
      let price : l.cost ≡ k.cost = one_cost n l.cost k.cost (p n l (inl refl) (inl refl) at_l) (q n k (inl refl) (inl refl) at_k) in
      let rest = one_list ns ls ks (tails l.port n.port (label_ports ls) (ports_of ns) e) (tails k.port n.port (label_ports ks) (ports_of ns) f)
      (λ m x h g. p m x (inr h) (inr g)) (λ m x h g. q m x (inr h) (inr g)) in
      λ i. record { port = port i; cost = price i } ∷ rest i

  module _ (to : Node) (certificate : Bool) (reached : List Node) (f g : PathFound)
      (p : IsPathFound step cost from to certificate reached f) (q : IsPathFound step cost from to certificate reached g) where
    abbrev Told : PathFound → Option ℕ → Type 0
    Told h o = MatchOption o ((h.nodes ≡ []) × ((nodes : List Node) → IsWalk step from to nodes → ⊥))
        (λ c. (nodes : List Node) × IsBestWalk step cost from to nodes × IsToldOf cost h c nodes)

    one_path : (a b : Option ℕ) → Told f a → Told g b → (a ≡ b) × (f.nodes ≡ g.nodes)
    one_path None None u v = (refl, u.0 ∙ sym v.0)
    one_path None (Some b) u v = absurd (u.1 v.0 v.1.walk)
    one_path (Some a) None u v = absurd (v.1 u.0 u.1.walk)
    one_path (Some a) (Some b) u v =
        let same = one_walk to u.0 v.0 u.1 v.1 in
        (ap Some (sym u.2.costs ∙ ap (walk_cost cost) same ∙ v.2.costs), u.2.ports ∙ ap ports_of same ∙ sym v.2.ports)

    one_labels : (b : Bool) → certificate ≡ b → f.labels ≡ g.labels
    one_labels true e =
        let r = p.labels e in
        let s = q.labels e in
        one_list reached f.labels g.labels r.ports s.ports
        (λ n l h k. r.least n l (contains_from_among reached n h) (contains_from_among f.labels l k))
        (λ n l h k. s.least n l (contains_from_among reached n h) (contains_from_among g.labels l k))
    one_labels false e = p.bare e ∙ sym (q.bare e)

    pub one_found : f ≡ g
    one_found =
        let path = one_path f.cost g.cost p.path q.path in
        let labels = one_labels certificate refl in
        λ i. record { cost = path.0 i; nodes = path.1 i; labels = labels i }

pub found_is : (step : Node → Node → Bool) (cost : Node → Node → ℕ) (from to : Node) (certificate : Bool) (reached : List Node) (found : PathFound) → IsReach step (from ∷ []) reached → HaveOwnPorts reached
    → IsPathFound step cost from to certificate reached found → found ≡ path_found step cost from reached to certificate
found_is step cost from to certificate reached found reach own is =
    one_found step cost from to certificate reached found (path_found step cost from reached to certificate) is (finds step cost from reached reach own to certificate)
