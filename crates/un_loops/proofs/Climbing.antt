-- What marks say once one more parent link is marked.
use Rattle.std.proofs.Common.{◌≡◌, ◌≢◌, ℕ, zero, suc, ◌<◌, ◌≤◌, inl, inr, List, [], ◌∷◌, length, Option, get_or, set, Some, refl, sym, ap, subst, ◌∙◌, arith}
use Rattle.std.proofs.lemmas.List.{length-set, get_or-set_same, get_or-set_other}
use Rattle.std.proofs.lemmas.Bool.{cases_eq}
use Rattle.un_loops.specs.declared.link.Link.{Link}
use Rattle.un_loops.specs.declared.graph.Parent.{Parent}
use Rattle.un_loops.specs.Graph.{Joins, IsWalk, IsJoinedBy, IsOnCycle}
use Rattle.un_loops.specs.Forest.{parent_at, IsForest, IsParentLink}
use Rattle.un_loops.specs.Heads.{nth_head, AreShortened, IsMarked, AreHeads}
use Rattle.un_loops.proofs.Walks.{joined_here, joined_link, joined_trans, joined_back, joined_allowed}
use Rattle.un_loops.proofs.Roots.{one_child, on_cycle_from, way_round}
use Rattle.un_loops.proofs.Shortening.{nth_head_below}

module _ (links : List Link) (parents : List (Option Parent)) where
  pub marked_is_parent_link : (heads : List ℕ) → length heads ≡ length parents → (j : ℕ) → IsMarked parents heads j → IsParentLink parents j
  marked_is_parent_link heads count j (v, u, inside, parent, is, moves) = (v, u, omega arith, parent, is)

  -- along heads, any number of times
  pub joined_nth : (heads : List ℕ) → AreHeads links parents heads → (k v : ℕ) → v < length heads → IsJoinedBy links (IsMarked parents heads) v (nth_head k heads v)
  joined_nth heads are zero v inside = joined_here links (IsMarked parents heads) v
  joined_nth heads are (suc k) v inside =
      let lower : get_or heads v 0 ≤ v = are.below v inside in
      joined_trans links (IsMarked parents heads) v (get_or heads v 0) (nth_head k heads (get_or heads v 0)) (are.joined v inside)
      (joined_nth heads are k (get_or heads v 0) (omega arith))

  module _ (old new : List ℕ) (are : AreHeads links parents old) (short : AreShortened old new) where
    pub marked_kept : (j : ℕ) → IsMarked parents old j → IsMarked parents new j
    marked_kept j (v, u, inside, parent, is, moves) = (v, u, omega (arith, short.count), parent, is, short.moves v inside moves)

    pub heads_shortened : AreHeads links parents new
    heads_shortened = record {
      count = short.count ∙ are.count;
      below = λ v h.
          let inside : v < length old = omega (arith, short.count) in
          let k = short.along v inside in
          omega (arith, k.1, nth_head_below old are.below k.0 v inside);
      joined = λ v h.
          let inside : v < length old = omega (arith, short.count) in
          let k = short.along v inside in
          joined_allowed links (IsMarked parents old) (IsMarked parents new) marked_kept v (get_or new v 0)
          (subst (IsJoinedBy links (IsMarked parents old) v) (sym k.1) (joined_nth old are k.0 v inside));
      cyclic = λ v h moves.
          let inside : v < length old = omega (arith, short.count) in
          are.cyclic v inside (λ same. moves (short.stays v inside same));
    }

  module _ (forest : IsForest links parents) (heads : List ℕ) (are : AreHeads links parents heads) (x : ℕ) (u : Parent) (inside : x < length heads) (parent : parent_at parents x ≡ Some u) where
    -- a marked link is not the parent link of a place that is its own head
    pub unmarked : get_or heads x 0 ≡ x → (j : ℕ) → IsMarked parents heads j → j ≢ u.link
    unmarked stays j (v, t, v_in, v_up, is, moves) e =
        let same : v ≡ x = one_child links parents forest v x t u (omega (arith, are.count)) (omega (arith, are.count)) v_up parent (is ∙ e) in
        moves (subst (λ w. get_or heads w 0 ≡ w) (sym same) stays)

    at_x : get_or (set heads x u.place) x 0 ≡ u.place
    at_x = get_or-set_same heads x u.place 0 inside

    lower : u.place < x
    lower = let way = forest.parent x u (omega (arith, are.count)) parent in way.0

    pub marked_more : (j : ℕ) → IsMarked parents heads j → IsMarked parents (set heads x u.place) j
    marked_more j (v, t, v_in, v_up, is, moves) = (
      v,
      t,
      omega (arith, length-set heads x u.place),
      v_up,
      is,
      elim (cases_eq v x) [
        | inl same ↦ λ e.
            let here : u.place ≡ v = sym at_x ∙ ap (λ w. get_or (set heads x u.place) w 0) (sym same) ∙ e in
            let less : u.place < x = lower in absurd (omega arith)
        | inr other ↦ λ e. moves (sym (get_or-set_other heads x v u.place 0 other) ∙ e)
      ],
    )

    -- a place whose parent link is on a cycle may get its parent as its head
    pub heads_more : IsOnCycle links u.link → AreHeads links parents (set heads x u.place)
    heads_more cycle = record {
      count = length-set heads x u.place ∙ are.count;
      below = λ v h. elim (cases_eq v x) [
        | inl same ↦
            let here : get_or (set heads x u.place) v 0 ≡ u.place = ap (λ w. get_or (set heads x u.place) w 0) same ∙ at_x in
            let less : u.place < x = lower in omega arith
        | inr other ↦
            let there : get_or (set heads x u.place) v 0 ≡ get_or heads v 0 = get_or-set_other heads x v u.place 0 other in
            let low : get_or heads v 0 ≤ v = are.below v (omega (arith, length-set heads x u.place)) in omega arith
      ];
      joined = λ v h. elim (cases_eq v x) [
        | inl same ↦
            let here : get_or (set heads x u.place) v 0 ≡ u.place = ap (λ w. get_or (set heads x u.place) w 0) same ∙ at_x in
            let way = forest.parent x u (omega (arith, are.count)) parent in
            let mark : IsMarked parents (set heads x u.place) u.link = (x, u, omega (arith, length-set heads x u.place), parent, refl, λ e. let here' : u.place ≡ x = sym at_x ∙ e in let less : u.place < x = lower in omega arith) in
            subst (λ w. IsJoinedBy links (IsMarked parents (set heads x u.place)) w (get_or (set heads x u.place) v 0)) (sym same)
            (subst (IsJoinedBy links (IsMarked parents (set heads x u.place)) x) (sym here)
            (joined_link links (IsMarked parents (set heads x u.place)) u.link x u.place mark way.1))
        | inr other ↦
            let there : get_or (set heads x u.place) v 0 ≡ get_or heads v 0 = get_or-set_other heads x v u.place 0 other in
            subst (IsJoinedBy links (IsMarked parents (set heads x u.place)) v) (sym there)
            (joined_allowed links (IsMarked parents heads) (IsMarked parents (set heads x u.place)) marked_more v (get_or heads v 0)
            (are.joined v (omega (arith, length-set heads x u.place))))
      ];
      cyclic = λ v h moves. elim (cases_eq v x) [
        | inl same ↦ (u, ap (parent_at parents) same ∙ parent, cycle)
        | inr other ↦ are.cyclic v (omega (arith, length-set heads x u.place)) (λ e. moves (get_or-set_other heads x v u.place 0 other ∙ e))
      ];
    }

  -- where marked links join the ends of a link outside the forest to two places of one root, the parent link of the higher of the two is on a cycle
  pub closes_cycle : (forest : IsForest links parents) (heads : List ℕ) (are : AreHeads links parents heads) (j a b x y : ℕ)
      → (IsParentLink parents j → ⊥) → Joins links j a b
      → IsJoinedBy links (IsMarked parents heads) a x → IsJoinedBy links (IsMarked parents heads) b y
      → x < length heads → get_or heads x 0 ≡ x → y < x → forest.root x ≡ forest.root y
      → (u : Parent) × (parent_at parents x ≡ Some u) × IsOnCycle links u.link
  closes_cycle forest heads are j a b x y chord joins from_a from_b inside stays less root =
      let round = way_round links parents forest x y less (omega (arith, are.count)) root in
      let u : Parent = round.0 in
      let without : ℕ → Type 0 = λ k. k ≢ u.link in
      let way = forest.parent x u (omega (arith, are.count)) round.1 in
      let free = unmarked forest heads are x u inside round.1 stays in
      let down = joined_back links without a x (joined_allowed links (IsMarked parents heads) without free a x from_a) in
      let across = joined_link links without j a b (λ e. chord (x, u, omega (arith, are.count), round.1, sym e)) joins in
      let rise = joined_allowed links (IsMarked parents heads) without free b y from_b in
      let walk = joined_trans links without x a u.place down (joined_trans links without a b u.place across (joined_trans links without b y u.place rise round.2)) in
      (u, round.1, on_cycle_from links u.link x u.place way.1 walk)

  -- two places that are joined by marked links have one root
  pub same_root : (forest : IsForest links parents) (heads : List ℕ) → (a x : ℕ) → IsJoinedBy links (IsMarked parents heads) a x → forest.root a ≡ forest.root x
  same_root forest heads a x (js, walk) = root_along js a x walk
    where
      one : (k u v : ℕ) → Joins links k u v → forest.root u ≡ forest.root v
      one k u v (l, at, inl e) = ap forest.root (sym e.0) ∙ (forest.ends k l at).2 ∙ ap forest.root e.1
      one k u v (l, at, inr e) = ap forest.root (sym e.1) ∙ sym (forest.ends k l at).2 ∙ ap forest.root e.0

      root_along : (ks : List ℕ) (u v : ℕ) → IsWalk links (IsMarked parents heads) ks u v → forest.root u ≡ forest.root v
      root_along [] u v e = ap forest.root e
      root_along (k ∷ ks) u v (w, ok, joins, rest) = one k u w joins ∙ root_along ks w v rest
