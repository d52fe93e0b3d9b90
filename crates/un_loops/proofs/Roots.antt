-- The parent links of a forest: no two places have one, and they lead to the root.
use Rattle.std.proofs.Common.{◌≡◌, ◌≢◌, ℕ, zero, suc, ◌<◌, ◌≤◌, ◌⊎◌, inl, inr, List, length, Option, None, Some, refl, sym, ap, subst, ◌∙◌, arith}
use Rattle.std.specs.Prelude.{slice_get}
use Rattle.un_loops.specs.declared.link.Link.{Link}
use Rattle.un_loops.specs.declared.graph.Parent.{Parent}
use Rattle.un_loops.specs.Graph.{Joins, IsJoinedBy, IsOnCycle}
use Rattle.un_loops.specs.Forest.{parent_at, IsForest, IsParentLink}
use Rattle.un_loops.proofs.Walks.{joined_along, joined_link, joined_trans, joined_back, joined_allowed}

pub option_cases : {X : Type 0} (o : Option X) → (o ≡ None) ⊎ ((x : X) × (o ≡ Some x))
option_cases None = inl refl
option_cases (Some x) = inr (x, refl)

same_ends : (links : List Link) (j : ℕ) (l m : Link) → slice_get links j ≡ Some l → slice_get links j ≡ Some m → (l.a ≡ m.a) × (l.b ≡ m.b)
same_ends links j l m one other =
    let same : l ≡ m = cc in
    (ap (λ k. k.a) same, ap (λ k. k.b) same)

-- a link has one pair of ends
pub ends_same : (links : List Link) (j u v x y : ℕ) → Joins links j u v → Joins links j x y → ((u ≡ x) × (v ≡ y)) ⊎ ((u ≡ y) × (v ≡ x))
ends_same links j u v x y (l, one, inl e) (m, other, inl f) =
    let same = same_ends links j l m one other in inl (omega (arith, e, f, same), omega (arith, e, f, same))
ends_same links j u v x y (l, one, inl e) (m, other, inr f) =
    let same = same_ends links j l m one other in inr (omega (arith, e, f, same), omega (arith, e, f, same))
ends_same links j u v x y (l, one, inr e) (m, other, inl f) =
    let same = same_ends links j l m one other in inr (omega (arith, e, f, same), omega (arith, e, f, same))
ends_same links j u v x y (l, one, inr e) (m, other, inr f) =
    let same = same_ends links j l m one other in inl (omega (arith, e, f, same), omega (arith, e, f, same))

pub on_cycle_from : (links : List Link) (i u v : ℕ) → Joins links i u v → IsJoinedBy links (λ j. j ≢ i) u v → IsOnCycle links i
on_cycle_from links i u v (l, at, inl e) walk =
    (l, at, subst (λ x. IsJoinedBy links (λ j. j ≢ i) x l.b) (sym e.0) (subst (IsJoinedBy links (λ j. j ≢ i) u) (sym e.1) walk))
on_cycle_from links i u v (l, at, inr e) walk = (
  l,
  at,
  joined_back links (λ j. j ≢ i) l.b l.a
      (subst (λ x. IsJoinedBy links (λ j. j ≢ i) x l.a) (sym e.1) (subst (IsJoinedBy links (λ j. j ≢ i) u) (sym e.0) walk)),
)

module _ (links : List Link) (parents : List (Option Parent)) (forest : IsForest links parents) where
  pub one_child : (v w : ℕ) (s t : Parent) → v < length parents → w < length parents → parent_at parents v ≡ Some s → parent_at parents w ≡ Some t → s.link ≡ t.link → v ≡ w
  one_child v w s t v_in w_in v_up w_up same =
      let one = forest.parent v s v_in v_up in
      let other = forest.parent w t w_in w_up in
      let one_less : s.place < v = one.0 in
      let other_less : t.place < w = other.0 in
      elim (ends_same links s.link v s.place w t.place one.1 (subst (λ j. Joins links j w t.place) (sym same) other.1)) [
        | inl e ↦ e.0
        | inr e ↦ absurd (omega (arith, e.0, e.1))
      ]

  module _ (top : ℕ) where
    -- the link is the parent link of a place below the top
    IsUpBelow : ℕ → Type 0
    IsUpBelow j = (w : ℕ) × (t : Parent) × (w < top) × (w < length parents) × (parent_at parents w ≡ Some t) × (t.link ≡ j)

    IsRooted : ℕ → Type 0
    IsRooted v = (forest.root v ≤ v) × IsJoinedBy links IsUpBelow v (forest.root v)

    rooted_from : (v : ℕ) → v < top → v < length parents → (k : ℕ) → v < k → IsRooted v
    unfolding IsUpBelow IsRooted
    rooted_from v low inside zero h = absurd (omega arith)
    rooted_from v low inside (suc k) h =
        elim (option_cases (parent_at parents v)) [
          | inl none ↦ let is = forest.top v inside none in (omega (arith, is), joined_along links IsUpBelow v (forest.root v) (sym is))
          | inr some ↦
              let u : Parent = some.0 in
              let way = forest.parent v u inside some.1 in
              let lower : u.place < v = way.0 in
              let more = rooted_from u.place (omega arith) (omega arith) k (omega arith) in
              let allowed : IsUpBelow u.link = (v, u, low, inside, some.1, refl) in (
                omega (arith, more.0, way.2),
                joined_trans links IsUpBelow v u.place (forest.root v)
                    (joined_link links IsUpBelow u.link v u.place allowed way.1)
                    (subst (IsJoinedBy links IsUpBelow u.place) way.2 more.1),
              )
        ]

  -- of two places of one root, the parent of the higher one is joined to the lower one without the parent link of the higher one
  pub way_round : (x y : ℕ) → y < x → x < length parents → forest.root x ≡ forest.root y → (u : Parent) × (parent_at parents x ≡ Some u) × IsJoinedBy links (λ j. j ≢ u.link) y u.place
  unfolding IsUpBelow IsRooted
  way_round x y lower inside same =
      let from_y = rooted_from x y lower (omega arith) (suc y) (omega arith) in
      elim (option_cases (parent_at parents x)) [
        | inl none ↦ absurd (omega (arith, forest.top x inside none, from_y.0, same))
        | inr some ↦
            let u : Parent = some.0 in
            let way = forest.parent x u inside some.1 in
            let less : u.place < x = way.0 in
            let from_u = rooted_from x u.place less (omega arith) (suc u.place) (omega arith) in
            let meet : forest.root u.place ≡ forest.root y = way.2 ∙ same in
            let walk = joined_trans links (IsUpBelow x) y (forest.root y) u.place from_y.1
            (joined_back links (IsUpBelow x) u.place (forest.root y) (subst (IsJoinedBy links (IsUpBelow x) u.place) meet from_u.1)) in (
              u,
              some.1,
              joined_allowed links (IsUpBelow x) (λ j. j ≢ u.link)
                  (λ j (w, t, w_less, w_in, w_up, is) e.
                  let same_place : w ≡ x = one_child w x t u w_in inside w_up some.1 (is ∙ e) in
                  omega arith)
                  y u.place walk,
            )
      ]

  -- parent links join the ends of each link
  pub ends_joined : (j : ℕ) (l : Link) → slice_get links j ≡ Some l → IsJoinedBy links (IsParentLink parents) l.a l.b
  unfolding IsUpBelow IsRooted
  ends_joined j l at =
      let ends = forest.ends j l at in
      let top = length parents in
      let from_a = rooted_from top l.a ends.0 ends.0 (suc l.a) (omega arith) in
      let from_b = rooted_from top l.b ends.1 ends.1 (suc l.b) (omega arith) in
      let back = joined_back links (IsUpBelow top) l.b (forest.root l.a) (subst (IsJoinedBy links (IsUpBelow top) l.b) (sym ends.2) from_b.1) in
      joined_allowed links (IsUpBelow top) (IsParentLink parents) (λ i (w, t, low, inside, up, is). (w, t, inside, up, is)) l.a l.b
      (joined_trans links (IsUpBelow top) l.a (forest.root l.a) l.b from_a.1 back)
