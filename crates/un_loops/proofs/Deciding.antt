-- The heads decide which links lie on a cycle.
use Rattle.std.proofs.Common.{◌≡◌, ◌≢◌, ℕ, ◌+◌, ◌<◌, ◌⊎◌, inl, inr, List, length, Option, get_or, Some, refl, sym, ap, subst, ◌∙◌, arith}
use Rattle.std.specs.Prelude.{slice_get}
use Rattle.std.proofs.lemmas.Bool.{cases_eq}
use Rattle.std.proofs.lemmas.Option.{slice_get-get_or, slice_get_within}
use Rattle.un_loops.specs.declared.link.Link.{Link}
use Rattle.un_loops.specs.declared.graph.Parent.{Parent}
use Rattle.un_loops.specs.Graph.{Joins, IsJoinedBy, IsOnCycle}
use Rattle.un_loops.specs.Forest.{parent_at, IsForest, IsParentLink}
use Rattle.un_loops.specs.Heads.{IsMarked, AreHeads, AreSpanned}
use Rattle.un_loops.proofs.Walks.{joined_allowed}
use Rattle.un_loops.proofs.Roots.{option_cases, ends_same}
use Rattle.un_loops.proofs.Climbing.{marked_is_parent_link}
use Rattle.un_loops.proofs.Cut.{is_bridge}

module _ (links : List Link) (parents : List (Option Parent)) where
  -- the link is the parent link of this place
  abbrev pub IsWayUpFrom : ℕ → ℕ → Type 0
  IsWayUpFrom v index = (u : Parent) × (parent_at parents v ≡ Some u) × (u.link ≡ index)

  way_up_or_not : (v index : ℕ) → IsWayUpFrom v index ⊎ (IsWayUpFrom v index → ⊥)
  way_up_or_not v index = elim (option_cases (parent_at parents v)) [
    | inl none ↦ inr (λ (u, parent, is). absurd (cc))
    | inr (t, some) ↦ elim (cases_eq t.link index) [
      | inl same ↦ inl (t, some, same)
      | inr other ↦ inr (λ (u, parent, is). let one : t ≡ u = cc in other (ap (λ (p : Parent). p.link) one ∙ is))
    ]
  ]

  -- a parent link belongs to one of its ends
  pub parent_link_at_end : IsForest links parents → (index : ℕ) (l : Link) → slice_get links index ≡ Some l → IsParentLink parents index → IsWayUpFrom l.a index ⊎ IsWayUpFrom l.b index
  parent_link_at_end forest index l at (v, u, inside, parent, is) =
      let way = forest.parent v u inside parent in
      elim (ends_same links index l.a l.b v u.place (l, at, inl (refl, refl)) (subst (λ j. Joins links j v u.place) is way.1)) [
        | inl e ↦ inl (u, ap (parent_at parents) e.0 ∙ parent, is)
        | inr e ↦ inr (u, ap (parent_at parents) e.1 ∙ parent, is)
      ]

  -- a link is a parent link, or it is none
  pub parent_link_or_not : IsForest links parents → (index : ℕ) (l : Link) → slice_get links index ≡ Some l → IsParentLink parents index ⊎ (IsParentLink parents index → ⊥)
  parent_link_or_not forest index l at =
      let ends = forest.ends index l at in
      elim (way_up_or_not l.a index) [
        | inl (u, parent, is) ↦ inl (l.a, u, ends.0, parent, is)
        | inr not_a ↦ elim (way_up_or_not l.b index) [
          | inl (u, parent, is) ↦ inl (l.b, u, ends.1, parent, is)
          | inr not_b ↦ inr (λ way. elim (parent_link_at_end forest index l at way) [ inl h ↦ not_a h | inr h ↦ not_b h ])
        ]
      ]

  pub spanned_more : (old new : List ℕ) (k m : ℕ) → m ≡ k + 1 → AreSpanned links parents old k → ((j : ℕ) → IsMarked parents old j → IsMarked parents new j)
      → ((l : Link) → slice_get links k ≡ Some l → IsParentLink parents k ⊎ IsJoinedBy links (IsMarked parents new) l.a l.b) → AreSpanned links parents new m
  spanned_more old new k m next so_far kept here = λ j l low at. elim (cases_eq j k) [
    | inl e ↦
        let at_k : slice_get links k ≡ Some l = subst (λ i. slice_get links i ≡ Some l) e at in
        subst (λ i. IsParentLink parents i ⊎ IsJoinedBy links (IsMarked parents new) l.a l.b) (sym e) (here l at_k)
    | inr ne ↦ elim (so_far j l (omega arith) at) [
      | inl way ↦ inl way
      | inr walk ↦ inr (joined_allowed links (IsMarked parents old) (IsMarked parents new) kept l.a l.b walk)
    ]
  ]

  module _ (forest : IsForest links parents) (heads : List ℕ) (are : AreHeads links parents heads) (spanned : AreSpanned links parents heads (length links)) (index : ℕ) (inside : index < length links) where
    -- a link that is no parent link is on a cycle
    pub chord_on_cycle : (IsParentLink parents index → ⊥) → IsOnCycle links index
    chord_on_cycle chord =
        let l : Link = get_or links index (record { a = 0; b = 0 }) in
        let at : slice_get links index ≡ Some l = slice_get-get_or links index _ inside in (
          l,
          at,
          elim (spanned index l inside at) [
            | inl way ↦ absurd (chord way)
            | inr walk ↦ joined_allowed links (IsMarked parents heads) (λ j. j ≢ index)
                (λ j m e. chord (subst (IsParentLink parents) e (marked_is_parent_link links parents heads are.count j m))) l.a l.b walk
          ],
        )

    pub way_on_cycle : (v : ℕ) (u : Parent) → v < length parents → parent_at parents v ≡ Some u → u.link ≡ index → get_or heads v 0 ≢ v → IsOnCycle links index
    way_on_cycle v u v_in parent is moves =
        let cycle = are.cyclic v (omega (arith, are.count)) moves in
        let same : cycle.0 ≡ u = cc (cycle.1, parent) in
        subst (IsOnCycle links) (ap (λ (t : Parent). t.link) same ∙ is) cycle.2

    pub way_off_cycle : (v : ℕ) (u : Parent) → v < length parents → parent_at parents v ≡ Some u → u.link ≡ index → get_or heads v 0 ≡ v → IsOnCycle links index → ⊥
    way_off_cycle v u v_in parent is stays cycle =
        is_bridge links parents forest v heads are v_in u parent stays
        (λ j l at. spanned j l (slice_get_within links j l at) at) (subst (IsOnCycle links) (sym is) cycle)
