-- Where the parent link of a place is unmarked, no other link leads out of what is under it.
use Rattle.std.proofs.Common.{◌≡◌, ◌≢◌, ℕ, zero, suc, ◌<◌, ◌⊎◌, inl, inr, Bool, true, false, ◌||◌, eqb, List, length, Option, get_or, None, Some, refl, sym, ap, subst, ◌∙◌, arith, rules}
use Rattle.std.specs.Prelude.{slice_get}
use Rattle.std.specs.Option.{option_map_or}
use Rattle.un_loops.specs.declared.link.Link.{Link}
use Rattle.un_loops.specs.declared.graph.Parent.{Parent}
use Rattle.un_loops.specs.Graph.{Joins, IsJoinedBy, IsOnCycle}
use Rattle.un_loops.specs.Forest.{parent_at, IsForest, IsParentLink}
use Rattle.un_loops.specs.Heads.{IsMarked, AreHeads}
use Rattle.un_loops.proofs.Walks.{joined_keeps}
use Rattle.un_loops.proofs.Roots.{option_cases, ends_same, one_child}

-- whether the way from w to the root, of fewer than so many steps, meets v
abbrev pub is_under : List (Option Parent) → ℕ → ℕ → ℕ → Bool
is_under parents v zero w = false
is_under parents v (suc k) w = eqb w v || option_map_or (λ u. is_under parents v k u.place) (parent_at parents w) false

eqb_same : (v : ℕ) → eqb v v ≡ true
eqb_same v = search rules

eqb_other : (w v : ℕ) → w ≢ v → eqb w v ≡ false
eqb_other w v h = search rules

true_or : (b c : Bool) → b ≡ true → (b || c) ≡ true
true_or true c e = refl
true_or false c e = cc

false_or : (b c : Bool) → b ≡ false → (b || c) ≡ c
false_or true c e = cc
false_or false c e = refl

module _ (links : List Link) (parents : List (Option Parent)) (forest : IsForest links parents) (v : ℕ) where
  step_none : (k w : ℕ) → parent_at parents w ≡ None → is_under parents v (suc k) w ≡ (eqb w v || false)
  step_none k w none = ap (λ o. eqb w v || option_map_or (λ u. is_under parents v k u.place) o false) none

  step_some : (k w : ℕ) (u : Parent) → parent_at parents w ≡ Some u → is_under parents v (suc k) w ≡ (eqb w v || is_under parents v k u.place)
  step_some k w u some = ap (λ o. eqb w v || option_map_or (λ u. is_under parents v k u.place) o false) some

  -- more steps than the place's number make no difference
  stable : (k m w : ℕ) → w < k → w < m → w < length parents → is_under parents v k w ≡ is_under parents v m w
  stable zero m w few more inside = absurd (omega arith)
  stable (suc k) zero w few more inside = absurd (omega arith)
  stable (suc k) (suc m) w few more inside = elim (option_cases (parent_at parents w)) [
    | inl none ↦ step_none k w none ∙ sym (step_none m w none)
    | inr some ↦
        let u : Parent = some.0 in
        let lower : u.place < w = (forest.parent w u inside some.1).0 in
        step_some k w u some.1 ∙ ap (λ b. eqb w v || b) (stable k m u.place (omega arith) (omega arith) (omega arith)) ∙ sym (step_some m w u some.1)
  ]

  not_under : (k w : ℕ) → w < v → w < length parents → is_under parents v k w ≡ false
  not_under zero w less inside = refl
  not_under (suc k) w less inside =
      let apart : eqb w v ≡ false = eqb_other w v (λ e. omega arith) in
      elim (option_cases (parent_at parents w)) [
        | inl none ↦ step_none k w none ∙ false_or (eqb w v) false apart
        | inr some ↦
            let u : Parent = some.0 in
            let lower : u.place < w = (forest.parent w u inside some.1).0 in
            step_some k w u some.1 ∙ false_or (eqb w v) (is_under parents v k u.place) apart ∙ not_under k u.place (omega arith) (omega arith)
      ]

  under : ℕ → Bool
  under w = is_under parents v (length parents) w

  under_itself : v < length parents → under v ≡ true
  unfolding under
  under_itself inside = stable (length parents) (suc v) v inside (omega arith) inside ∙ true_or (eqb v v) _ (eqb_same v)

  -- each parent link but that of v has both its ends under v, or neither
  under_way : (w : ℕ) (u : Parent) → w < length parents → w ≢ v → parent_at parents w ≡ Some u → under w ≡ under u.place
  unfolding under
  under_way w u inside other parent =
      let lower : u.place < w = (forest.parent w u inside parent).0 in
      stable (length parents) (suc w) w inside (omega arith) inside ∙ step_some w w u parent ∙ false_or (eqb w v) (is_under parents v w u.place) (eqb_other w v other)
      ∙ stable w (length parents) u.place lower (omega arith) (omega arith)

  module _ (heads : List ℕ) (are : AreHeads links parents heads) (inside : v < length parents) (s : Parent) (parent : parent_at parents v ≡ Some s) (stays : get_or heads v 0 ≡ v)
      (spanned : (j : ℕ) (l : Link) → slice_get links j ≡ Some l → IsParentLink parents j ⊎ IsJoinedBy links (IsMarked parents heads) l.a l.b) where
    other_way : (j : ℕ) (a b : ℕ) → j ≢ s.link → IsParentLink parents j → Joins links j a b → under a ≡ under b
    other_way j a b differs (w, t, w_in, w_up, is) joins =
        let other : w ≢ v = λ e.
        let both : parent_at parents v ≡ Some t = subst (λ x. parent_at parents x ≡ Some t) e w_up in
        let same : s ≡ t = cc in
        differs (sym is ∙ ap (λ u. u.link) (sym same)) in
        let keeps : under w ≡ under t.place = under_way w t w_in other w_up in
        elim (ends_same links j a b w t.place joins (subst (λ i. Joins links i w t.place) is (forest.parent w t w_in w_up).1)) [
          | inl e ↦ ap under e.0 ∙ keeps ∙ sym (ap under e.1)
          | inr e ↦ ap under e.0 ∙ sym keeps ∙ sym (ap under e.1)
        ]

    marked_way : (j a b : ℕ) → IsMarked parents heads j → Joins links j a b → under a ≡ under b
    marked_way j a b (w, t, w_in, w_up, is, moves) joins =
        other_way j a b (λ e.
        let same : w ≡ v = one_child links parents forest w v t s (omega (arith, are.count)) inside w_up parent (is ∙ e) in
        moves (subst (λ x. get_or heads x 0 ≡ x) (sym same) stays))
        (w, t, omega (arith, are.count), w_up, is) joins

    any_way : (j a b : ℕ) → j ≢ s.link → Joins links j a b → under a ≡ under b
    any_way j a b differs (l, at, ends) = elim (spanned j l at) [
      | inl way ↦ other_way j a b differs way (l, at, ends)
      | inr walk ↦
          let same : under l.a ≡ under l.b = joined_keeps links (IsMarked parents heads) under marked_way l.a l.b walk in
          elim ends [
            | inl e ↦ ap under (sym e.0) ∙ same ∙ ap under e.1
            | inr e ↦ ap under (sym e.1) ∙ sym same ∙ ap under e.0
          ]
    ]

    outside_place : under s.place ≡ false
    unfolding under
    outside_place =
        let lower : s.place < v = (forest.parent v s inside parent).0 in
        not_under (length parents) s.place lower (omega arith)

    pub is_bridge : IsOnCycle links s.link → ⊥
    is_bridge (l, at, walk) =
        let way = forest.parent v s inside parent in
        let kept : under l.a ≡ under l.b = joined_keeps links (λ j. j ≢ s.link) under any_way l.a l.b walk in
        let here : under v ≡ true = under_itself inside in
        let there : under s.place ≡ false = outside_place in
        elim (ends_same links s.link l.a l.b v s.place (l, at, inl (refl, refl)) way.1) [
          | inl e ↦ let both : under v ≡ under s.place = sym (ap under e.0) ∙ kept ∙ ap under e.1 in cc
          | inr e ↦ let both : under s.place ≡ under v = sym (ap under e.0) ∙ kept ∙ ap under e.1 in cc
        ]
