-- The inner nodes and the border by one walk, which goes on from nodes that do not isolate.
use Rattle.std.proofs.Common.{not, ◌&&◌, Bool, ◌⊎◌, inl, inr, sym, ap, ◌∙◌, true≢false}
use Rattle.un_defs.specs.declared.port.Node.{Node}
use Rattle.un_defs.specs.Reach.{Walk}
use Rattle.un_defs.proofs.Members.{among-filter, among_from-filter, contains_from_among}
use Rattle.un_defs.proofs.LinkCases.{both_true, true_both}
use Rattle.un_defs.proofs.Walking.{walk_from_start, walk_on, reached_have}
use Rattle.un_isolate.specs.Isolation.{Isolation, is_isolating, goes, goes_inside, inner_starts, IsInner, IsBorder, StartsAreClear}
use Rattle.un_isolate.proofs.Separation.{inside_parts, inside_step, inner_is_clear, by_test, false_not}

-- a step from a node that does not isolate
abbrev pub goes_out : Isolation → Node → Node → Bool
goes_out I n m = not (is_isolating I n) && goes I n m

module _ (I : Isolation) where
  pub zone_from : StartsAreClear I → (n : Node) → Walk (goes_out I) I.starts n → IsInner I n ⊎ IsBorder I n
  zone_from clear = reached_have (goes_out I) I.starts (λ n. IsInner I n ⊎ IsBorder I n)
      (λ n h. inl (walk_from_start (goes_inside I) (inner_starts I) n (among-filter (λ n. not (is_isolating I n)) I.starts n h (ap not (clear n (contains_from_among I.starts n h))))))
      (λ n m place e.
      let parts = both_true (not (is_isolating I n)) (goes I n m) e in
      let free = false_not (is_isolating I n) parts.0 in
      elim place [
        | inl w ↦ by_test (is_isolating I m)
            (λ t. inr (record { from = n; inner = w; linked = parts.1; isolating = t }))
            (λ f. inl (walk_on (goes_inside I) (inner_starts I) n m w (inside_step I n m free f parts.1)))
        | inr b ↦ absurd (true≢false (sym b.isolating ∙ free))
      ])

  inner_walk : (n : Node) → IsInner I n → Walk (goes_out I) I.starts n
  inner_walk = reached_have (goes_inside I) (inner_starts I) (Walk (goes_out I) I.starts)
      (λ k h. walk_from_start (goes_out I) I.starts k (among_from-filter (λ n. not (is_isolating I n)) I.starts k h).0)
      (λ k m w e.
      let parts = inside_parts I k m e in
      walk_on (goes_out I) I.starts k m w (true_both (not (is_isolating I k)) (goes I k m) (ap not parts.0) parts.2))

  pub zone_walk : (n : Node) → IsInner I n ⊎ IsBorder I n → Walk (goes_out I) I.starts n
  zone_walk n place = elim place [
    | inl w ↦ inner_walk n w
    | inr b ↦ walk_on (goes_out I) I.starts b.from n (inner_walk b.from b.inner)
        (true_both (not (is_isolating I b.from)) (goes I b.from n) (ap not (inner_is_clear I b.from b.inner).clear) b.linked)
  ]
