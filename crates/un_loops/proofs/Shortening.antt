-- Heads may be skipped one after another.
use Rattle.std.proofs.Common.{◌≡◌, ◌≢◌, ℕ, zero, suc, ◌+◌, ◌<◌, ◌≤◌, inl, inr, List, length, get_or, set, sym, ap, subst, ◌∙◌, arith}
use Rattle.std.proofs.lemmas.List.{length-set, get_or-set_same, get_or-set_other}
use Rattle.std.proofs.lemmas.Bool.{cases_eq}
use Rattle.un_loops.specs.Heads.{AreHeadsBelow, nth_head, AreShortened}

pub nth_head-add : (m k : ℕ) (heads : List ℕ) (v : ℕ) → nth_head (m + k) heads v ≡ nth_head k heads (nth_head m heads v)
nth_head-add zero k heads v = let none : 0 + k ≡ k = omega arith in ap (λ n. nth_head n heads v) none
nth_head-add (suc m) k heads v =
    let step : suc m + k ≡ suc (m + k) = omega arith in
    ap (λ n. nth_head n heads v) step ∙ nth_head-add m k heads (get_or heads v 0)

pub nth_head_below : (heads : List ℕ) → AreHeadsBelow heads → (k v : ℕ) → v < length heads → nth_head k heads v ≤ v
nth_head_below heads below zero v inside = omega arith
nth_head_below heads below (suc k) v inside =
    let one : get_or heads v 0 ≤ v = below v inside in
    omega (arith, nth_head_below heads below k (get_or heads v 0) (omega arith))

-- a place that is not its own head gets the head of its head
module _ (first heads : List ℕ) (p : ℕ) (below : AreHeadsBelow heads) (so_far : AreShortened first heads) (inside : p < length heads) (moves : get_or heads p 0 ≢ p) where
  above : ℕ
  above = get_or heads (get_or heads p 0) 0

  lower : above < p
  unfolding above
  lower =
      let one : get_or heads p 0 ≤ p = below p inside in
      let two : get_or heads (get_or heads p 0) 0 ≤ get_or heads p 0 = below (get_or heads p 0) (omega arith) in
      omega arith

  at_place : get_or (set heads p above) p 0 ≡ above
  at_place = get_or-set_same heads p above 0 inside

  at_other : (v : ℕ) → v ≢ p → get_or (set heads p above) v 0 ≡ get_or heads v 0
  at_other v other = get_or-set_other heads p v above 0 other

  pub above_along : (k : ℕ) × (get_or heads (get_or heads p 0) 0 ≡ nth_head k first p)
  above_along =
      let inside' : p < length first = omega (arith, so_far.count) in
      let one = so_far.along p inside' in
      let lower' : get_or heads p 0 ≤ p = below p inside in
      let two = so_far.along (get_or heads p 0) (omega (arith, so_far.count)) in
      (one.0 + two.0, two.1 ∙ ap (nth_head two.0 first) one.1 ∙ sym (nth_head-add one.0 two.0 first p))

  pub shortened_more : AreShortened first (set heads p (get_or heads (get_or heads p 0) 0))
  unfolding above
  shortened_more = record {
    count = length-set heads p above ∙ so_far.count;
    along = λ v h. elim (cases_eq v p) [
      | inl e ↦ let k = above_along in (k.0, ap (λ x. get_or (set heads p above) x 0) e ∙ at_place ∙ k.1 ∙ ap (nth_head k.0 first) (sym e))
      | inr ne ↦ let k = so_far.along v h in (k.0, at_other v ne ∙ k.1)
    ];
    stays = λ v h e. elim (cases_eq v p) [
      | inl same ↦ absurd (moves (subst (λ x. get_or heads x 0 ≡ x) same (so_far.stays v h e)))
      | inr ne ↦ at_other v ne ∙ so_far.stays v h e
    ];
    moves = λ v h e. elim (cases_eq v p) [
      | inl same ↦ λ is. let here : above ≡ v = sym at_place ∙ ap (λ x. get_or (set heads p above) x 0) (sym same) ∙ is in let l : above < p = lower in absurd (omega arith)
      | inr ne ↦ λ is. so_far.moves v h e (sym (at_other v ne) ∙ is)
    ];
  }

  pub below_more : AreHeadsBelow (set heads p (get_or heads (get_or heads p 0) 0))
  unfolding above
  below_more = λ v h. elim (cases_eq v p) [
    | inl same ↦ let is : get_or (set heads p above) v 0 ≡ above = ap (λ x. get_or (set heads p above) x 0) same ∙ at_place in let l : above < p = lower in omega arith
    | inr ne ↦ let is : get_or (set heads p above) v 0 ≡ get_or heads v 0 = at_other v ne in let b : get_or heads v 0 ≤ v = below v (omega (arith, length-set heads p above)) in omega arith
  ]
