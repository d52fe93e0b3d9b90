use Rattle.std.proofs.Common.{◌≡◌, ℕ, zero, suc, List, [], ◌∷◌, ◌++◌, length, Option, Some, None, sym, ap, subst, ◌∙◌, arith}
use Rattle.std.proofs.lemmas.List.{length_push}
use Rattle.un_defs.proofs.LinkCases.{some_same}
use Rattle.un_diagram.specs.Colours.{HasColour}
use Rattle.un_diagram.proofs.colours.no_colours.Goals as goal

still_none : (colours : List (Option ℕ)) → ((i f : ℕ) → HasColour colours i f → ⊥) → (i f : ℕ) → HasColour (colours ++ None ∷ []) i f → ⊥
still_none [] none zero f has = (let clash : None ≡ Some f = some_same None (Some f) has in cc)
still_none [] none (suc i) f has = absurd (cc)
still_none (o ∷ rest) none zero f has = none zero f has
still_none (o ∷ rest) none (suc i) f has = still_none rest (λ k g h. none (suc k) g h) i f has

pub loop-place-preserved : goal.loop-place-preserved
loop-place-preserved c =
    let before : List (Option ℕ) = c.loop-place.colours.items in
    let items = c.in_ok-push.ensures.items in
    record {
      count = ap length items ∙ length_push before None ∙ (let e = c.loop-place.invariant.count in omega arith);
      none = subst (λ (l : List (Option ℕ)). (i f : ℕ) → HasColour l i f → ⊥) (sym items) (still_none before c.loop-place.invariant.none);
    }
