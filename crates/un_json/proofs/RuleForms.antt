-- Lists that are no rule.
use Rattle.std.proofs.Common.{◌≡◌, ◌≢◌, List, [], ◌∷◌, length, None, Some, refl, sym}
use Rattle.serde_json.specs.declared.value.Value.{Value}
use Rattle.serde_json.specs.Data.{Data}
use Rattle.serde_json.specs.View.{items_view}
use Rattle.serde_json.specs.Find.{as_array}
use Rattle.un_json.specs.Forms.{rule_of, rule_from}

-- an array of another length is no rule
pub no_rule : (d : Data) (vs : List Value) → Some (items_view vs) ≡ as_array d → length vs ≢ 3 → length vs ≢ 4 → length vs ≢ 5 → length vs ≢ 6 → None ≡ rule_of d
no_rule d vs is three four five six = rw (← is) (sym (go vs three four five six))
  where
    go : (ws : List Value) → length ws ≢ 3 → length ws ≢ 4 → length ws ≢ 5 → length ws ≢ 6 → rule_from (items_view ws) ≡ None
    go [] a b c d = refl
    go (v ∷ []) a b c d = refl
    go (v ∷ w ∷ []) a b c d = refl
    go (v ∷ w ∷ u ∷ []) a b c d = absurd (a refl)
    go (v ∷ w ∷ u ∷ t ∷ []) a b c d = absurd (b refl)
    go (v ∷ w ∷ u ∷ t ∷ s ∷ []) a b c d = absurd (c refl)
    go (v ∷ w ∷ u ∷ t ∷ s ∷ r ∷ []) a b c d = absurd (d refl)
    go (v ∷ w ∷ u ∷ t ∷ s ∷ r ∷ q ∷ rest) a b c d = refl
