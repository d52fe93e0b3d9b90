-- Lists that are no label.
use Rattle.std.proofs.Common.{◌≡◌, ◌≢◌, List, [], ◌∷◌, length, None, Some, refl, sym}
use Rattle.serde_json.specs.declared.value.Value.{Value}
use Rattle.serde_json.specs.Data.{Data}
use Rattle.serde_json.specs.View.{items_view}
use Rattle.serde_json.specs.Find.{as_array}
use Rattle.un_json.specs.Forms.{label_of, label_from}

-- an array of another length is no label
pub not_label : (d : Data) (vs : List Value) → Some (items_view vs) ≡ as_array d → length vs ≢ 3 → None ≡ label_of d
not_label d vs is other = rw (← is) (sym (go vs other))
  where
    go : (ws : List Value) → length ws ≢ 3 → label_from (items_view ws) ≡ None
    go [] other = refl
    go (v ∷ []) other = refl
    go (v ∷ w ∷ []) other = refl
    go (v ∷ w ∷ u ∷ []) other = absurd (other refl)
    go (v ∷ w ∷ u ∷ t ∷ rest) other = refl
