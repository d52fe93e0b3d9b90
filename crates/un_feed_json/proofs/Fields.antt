-- Lists of a fixed length.
use Rattle.std.proofs.Common.{◌≡◌, ℕ, ◌==◌, List, [], ◌∷◌, length, Some, refl, ap, arith}
use Rattle.serde_json.specs.declared.value.Value.{Value}
use Rattle.serde_json.specs.Data.{Data}
use Rattle.serde_json.specs.View.{items_view}
use Rattle.serde_json.specs.Find.{as_array}
use Rattle.un_feed_json.specs.Forms.{items_len, has_length}

items_len-view : (vs : List Value) → items_len (items_view vs) ≡ length vs
items_len-view [] = refl
items_len-view (v ∷ vs) = omega (arith, items_len-view vs)

-- an array has the length of the list that holds it
pub length_of : (n : ℕ) (d : Data) (vs : List Value) → Some (items_view vs) ≡ as_array d → has_length n d ≡ (length vs == n)
length_of n d vs is = rw (← is) (ap (λ m. m == n) (items_len-view vs))
