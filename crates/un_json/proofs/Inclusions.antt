-- Inclusions, added one after the other, and lists that are no function.
use Rattle.std.proofs.Common.{◌≡◌, ◌≢◌, List, [], ◌∷◌, length, None, Some, refl, sym}
use Rattle.serde_json.specs.declared.value.Value.{Value}
use Rattle.serde_json.specs.Data.{Data}
use Rattle.serde_json.specs.View.{items_view}
use Rattle.serde_json.specs.Find.{as_array}
use Rattle.un_ask.specs.declared.trace.Include.{Include}
use Rattle.un_json.specs.declared.words.Inclusion.{Inclusion}
use Rattle.un_json.specs.Forms.{add_inclusion, included_from, nothing, func_of, func_from}

-- what the words from here on add is what all of them do
pub record IsAdding (include : Include) (rest all : List Inclusion) : Type 0 where
  pub same : included_from include rest ≡ included_from nothing all

pub add_one : (include more : Include) (w : Inclusion) (rest all : List Inclusion) → IsAdding include (w ∷ rest) all → Some more ≡ add_inclusion w include → IsAdding more rest all
add_one include more w rest all h is = record { same = rw (← is) at h.same }

pub add_none : (include : Include) (w : Inclusion) (rest all : List Inclusion) → IsAdding include (w ∷ rest) all → None ≡ add_inclusion w include → None ≡ included_from nothing all
add_none include w rest all h is = rw (← is) at h.same

pub all_added : (include : Include) (all : List Inclusion) → IsAdding include [] all → Some include ≡ included_from nothing all
all_added include all h = h.same

-- an array of another length is no function
pub no_func : (d : Data) (vs : List Value) → Some (items_view vs) ≡ as_array d → length vs ≢ 1 → length vs ≢ 2 → None ≡ func_of d
no_func d vs is one two = rw (← is) (sym (go vs one two))
  where
    go : (ws : List Value) → length ws ≢ 1 → length ws ≢ 2 → func_from (items_view ws) ≡ None
    go [] one two = refl
    go (v ∷ []) one two = absurd (one refl)
    go (v ∷ w ∷ []) one two = absurd (two refl)
    go (v ∷ w ∷ u ∷ rest) one two = refl
