-- Lists that are no condition, and how deep conditions go.
use Rattle.std.proofs.Common.{◌≡◌, ◌≢◌, ℕ, zero, suc, ◌<◌, ◌≤◌, List, [], ◌∷◌, length, get_or, None, Some, option_and_then, refl, arith}
use Rattle.std.proofs.Math.Nat.{le-max_left, le-max_right}
use Rattle.serde_json.specs.declared.value.Value.{Value}
use Rattle.serde_json.specs.Data.{Data, null, boolean, number, string, array, object, Items, depth, items_depth}
use Rattle.serde_json.specs.View.{view, items_view}
use Rattle.serde_json.specs.Find.{as_array, as_str}
use Rattle.un_json.specs.Forms.{condition_of, condition_from, of_two}

-- what an array is as a condition, and that no other value is one
pub of_array : (d : Data) (ds : Items) → Some ds ≡ as_array d → condition_of d ≡ condition_from ds
of_array null ds is = cc
of_array (boolean b) ds is = cc
of_array (number n) ds is = cc
of_array (string s) ds is = cc
of_array (object ms) ds is = cc
of_array (array es) ds is = let same : ds ≡ es = cc in rw same refl

pub no_array : (d : Data) → None ≡ as_array d → None ≡ condition_of d
no_array null is = refl
no_array (boolean b) is = refl
no_array (number n) is = refl
no_array (string s) is = refl
no_array (object ms) is = refl
no_array (array es) is = cc

-- a list of another length is no condition
pub no_condition : (vs : List Value) → length vs ≢ 2 → length vs ≢ 3 → None ≡ condition_from (items_view vs)
no_condition [] two three = refl
no_condition (v ∷ []) two three = refl
no_condition (v ∷ w ∷ []) two three = absurd (two refl)
no_condition (v ∷ w ∷ u ∷ []) two three = absurd (three refl)
no_condition (v ∷ w ∷ u ∷ t ∷ rest) two three = refl

-- an array is one deeper than its items, and no item is deeper than all of them
pub array_depth : (d : Data) (ds : Items) → Some ds ≡ as_array d → suc (items_depth ds) ≡ depth d
array_depth null ds is = cc
array_depth (boolean b) ds is = cc
array_depth (number n) ds is = cc
array_depth (string s) ds is = cc
array_depth (object ms) ds is = cc
array_depth (array es) ds is = let same : ds ≡ es = cc in rw same refl

pub item_depth : (vs : List Value) (i : ℕ) (v : Value) → i < length vs → v ≡ get_or vs i v → depth (view v) ≤ items_depth (items_view vs)
item_depth [] i v h is = absurd (omega arith)
item_depth (w ∷ vs) zero v h is = let same : v ≡ w = is in rw same (le-max_left (depth (view w)) (items_depth (items_view vs)))
item_depth (w ∷ vs) (suc i) v h is = omega (arith, item_depth vs i v (omega arith) is, le-max_right (depth (view w)) (items_depth (items_view vs)))

-- what a list of three is as a condition
pub of_three : (vs : List Value) (w d e : Value) → length vs ≡ 3 → w ≡ get_or vs 0 w → d ≡ get_or vs 1 d → e ≡ get_or vs 2 e
    → condition_from (items_view vs) ≡ option_and_then (λ text. of_two text (view d) (view e) (condition_of (view d)) (condition_of (view e))) (as_str (view w))
of_three [] w d e three first second third = absurd (omega arith)
of_three (a ∷ []) w d e three first second third = absurd (omega arith)
of_three (a ∷ b ∷ []) w d e three first second third = absurd (omega arith)
of_three (a ∷ b ∷ c ∷ []) w d e three first second third =
    let is_w : w ≡ a = first in let is_d : d ≡ b = second in let is_e : e ≡ c = third in rw (is_w, is_d, is_e) refl
of_three (a ∷ b ∷ c ∷ f ∷ rest) w d e three first second third = absurd (omega arith)
