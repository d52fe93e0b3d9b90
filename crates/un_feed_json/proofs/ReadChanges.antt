-- Changes, as code reads them one after the other.
use Rattle.std.proofs.Common.{◌≡◌, List, [], ◌∷◌, ◌++◌, map, Option, None, Some, option_and_then, refl, ap, sym, ◌∙◌, append_assoc, append-nil}
use Rattle.std.proofs.lemmas.List.{map-append}
use Rattle.std.specs.Option.{option_map}
use Rattle.serde_json.specs.declared.value.Value.{Value}
use Rattle.serde_json.specs.Data.{Data}
use Rattle.serde_json.specs.View.{view, items_view}
use Rattle.un_json.specs.Forms.{each_item}
use Rattle.un_feed.specs.declared.changes.Change.{Change}
use Rattle.un_feed.specs.Differences.{Difference, change_shown}

abbrev pub behind : List Change → Option (List Difference) → Option (List Difference)
behind prefix rest = option_map (λ xs. map change_shown prefix ++ xs) rest

-- what the values from here on are, behind what those before are, is what all are
pub record HasRead (f : Data → Option Difference) (prefix : List Change) (rest all : List Value) : Type 0 where
  pub same : behind prefix (each_item f (items_view rest)) ≡ each_item f (items_view all)

-- no value is read yet
pub read_first : (f : Data → Option Difference) (all : List Value) → HasRead f [] all all
read_first f all = record { same = go (each_item f (items_view all)) }
  where
    go : (r : Option (List Difference)) → behind [] r ≡ r
    go None = refl
    go (Some xs) = refl

-- one more value is read
pub read_on : (f : Data → Option Difference) (prefix : List Change) (v : Value) (x : Change) (rest all : List Value) → HasRead f prefix (v ∷ rest) all → Some (change_shown x) ≡ f (view v) → HasRead f (prefix ++ x ∷ []) rest all
read_on f prefix v x rest all h is = record {
  same = regroup (each_item f (items_view rest))
      ∙ (ap (λ p. behind prefix (option_and_then (λ d. option_map (λ ds. d ∷ ds) (each_item f (items_view rest))) p)) is ∙ h.same);
}
  where
    regroup : (r : Option (List Difference)) → behind (prefix ++ x ∷ []) r ≡ behind prefix (option_map (λ xs. change_shown x ∷ xs) r)
    regroup None = refl
    regroup (Some xs) = ap Some (ap (λ l. l ++ xs) (map-append change_shown prefix (x ∷ [])) ∙ append_assoc (map change_shown prefix) (change_shown x ∷ []) xs)

-- one value is nothing, so all are nothing
pub read_none : (f : Data → Option Difference) (prefix : List Change) (v : Value) (rest all : List Value) → HasRead f prefix (v ∷ rest) all → None ≡ f (view v) → None ≡ each_item f (items_view all)
read_none f prefix v rest all h is = ap (λ p. behind prefix (option_and_then (λ d. option_map (λ ds. d ∷ ds) (each_item f (items_view rest))) p)) is ∙ h.same

-- all values are read
pub read_all : (f : Data → Option Difference) (prefix : List Change) (all : List Value) → HasRead f prefix [] all → Some (map change_shown prefix) ≡ each_item f (items_view all)
read_all f prefix all h = sym (ap Some (append-nil (map change_shown prefix))) ∙ h.same
