-- Lists of what has a name, and members that may be missing.
use Rattle.std.specs.Prelude.{ℕ, nat_le, Bool, true, false, not, ◌&&◌, List, [], ◌∷◌, length, Option, unwrap_or}
use Rattle.std.specs.List.{list_all, list_any}
use Rattle.std.specs.Option.{option_map_or}
use Rattle.un_conds.specs.Names.{same_text}
use Rattle.un_schema.specs.Names.{is_name}

-- no two elements are alike
abbrev pub are_distinct : {A : Type 0} → (A → A → Bool) → List A → Bool
are_distinct alike [] = true
are_distinct alike (x ∷ xs) = not (list_any (alike x) xs) && are_distinct alike xs

-- the count is in range, and the names are valid and distinct
abbrev pub are_named : {A : Type 0} → (A → List ℕ) → ℕ → ℕ → List A → Bool
are_named name least most xs =
    nat_le least (length xs) && nat_le (length xs) most && list_all (λ x. is_name (name x)) xs
    && are_distinct (λ x y. same_text (name x) (name y)) xs

-- the elements of a member, and none where it is missing
abbrev pub items_of : {A : Type 0} → Option (List A) → List A
items_of member = unwrap_or member []

-- the member is there, and its elements pass the test
abbrev pub has : {A : Type 0} → (List A → Bool) → Option (List A) → Bool
has test member = option_map_or test member false
