-- Lists of names, in which a name goes by its place.
use Rattle.std.specs.Prelude.{ℕ, ◌≤◌, ◌≢◌, Bool, ◌==◌, List, length, AllPairs, Option, position}
use Rattle.std.specs.Cmp.Lexicographic.{pointwise}

-- two texts are one
abbrev pub same_text : List ℕ → List ℕ → Bool
same_text = pointwise ◌==◌

-- the place of a name in a list of names
abbrev pub place_of : List ℕ → List (List ℕ) → Option ℕ
place_of name names = position (same_text name) names

-- at most 32 names, none of which stands twice
pub record IsNameList (names : List (List ℕ)) : Type 0 where
  pub few : length names ≤ 32
  pub distinct : AllPairs (λ x y. x ≢ y) names
