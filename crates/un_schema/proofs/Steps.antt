-- One more element of a list at a step of a loop.
use Rattle.std.proofs.Common.{◌≡◌, ℕ, ◌+◌, ◌*◌, ◌<◌, Bool, true, if◌then◌else◌, List, [], ◌∷◌, ◌++◌, length, take, get_or, Option, Some, refl, sym, ap, ◌∙◌}
use Rattle.std.specs.List.{filter_map, list_all, list_any}
use Rattle.std.proofs.lemmas.List.{take_more}
use Rattle.std.proofs.lemmas.List.Elements.{filter_map-append}
use Rattle.std.proofs.lemmas.List.Folds.{list_all_more}
use Rattle.un_conds.specs.Names.{same_text}
use Rattle.un_schema.specs.Raw.{cats_word}

pub filter_map_more : {X Y : Type 0} (h : X → Option Y) (xs : List X) (i : ℕ) (d : X) (y : Y) → i < length xs → h (get_or xs i d) ≡ Some y
    → filter_map h (take (i + 1) xs) ≡ filter_map h (take i xs) ++ y ∷ []
filter_map_more h xs i d y within gives =
    rw (take_more xs i d within, filter_map-append h (take i xs) (get_or xs i d ∷ []), gives) refl

pub kept_more : {X Y : Type 0} (h : X → Option Y) (xs : List X) (i : ℕ) (x : X) (y : Y) (kept : List Y) → i < length xs → x ≡ get_or xs i x → h x ≡ Some y
    → kept ≡ filter_map h (take i xs) → kept ++ y ∷ [] ≡ filter_map h (take (i + 1) xs)
kept_more {Y = Y} h xs i x y kept within is gives same =
    ap (λ (l : List Y). l ++ y ∷ []) same ∙ sym (filter_map_more h xs i x y within (ap h (sym is) ∙ gives))

pub good_more : {X : Type 0} (p : X → Bool) (xs : List X) (i : ℕ) (x : X) → i < length xs → x ≡ get_or xs i x → p x ≡ true
    → list_all p (take i xs) ≡ true → list_all p (take (i + 1) xs) ≡ true
good_more p xs i x within is good all =
    let here : p (get_or xs i x) ≡ true = ap p (sym is) ∙ good in
    rw (list_all_more p xs i x within, all, here) refl

-- the word of a category and those after it
pub cats_word_more : (category : List ℕ) (categories names : List (List ℕ)) (all : List (List ℕ)) (bit word : ℕ) → all ≡ category ∷ categories
    → bit ≡ (if list_any (λ name. same_text category name) names then 1 else 0) → word ≡ cats_word categories names → bit + 2 * word ≡ cats_word all names
cats_word_more category categories names all bit word split is_bit is_word = rw (split, is_bit, is_word) refl
