-- The sum of a list, from the left, and what is read of the elements of a list, with one more.
use Rattle.std.proofs.Common.{◌≡◌, ℕ, ◌+◌, ◌<◌, ℤ, pos, ◌+ℤ◌, List, [], ◌∷◌, ◌++◌, length, take, get_or, map, filter_map, fold, Option, sym, ap, ◌∙◌, add-one}
use Rattle.std.specs.List.{cons_option}
use Rattle.std.proofs.Math.Seq.{take-suc}
use Rattle.std.proofs.lemmas.List.Elements.{filter_map-append}
use Rattle.un_defs.proofs.ListLemmas.{map-append}
use Rattle.std.proofs.Math.IntN.{+ℤ_assoc, +ℤ_idl, +ℤ_idr}
use Rattle.un_defs.specs.Result.{int_sum}

from_left : (a : ℤ) (xs : List ℤ) → fold ◌+ℤ◌ a xs ≡ a +ℤ int_sum xs
from_left a [] = sym (+ℤ_idr a)
from_left a (x ∷ xs) = from_left (a +ℤ x) xs ∙ +ℤ_assoc a x (int_sum xs)

pub sum_is : (xs : List ℤ) → fold ◌+ℤ◌ (pos 0) xs ≡ int_sum xs
sum_is xs = from_left (pos 0) xs ∙ +ℤ_idl (int_sum xs)

pub mapped_more : {A B C : Type 0} (d : A → B) (f : B → Option C) (xs : List A) (k : ℕ) (x : A) → k < length xs → x ≡ get_or xs k x
    → filter_map f (map d (take (k + 1) xs)) ≡ filter_map f (map d (take k xs)) ++ cons_option (f (d x)) []
mapped_more d f xs k x l at =
    ap (λ j. filter_map f (map d (take j xs))) (add-one k) ∙ ap (λ l. filter_map f (map d l)) (take-suc xs k x l)
    ∙ ap (filter_map f) (map-append d (take k xs) (get_or xs k x ∷ [])) ∙ filter_map-append f (map d (take k xs)) (d (get_or xs k x) ∷ [])
    ∙ ap (λ y. filter_map f (map d (take k xs)) ++ cons_option (f (d y)) []) (sym at)
