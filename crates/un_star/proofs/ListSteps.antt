-- Loops that add to a list what each element gives.
use Rattle.std.proofs.Common.{◌≡◌, ℕ, zero, suc, ◌+◌, ◌<◌, List, [], ◌∷◌, ◌++◌, length, take, get_or, map, flat_map, sym, ap, ◌∙◌, append_assoc, add-zero, add-one, arith}
use Rattle.std.proofs.lemmas.List.{take_more, append-nil}
use Rattle.std.specs.List.{range_with_len}
use Rattle.un_defs.proofs.ListLemmas.{map-append, flat_map-append}

module _ {A B : Type 0} where
  pub flat_map-push : (g : A → List B) (xs : List A) (x : A) → flat_map g (xs ++ x ∷ []) ≡ flat_map g xs ++ g x
  flat_map-push g xs x = flat_map-append g xs (x ∷ []) ∙ ap (λ l. flat_map g xs ++ l) (append-nil (g x))

  -- one more element of a list
  pub flat_map-step : (g : A → List B) (xs : List A) (i : ℕ) (x : A) (start so_far next : List B) → i < length xs → x ≡ get_or xs i x
      → so_far ≡ start ++ flat_map g (take i xs) → next ≡ so_far ++ g x → next ≡ start ++ flat_map g (take (i + 1) xs)
  flat_map-step g xs i x start so_far next below is e more =
      more ∙ ap (λ l. l ++ g x) e ∙ append_assoc start (flat_map g (take i xs)) (g x)
      ∙ ap (λ l. start ++ l) (sym (flat_map-push g (take i xs) x))
      ∙ ap (λ l. start ++ flat_map g l) (ap (λ y. take i xs ++ y ∷ []) is ∙ sym (take_more xs i x below))

  -- the same, where each element gives one
  pub map-step : (g : A → B) (xs : List A) (i : ℕ) (x : A) (y : B) (so_far next : List B) → i < length xs → x ≡ get_or xs i x
      → so_far ≡ map g (take i xs) → next ≡ so_far ++ y ∷ [] → y ≡ g x → next ≡ map g (take (i + 1) xs)
  map-step g xs i x y so_far next below is e more made =
      more ∙ (λ j. e j ++ made j ∷ [])
      ∙ sym (map-append g (take i xs) (x ∷ []))
      ∙ ap (map g) (ap (λ y. take i xs ++ y ∷ []) is ∙ sym (take_more xs i x below))

range_more : (a n : ℕ) → range_with_len a (suc n) ≡ range_with_len a n ++ (a + n) ∷ []
range_more a zero = ap (λ m. m ∷ []) (sym (add-zero a))
range_more a (suc n) = ap (λ l. a ∷ l) (range_more (a + 1) n ∙ ap (λ m. range_with_len (a + 1) n ++ m ∷ []) (omega arith))

-- one more number of a range from 1
pub range-step : {B : Type 0} (g : ℕ → List B) (n : ℕ) (start so_far next : List B)
    → so_far ≡ start ++ flat_map g (range_with_len 1 n) → next ≡ so_far ++ g (n + 1) → next ≡ start ++ flat_map g (range_with_len 1 (n + 1))
range-step g n start so_far next e more =
    more ∙ ap (λ l. l ++ g (n + 1)) e ∙ append_assoc start (flat_map g (range_with_len 1 n)) (g (n + 1))
    ∙ ap (λ l. start ++ l) (sym (flat_map-push g (range_with_len 1 n) (n + 1)))
    ∙ ap (λ l. start ++ flat_map g l) (ap (λ m. range_with_len 1 n ++ m ∷ []) (omega arith) ∙ sym (range_more 1 n) ∙ ap (range_with_len 1) (sym (add-one n)))
