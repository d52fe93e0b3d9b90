-- The ports of a row by their numbers.
use Rattle.std.proofs.Common.{◌≡◌, ℕ, zero, suc, ◌+◌, ◌-◌, ◌<◌, ◌≤◌, ◌==◌, ◌&&◌, nat_le, nat_lt, false, [], ◌∷◌, ◌++◌, filter_map, option_to_list, Option, Some, None, refl, sym, ap, ◌∙◌, arith}
use Rattle.std.specs.List.{list_any, range_with_len}
use Rattle.std.proofs.lemmas.List.Elements.{filter_map-append}
use Rattle.un_schema.specs.declared.kind.Class.{Class}
use Rattle.un_schema.specs.declared.kind.Class.TheVariants.{Device, Junction, Line, Assembly, Structure}
use Rattle.un_defs.specs.Ports.{numbers_by_class}
use Rattle.un_defs.specs.Ports.{first_number}

range_push : (a n : ℕ) → range_with_len a (suc n) ≡ range_with_len a n ++ (a + n) ∷ []
range_push a zero = let e : a ≡ a + 0 = omega arith in ap (λ m. m ∷ []) e
range_push a (suc n) = let e : a + 1 + n ≡ a + suc n = omega arith in ap (λ l. a ∷ l) (range_push (a + 1) n ∙ ap (λ m. range_with_len (a + 1) n ++ m ∷ []) e)

module _ {B : Type 0} (f : ℕ → Option B) where
  one : (k : ℕ) → filter_map f (k ∷ []) ≡ option_to_list (f k)
  one k = go (f k)
    where
      go : (o : Option B) → filter_map (λ x. o) (k ∷ []) ≡ option_to_list o
      go None = refl
      go (Some x) = refl

  -- what one number more gives
  pub one_more : (a n : ℕ) → filter_map f (range_with_len a n) ++ option_to_list (f (a + n)) ≡ filter_map f (range_with_len a (n + 1))
  one_more a n =
      let e : suc n ≡ n + 1 = omega arith in
      sym (ap (λ m. filter_map f (range_with_len a m)) (sym e)
      ∙ ap (filter_map f) (range_push a n)
      ∙ filter_map-append f (range_with_len a n) ((a + n) ∷ [])
      ∙ ap (λ l. filter_map f (range_with_len a n) ++ l) (one (a + n)))

-- ---- a number of a range

stands : (a len n : ℕ) → list_any (λ k. k == n) (range_with_len a len) ≡ (nat_le a n && nat_lt n (a + len))
stands a zero n = grind arith
stands a (suc len) n = grind (arith, stands (a + 1) len n)

pub stands_from : (a len n : ℕ) → a ≤ n → nat_lt (n - a) len ≡ list_any (λ k. k == n) (range_with_len a len)
stands_from a len n above = let is = stands a len n in grind (arith, is, above)

stands_below : (a len n : ℕ) → n < a → false ≡ list_any (λ k. k == n) (range_with_len a len)
stands_below a len n below = let is = stands a len n in grind (arith, is, below)

-- no port has a number below the first
pub none_below : (class : Class) (terminals points n : ℕ) → n < first_number class → false ≡ list_any (λ k. k == n) (numbers_by_class class terminals points)
none_below Device terminals points n below = stands_below 1 terminals n below
none_below Junction terminals points n below = stands_below 1 1 n below
none_below Line terminals points n below = absurd (omega (arith, below))
none_below Assembly terminals points n below = absurd (omega (arith, below))
none_below Structure terminals points n below = absurd (omega (arith, below))
