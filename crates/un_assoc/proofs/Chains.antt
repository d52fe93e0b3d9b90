-- A chain of containers, step by step.
use Rattle.std.proofs.Common.{◌≡◌, ℕ, zero, suc, ◌-◌, ◌<◌, Bool, false, ◌==◌, ◌||◌, [], ◌∷◌, Option, Some, None, refl, ◌∙◌, ap, arith}
use Rattle.std.specs.List.{list_any}
use Rattle.std.specs.Option.{option_map_or}
use Rattle.un_assoc.specs.Containing.{chain_of}

-- whether a row is one of the first n of a chain
abbrev pub is_among : ℕ → (ℕ → Option ℕ) → ℕ → ℕ → Bool
is_among n above id sought = list_any (λ c. c == sought) (chain_of n above id)

chain_step : (n : ℕ) (above : ℕ → Option ℕ) (id : ℕ) → 0 < n → chain_of n above id ≡ option_map_or (λ c. c ∷ chain_of (n - 1) above c) (above id) []
chain_step zero above id h = absurd (omega arith)
chain_step (suc n) above id h = let less : n ≡ suc n - 1 = omega arith in ap (λ m. option_map_or (λ c. c ∷ chain_of m above c) (above id) []) less

pub chain_end : (n : ℕ) (above : ℕ → Option ℕ) (id sought : ℕ) → above id ≡ None → is_among n above id sought ≡ false
chain_end zero above id sought e = refl
chain_end (suc n) above id sought e = ap (λ o. list_any (λ c. c == sought) (option_map_or (λ c. c ∷ chain_of n above c) o [])) e

pub chain_on : (n : ℕ) (above : ℕ → Option ℕ) (id sought c : ℕ) → 0 < n → above id ≡ Some c → is_among n above id sought ≡ ((c == sought) || is_among (n - 1) above c sought)
chain_on n above id sought c h e =
    ap (list_any (λ c. c == sought)) (chain_step n above id h)
    ∙ ap (λ o. list_any (λ c. c == sought) (option_map_or (λ c. c ∷ chain_of (n - 1) above c) o [])) e
