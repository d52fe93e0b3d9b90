-- The numbers of areas, and which areas cover a point.
use Rattle.std.proofs.Common.{◌≡◌, ◌≢◌, ℕ, ◌+◌, ◌<◌, ◌||◌, Bool, true, false, not, cond, List, [], ◌∷◌, ◌++◌, length, filter, refl, sym, ap, ◌∙◌, subst, All, arith}
use Rattle.std.specs.List.{list_any, enumerate_from}
use Rattle.std.proofs.lemmas.List.{append-nil, append_assoc}
use Rattle.std.proofs.lemmas.List.Elements.{All-weaker, All-push}
use Rattle.un_geom.specs.Rectangle.{Rectangle}
use Rattle.un_defs.specs.Ground.{AreNumbered}
use Rattle.un_defs.proofs.Unique.{from_all}
use Rattle.un_defs.proofs.Locality.{pairs_push}

abbrev Areas : Type 0
Areas = List (ℕ × Rectangle)

-- the numbers of the areas are under the next one
abbrev pub AreUnder : ℕ → Areas → Type 0
AreUnder n = All (λ area. area.0 < n)

-- areas with the next numbers at the end
pub numbered_more : (areas : Areas) (rects : List Rectangle) (n : ℕ) → AreNumbered areas → AreUnder n areas → AreNumbered (areas ++ enumerate_from n rects)
numbered_more areas [] n numbered under = subst AreNumbered (sym (append-nil areas)) numbered
numbered_more areas (r ∷ rs) n numbered under =
    subst AreNumbered (append_assoc areas ((n, r) ∷ []) (enumerate_from (n + 1) rs))
    (numbered_more (areas ++ (n, r) ∷ []) rs (n + 1)
    (pairs_push (λ a b. a.0 ≢ b.0) areas (n, r) numbered (λ a h. below (from_all (λ a. a.0 < n) areas under a h)))
    (All-push (λ a. a.0 < n + 1) areas (n, r) (All-weaker (λ a. a.0 < n) (λ a. a.0 < n + 1) (λ a l. omega (arith, l)) areas under) (omega arith)))
  where
    below : {m : ℕ} → m < n → m ≢ n
    below l e = omega arith

pub under_more : (areas : Areas) (rects : List Rectangle) (n : ℕ) → AreUnder n areas → AreUnder (n + length rects) (areas ++ enumerate_from n rects)
under_more areas [] n under = subst (AreUnder (n + 0)) (sym (append-nil areas)) (All-weaker (λ a. a.0 < n) (λ a. a.0 < n + 0) (λ a l. omega (arith, l)) areas under)
under_more areas (r ∷ rs) n under =
    subst (λ m. AreUnder m (areas ++ (n, r) ∷ enumerate_from (n + 1) rs)) (omega arith)
    (subst (AreUnder (n + 1 + length rs)) (append_assoc areas ((n, r) ∷ []) (enumerate_from (n + 1) rs))
    (under_more (areas ++ (n, r) ∷ []) rs (n + 1)
    (All-push (λ a. a.0 < n + 1) areas (n, r) (All-weaker (λ a. a.0 < n) (λ a. a.0 < n + 1) (λ a l. omega (arith, l)) areas under) (omega arith))))

-- a test of rectangles does not see the numbers
pub any_enumerated : (test : Rectangle → Bool) (n : ℕ) (rects : List Rectangle) → list_any (λ area. test area.1) (enumerate_from n rects) ≡ list_any test rects
any_enumerated test n [] = refl
any_enumerated test n (r ∷ rs) = ap (λ b. test r || b) (any_enumerated test (n + 1) rs)

-- some area passes if one does of those that are taken out or of those that stay
pub any_split : {A : Type 0} (test out : A → Bool) (xs : List A) → list_any test (filter out xs) ≡ false → list_any test (filter (λ x. not (out x)) xs) ≡ false → list_any test xs ≡ false
any_split test out [] h g = refl
any_split test out (x ∷ xs) h g =
    elim (out x) as (λ b. list_any test (cond b (x ∷ filter out xs) (filter out xs)) ≡ false → list_any test (cond (not b) (x ∷ filter (λ x. not (out x)) xs) (filter (λ x. not (out x)) xs)) ≡ false → (test x || list_any test xs) ≡ false) [
      | true ↦ λ h g. let both = or_both (test x) (list_any test (filter out xs)) h in ap (λ b. b || list_any test xs) both.0 ∙ any_split test out xs both.1 g
      | false ↦ λ h g. let both = or_both (test x) (list_any test (filter (λ x. not (out x)) xs)) g in ap (λ b. b || list_any test xs) both.0 ∙ any_split test out xs h both.1
    ] h g
  where
    or_both : (a b : Bool) → (a || b) ≡ false → (a ≡ false) × (b ≡ false)
    or_both true b e = cc
    or_both false b e = (refl, e)
