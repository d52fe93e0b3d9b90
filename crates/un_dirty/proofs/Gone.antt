-- Whether an area has a number, by a look-up.
use Rattle.std.proofs.Common.{Bor, ◌≡◌, ℕ, ◌==◌, ◌||◌, Bool, true, false, cond, List, [], ◌∷◌, Option, None, Some, is_some, refl, sym, ap, ◌∙◌}
use Rattle.std.specs.Ordering.{nat_cmp, is_eq}
use Rattle.std.specs.Map.{lookup}
use Rattle.std.specs.BTreeMap.{is_at}
use Rattle.std.specs.Option.{option_copied}
use Rattle.std.proofs.lemmas.Bool.{eq-eqb, eqb-true}
use Rattle.un_geom.specs.Rectangle.{Rectangle}
use Rattle.un_dirty.specs.Areas.{has_area}
use Rattle.un_dirty.proofs.Numbering.{equal, tie}

-- two numbers compare as equal where they are
same_test : (n m : ℕ) → is_eq (nat_cmp n m) ≡ (m == n)
same_test n m = go (is_eq (nat_cmp n m)) (m == n) refl refl
  where
    go : (a b : Bool) → is_eq (nat_cmp n m) ≡ a → (m == n) ≡ b → a ≡ b
    go true true e f = refl
    go true false e f = sym (eq-eqb m n (sym (tie n m e))) ∙ f
    go false true e f = sym e ∙ ap (λ k. is_eq (nat_cmp n k)) (eqb-true m n f) ∙ ap is_eq (equal n)
    go false false e f = refl

pub found_area : (areas : List (ℕ × Rectangle)) (n : ℕ) → is_some (lookup (is_at (nat_cmp n)) areas) ≡ has_area areas n
found_area [] n = refl
found_area (x ∷ areas) n = go (is_eq (nat_cmp n x.0)) (found_area areas n) ∙ ap (λ b. b || has_area areas n) (same_test n x.0)
  where
    go : (b : Bool) → is_some (lookup (is_at (nat_cmp n)) areas) ≡ has_area areas n
        → is_some (cond b (Some x.1) (lookup (is_at (nat_cmp n)) areas)) ≡ (b || has_area areas n)
    go true ih = refl
    go false ih = ih

-- the look-up tells whether there is one
pub found_gives : (areas : List (ℕ × Rectangle)) (n : ℕ) (o : Option (Bor Rectangle)) → option_copied o ≡ lookup (is_at (nat_cmp n)) areas
    → is_some o ≡ has_area areas n
found_gives areas n None e = ap is_some e ∙ found_area areas n
found_gives areas n (Some r) e = ap is_some e ∙ found_area areas n
