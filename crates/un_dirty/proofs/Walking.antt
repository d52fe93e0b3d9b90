-- A walk over numbered values that gathers those that pass a test.
use Rattle.std.proofs.Common.{◌≡◌, ℕ, Bool, true, false, cond, List, [], ◌∷◌, ◌++◌, filter, refl, sym, ◌∙◌, ap, append_assoc, append-nil}
use Rattle.std.specs.declared.ops.Bound.TheVariants.{Unbounded}
use Rattle.std.specs.Ordering.{nat_cmp}
use Rattle.un_pages.specs.Pairs.{from_on}

-- those before the rest that pass
pub record IsGathered {V : Type 0} (test : ℕ × V → Bool) (all rest met : List (ℕ × V)) : Type 0 where
  pub is : met ++ filter test rest ≡ filter test all

pub from_all : {V : Type 0} (l : List (ℕ × V)) → from_on nat_cmp Unbounded l ≡ l
from_all [] = refl
from_all (x ∷ l) = ap (λ r. x ∷ r) (from_all l)

module _ {V : Type 0} (test : ℕ × V → Bool) (all rest : List (ℕ × V)) where
  pub gathered_none : (met : List (ℕ × V)) → met ≡ [] → rest ≡ from_on nat_cmp Unbounded all → IsGathered test all rest met
  gathered_none met e h = record { is = ap (λ l. l ++ filter test rest) e ∙ ap (filter test) (h ∙ from_all all) }

  module _ (p : ℕ × V) (left : List (ℕ × V)) (next : rest ≡ p ∷ left) where
    filtered : (b : Bool) → test p ≡ b → filter test rest ≡ cond b (p ∷ filter test left) (filter test left)
    filtered b e = ap (filter test) next ∙ ap (λ b. cond b (p ∷ filter test left) (filter test left)) e

    pub gathered_met : (met more : List (ℕ × V)) → IsGathered test all rest met → test p ≡ true → more ≡ met ++ p ∷ [] → IsGathered test all left more
    gathered_met met more is e at_end = record {
      is = ap (λ l. l ++ filter test left) at_end ∙ append_assoc met (p ∷ []) (filter test left) ∙ ap (λ l. met ++ l) (sym (filtered true e)) ∙ is.is;
    }

    pub gathered_past : (met : List (ℕ × V)) → IsGathered test all rest met → test p ≡ false → IsGathered test all left met
    gathered_past met is e = record { is = ap (λ l. met ++ l) (sym (filtered false e)) ∙ is.is }

  pub gathered_all : (met : List (ℕ × V)) → IsGathered test all rest met → rest ≡ [] → met ≡ filter test all
  gathered_all met is e = sym (append-nil met) ∙ ap (λ l. met ++ filter test l) (sym e) ∙ is.is
