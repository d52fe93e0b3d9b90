-- Associations under their ids.
use Rattle.std.proofs.Common.{◌≡◌, ℕ, zero, suc, ◌<◌, not, ◌==◌, List, [], ◌∷◌, ◌++◌, find, All, refl, arith}
use Rattle.std.proofs.lemmas.Bool.Decides.{nat_tests}
use Rattle.std.proofs.lemmas.Cmp.{nat_cmp_total}
use Rattle.std.specs.declared.cmp.Ordering.TheVariants.{Greater}
use Rattle.std.specs.Ordering.{nat_cmp}
use Rattle.std.specs.List.{filter, AllByRecursion}
use Rattle.std.specs.Map.{values_of, lookup, remove_entry}
use Rattle.std.specs.BTreeMap.{is_at, insert_entry}
use Rattle.un_pages.specs.Pairs.{IsOrdered}
use Rattle.un_defs.specs.declared.assoc.Assoc.{Assoc}
use Rattle.un_assoc.specs.Indexes.{AreKeyed}
use Rattle.un_assoc.proofs.PairKeys.{nat_tie, nat_same}
use Rattle.un_assoc.proofs.Keyed.{lookup_is, insert_last, insert_keys, remove_is, remove_keys}

pub by_id_lookup : (id : ℕ) (ps : List (ℕ × Assoc)) → AreKeyed (λ a. a.id) ps → lookup (is_at (nat_cmp id)) ps ≡ find (λ a. a.id == id) (values_of ps)
by_id_lookup = lookup_is nat_cmp_total nat_tie ◌==◌ nat_same (λ (a : Assoc). a.id)

pub by_id_keys : (a : Assoc) (ps : List (ℕ × Assoc)) → AreKeyed (λ a. a.id) ps → AreKeyed (λ a. a.id) (insert_entry nat_cmp ps a.id a)
by_id_keys a ps e = insert_keys nat_cmp_total nat_tie ◌==◌ nat_same (λ (a : Assoc). a.id) a.id a ps refl e

over : (a b : ℕ) → b < a → nat_cmp a b ≡ Greater
over a b h = grind (arith, nat_tests)

all_over : (n : ℕ) (ps : List (ℕ × Assoc)) → AreKeyed (λ a. a.id) ps → All (λ a. a.id < n) (values_of ps) → AllByRecursion (λ p. nat_cmp n p.0 ≡ Greater) ps
all_over n [] e h = tt
all_over n (p ∷ ps) e h =
    let key : p.0 ≡ p.1.id = cc in
    let rest : AreKeyed (λ a. a.id) ps = cc in
    let below : p.1.id < n = h zero p.1 (omega arith) in
    (over n p.0 (omega arith), all_over n ps rest (λ i d l. h (suc i) d (omega (arith, l))))

pub by_id_last : (a : Assoc) (ps : List (ℕ × Assoc)) → AreKeyed (λ a. a.id) ps → All (λ b. b.id < a.id) (values_of ps) → values_of (insert_entry nat_cmp ps a.id a) ≡ values_of ps ++ a ∷ []
by_id_last a ps e h = insert_last nat_cmp_total nat_tie ◌==◌ nat_same (λ (a : Assoc). a.id) a.id a ps (all_over a.id ps e h)

pub by_id_removed : (id : ℕ) (ps : List (ℕ × Assoc)) → IsOrdered nat_cmp ps → AreKeyed (λ a. a.id) ps → values_of (remove_entry (is_at (nat_cmp id)) ps) ≡ filter (λ a. not (a.id == id)) (values_of ps)
by_id_removed = remove_is nat_cmp_total nat_tie ◌==◌ nat_same (λ (a : Assoc). a.id)

pub by_id_removed_keys : (id : ℕ) (ps : List (ℕ × Assoc)) → AreKeyed (λ a. a.id) ps → AreKeyed (λ a. a.id) (remove_entry (is_at (nat_cmp id)) ps)
by_id_removed_keys = remove_keys nat_cmp_total nat_tie ◌==◌ nat_same (λ (a : Assoc). a.id)
