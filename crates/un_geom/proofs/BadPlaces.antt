-- What follows where no place of a shape is bad.
use Rattle.std.proofs.Common.{◌≡◌, ℤ, add-zero, ℕ, zero, suc, ◌+◌, ◌<◌, ◌≤◌, Bool, true, false, cond, ◌||◌, not, nat_lt, nat_le, List, length, find, All, Option, Some, None, IsTrue, refl, subst, arith}
use Rattle.std.specs.List.{list_all, range_with_len}
use Rattle.std.specs.Option.{option_map_or}
use Rattle.std.proofs.lemmas.Bool.Decides.{nat_tests}
use Rattle.std.proofs.lemmas.Option.{slice_get-get_or}
use Rattle.un_geom.specs.Places.{in_range, is_placed, repeats, is_bad_vertex, missing_place, or_else, bad_place}
use Rattle.un_geom.specs.Counts.{CountLaw}

passed : (b : Bool) (x : ℕ) (r : Option ℕ) → cond b (Some x) r ≡ None → (b ≡ false) × (r ≡ None)
passed true x r e = cc
passed false x r e = (refl, e)

-- a test that fails of a whole range fails of each number there
none_in_range : (p : ℕ → Bool) (a n i : ℕ) → find p (range_with_len a n) ≡ None → i < n → p (a + i) ≡ false
none_in_range p a zero i e h = absurd (omega arith)
none_in_range p a (suc n) zero e h = rw add-zero (passed (p a) a _ e).0
none_in_range p a (suc n) (suc i) e h = subst (λ k. p k ≡ false) (omega arith) (none_in_range p (a + 1) n i (passed (p a) a _ e).1 (omega arith))

neither : (a b : Option ℕ) → or_else a b ≡ None → (a ≡ None) × (b ≡ None)
neither None b e = (refl, e)
neither (Some x) b e = cc

good_vertex : (a b c : Bool) → (a || not b || c) ≡ false → (a ≡ false) × (b ≡ true)
good_vertex false true c e = (refl, refl)
good_vertex false false c e = cc
good_vertex true b c e = cc

-- each vertex of a good shape is within the greatest count, and its numbers are coordinates
vertex_within : (least most : ℕ) (points : List (List ℤ)) → bad_place least most points ≡ None → (i : ℕ) → i < length points → (nat_le most i ≡ false) × (is_placed points i ≡ true)
vertex_within least most points e i h =
    let none = (neither (find (is_bad_vertex most points) (range_with_len 0 (length points))) (missing_place least points) e).0 in
    let good : is_bad_vertex most points i ≡ false = subst (λ k. is_bad_vertex most points k ≡ false) (omega arith) (none_in_range (is_bad_vertex most points) 0 (length points) i none h) in
    good_vertex (nat_le most i) (is_placed points i) (repeats points i) good

pub good_triples : (least most : ℕ) (points : List (List ℤ)) → bad_place least most points ≡ None → All (λ t. IsTrue (list_all in_range t)) points
good_triples least most points e k d h =
    let placed = (vertex_within least most points e k h).1 in
    let at = slice_get-get_or points k d h in
    subst (λ o. option_map_or (list_all in_range) o true ≡ true) at placed

not_under : (n m : ℕ) (r : Option ℕ) → (cond (nat_lt n m) (Some n) None) ≡ None → m ≤ n
not_under n m r e = grind (arith, nat_tests)

pub good_count : CountLaw
good_count least most points e = (not_under _ _ None missing, few (length points) refl)
  where
    missing : missing_place least points ≡ None
    missing = (neither (find (is_bad_vertex most points) (range_with_len 0 (length points))) (missing_place least points) e).1

    few : (n : ℕ) → n ≡ length points → n ≤ most
    few zero h = omega arith
    few (suc n) h =
        let last : nat_le most n ≡ false = (vertex_within least most points e n (omega arith)).0 in
        grind (arith, nat_tests)
