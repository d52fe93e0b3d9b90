-- Where a path begins and ends, and what the test of the paths finds.
use Rattle.std.proofs.Common.{◌≡◌, ℕ, zero, suc, ◌+◌, ◌<◌, ◌≤◌, Bool, true, false, cond, List, [], ◌∷◌, length, map, drop, get_or, slice_index, slice_get, slice_range, All, IsTrue, Option, Some, None, refl, rules, arith}
use Rattle.std.proofs.lemmas.List.{at_drop_more}
use Rattle.std.proofs.lemmas.List.Elements.{All-cons}
use Rattle.un_terms.specs.Config.{pair_of, paths_of, AreEnds, is_path, bad_path_from, IsConfig}

pub length-paths_of : (from : ℕ) (pairs : List (List ℕ)) (ends : List ℕ) → length (paths_of from pairs ends) ≡ length ends
length-paths_of from pairs [] = refl
length-paths_of from pairs (e ∷ es) = let h = length-paths_of e pairs es in omega arith

-- the last path ends at the last pair
pub ends_within : (from count : ℕ) (ends : List ℕ) → AreEnds from count ends → from ≤ count
ends_within from count [] h = omega (arith, h)
ends_within from count (e ∷ es) h = let more : e ≤ count = ends_within e count es h.1 in omega (arith, h.0)

-- the path at a place begins where the one before ends
pub ends_at : (from count : ℕ) (ends : List ℕ) (i d : ℕ) → i < length ends → AreEnds from count (drop i ends)
    → (from ≤ get_or ends i d) × AreEnds (get_or ends i d) count (drop (i + 1) ends)
ends_at from count ends i d within h = let e : drop i ends ≡ get_or ends i d ∷ drop (i + 1) ends = at_drop_more (λ (l : List ℕ). l) ends i d within in rw e at h

pub bounds_at : (from count : ℕ) (ends : List ℕ) (n : ℕ) → AreEnds from count ends → n < length ends
    → (slice_index (from ∷ ends) n ≤ slice_index ends n) × (slice_index ends n ≤ count)
bounds_at from count [] n h within = absurd (omega arith)
bounds_at from count (e ∷ es) zero h within = (h.0, ends_within e count es h.1)
bounds_at from count (e ∷ es) (suc n) h within = bounds_at e count es n h.1 (omega arith)

pub slice_get-paths_of : (from : ℕ) (pairs : List (List ℕ)) (ends : List ℕ) (n : ℕ) → n < length ends
    → slice_get (paths_of from pairs ends) n ≡ Some (map pair_of (slice_range pairs (slice_index (from ∷ ends) n) (slice_index ends n)))
slice_get-paths_of from pairs [] n within = absurd (omega arith)
slice_get-paths_of from pairs (e ∷ es) zero within = refl
slice_get-paths_of from pairs (e ∷ es) (suc n) within = slice_get-paths_of e pairs es n (omega arith)

pub bad_path_from-drop : (directional : Bool) (terminals from : ℕ) (pairs : List (List ℕ)) (ends : List ℕ) (i d : ℕ) → i < length ends
    → bad_path_from i directional terminals (paths_of from pairs (drop i ends)) ≡ bad_path_from i directional terminals (paths_of from pairs (get_or ends i d ∷ drop (i + 1) ends))
bad_path_from-drop directional terminals from pairs ends i d within = at_drop_more (λ l. bad_path_from i directional terminals (paths_of from pairs l)) ends i d within

if_none : (b : Bool) (o : Option ℕ) (i : ℕ) → cond b o (Some i) ≡ None → (b ≡ true) × (o ≡ None)
if_none true o i e = (refl, e)
if_none false o i e = cc

-- where no path is bad, each is a path
pub paths_good : (place : ℕ) (directional : Bool) (terminals : ℕ) (paths : List (List (ℕ × ℕ))) → bad_path_from place directional terminals paths ≡ None
    → All (λ path. IsTrue (is_path directional terminals path)) paths
paths_good place directional terminals [] e = search rules
paths_good place directional terminals (p ∷ ps) e =
    let parts = if_none (is_path directional terminals p) (bad_path_from (place + 1) directional terminals ps) place e in
    All-cons (λ path. IsTrue (is_path directional terminals path)) p ps parts.0 (paths_good (place + 1) directional terminals ps parts.1)

-- a configuration whose paths are good
pub config_from : (directional : Bool) (terminals : ℕ) (pairs : List (List ℕ)) (ends : List ℕ) → 2 ≤ terminals → terminals ≤ 8 → 1 ≤ length ends
    → bad_path_from 0 directional terminals (paths_of 0 pairs ends) ≡ None
    → IsConfig (record { directional = directional; terminals = terminals; paths = paths_of 0 pairs ends })
config_from directional terminals pairs ends enough few some good =
    let same = length-paths_of 0 pairs ends in
    record { enough = enough; few = few; some = omega arith; each = paths_good 0 directional terminals (paths_of 0 pairs ends) good }
