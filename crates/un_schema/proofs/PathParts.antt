-- One more path after those that stand one after another in a list of pairs.
use Rattle.std.proofs.Common.{◌≡◌, ℕ, ◌+◌, ◌-◌, ◌≤◌, List, [], ◌∷◌, ◌++◌, length, map, take, drop, slice_range, refl, ap, ◌∙◌, sym, ◌<◌, get_or, arith, length-append, length-drop}
use Rattle.std.proofs.Math.Seq.{drop-append_seam}
use Rattle.std.proofs.lemmas.List.{drop-append-le, take-append-le, map_more}
use Rattle.un_terms.specs.Config.{pair_of, paths_of, AreEnds}
use Rattle.un_terms.proofs.PathLemmas.{ends_within}
use Rattle.un_schema.specs.declared.raw.RawPath.{RawPath}

AreEnds-snoc : (from count more : ℕ) (ends : List ℕ) → AreEnds from count ends → AreEnds from (count + more) (ends ++ (count + more) ∷ [])
AreEnds-snoc from count more [] h = (omega (arith, h), refl)
AreEnds-snoc from count more (e ∷ es) h = (h.0, AreEnds-snoc e count more es h.1)

within : (pairs more : List (List ℕ)) (from end : ℕ) → from ≤ end → end ≤ length pairs → slice_range (pairs ++ more) from end ≡ slice_range pairs from end
within pairs more from end rising few =
    rw (drop-append-le from pairs more (omega arith)) (take-append-le (end - from) (drop from pairs) more (omega (arith, length-drop from pairs)))

all_of_it : (xs : List (List ℕ)) → take (length xs) xs ≡ xs
all_of_it [] = refl
all_of_it (x ∷ xs) = ap (λ (ys : List (List ℕ)). x ∷ ys) (all_of_it xs)

last : (pairs more : List (List ℕ)) (from end : ℕ) → from ≡ length pairs → end ≡ length pairs + length more → slice_range (pairs ++ more) from end ≡ more
last pairs more from end is_from is_end =
    let count : end - from ≡ length more = omega arith in
    rw (count, is_from, drop-append_seam pairs more) (all_of_it more)

-- what is appended is the last path
pub paths_of-snoc : (from : ℕ) (pairs more : List (List ℕ)) (ends : List ℕ) (end : ℕ) → AreEnds from (length pairs) ends → end ≡ length pairs + length more
    → paths_of from (pairs ++ more) (ends ++ end ∷ []) ≡ paths_of from pairs ends ++ map pair_of more ∷ []
paths_of-snoc from pairs more [] end h is_end = ap (λ (part : List (List ℕ)). map pair_of part ∷ []) (last pairs more from end h is_end)
paths_of-snoc from pairs more (e ∷ es) end h is_end =
    ap (λ (part : List (List ℕ)). map pair_of part ∷ paths_of e (pairs ++ more) (es ++ end ∷ [])) (within pairs more from e h.0 (ends_within e (length pairs) es h.1))
    ∙ ap (λ (others : List (List (ℕ × ℕ))). map pair_of (slice_range pairs from e) ∷ others) (paths_of-snoc e pairs more es end h.1 is_end)

-- and its end the last end
pub ends_snoc : (pairs more : List (List ℕ)) (ends : List ℕ) (end : ℕ) → AreEnds 0 (length pairs) ends → end ≡ length pairs + length more
    → AreEnds 0 (length (pairs ++ more)) (ends ++ end ∷ [])
ends_snoc pairs more ends end h is_end = rw (length-append pairs more, is_end) (AreEnds-snoc 0 (length pairs) (length more) ends h)

-- the paths so far and one more
pub paths_more : (paths : List RawPath) (i : ℕ) (item : RawPath) (pairs : List (List ℕ)) (ends : List ℕ) (end : ℕ) → i < length paths → item ≡ get_or paths i item
    → AreEnds 0 (length pairs) ends → end ≡ length pairs + length item.pairs → paths_of 0 pairs ends ≡ map (λ path. map pair_of path.pairs) (take i paths)
    → paths_of 0 (pairs ++ item.pairs) (ends ++ end ∷ []) ≡ map (λ path. map pair_of path.pairs) (take (i + 1) paths)
paths_more paths i item pairs ends end few is h is_end kept =
    let shown = λ (path : RawPath). map pair_of path.pairs in
    let more : map shown (take (i + 1) paths) ≡ map shown (take i paths) ++ shown item ∷ [] =
    map_more shown paths i item few ∙ ap (λ (x : RawPath). map shown (take i paths) ++ shown x ∷ []) (sym is) in
    paths_of-snoc 0 pairs item.pairs ends end h is_end ∙ (ap (λ (l : List (List (ℕ × ℕ))). l ++ shown item ∷ []) kept ∙ sym more)
