-- Points that have the stars of all features, one after another.
use Rattle.std.proofs.Common.{◌≡◌, ◌≢◌, ℕ, ◌+◌, ◌||◌, Bool, true, false, List, [], ◌∷◌, ◌++◌, map, length, refl, sym, ap, ◌∙◌, if◌then◌else◌, inl, inr, arith}
use Rattle.std.specs.declared.cmp.Ordering.TheVariants.{Less}
use Rattle.std.specs.List.{list_any, sum_by, AllByRecursion}
use Rattle.std.specs.List.Sorted.{IsStrictlySortedBy}
use Rattle.std.proofs.lemmas.List.Folds.{list_any-append}
use Rattle.std.proofs.lemmas.List.Sums.{sum_by-append}
use Rattle.un_geom.specs.declared.point.Point.{Point}
use Rattle.un_geom.specs.Places.{same_point, point_cmp}
use Rattle.un_defs.specs.declared.star.Star.{Star}
use Rattle.un_defs.specs.Star.{empty_star}
use Rattle.un_defs.proofs.Unique.{point_same}
use Rattle.un_index.specs.Kept.{stars_of, is_empty_star, IsKept as IsKeptHere, AreStars}
use Rattle.un_facts.specs.Known.{Known}
use Rattle.un_rebuild.specs.Rebuilding.{fresh_at, by_point, AreRebuilt, IsKept}
use Rattle.un_defs.proofs.KeepsSound.{all_from}
use Rattle.un_defs.proofs.Rising.{Among}

-- before the first point
pub replaced_none : (K : Known) (before kept : List (Point × Star)) → kept ≡ before → AreRebuilt K before [] kept
replaced_none K before kept same p = ap (λ k. stars_of k p) same

or_none : (b : Bool) → (b || false) ≡ b
or_none true = refl
or_none false = refl

or_some : (b : Bool) → (b || true) ≡ true
or_some true = refl
or_some false = refl

nothing_before : (n : ℕ) → n ≡ 0 + n
nothing_before n = omega arith

module _ (K : Known) (before : List (Point × Star)) (points : List Point) (p : Point) (kept more : List (Point × Star)) (star : Star) where
  pub replaced_more : AreRebuilt K before points kept → star ≡ fresh_at K p
      → ((q : Point) → stars_of more q ≡ (if same_point q p then star else stars_of kept q)) → AreRebuilt K before (points ++ p ∷ []) more
  replaced_more rest is stars q =
      stars q ∙ go (same_point q p) refl ∙ ap (λ b. if b then fresh_at K q else stars_of before q) (sym (list_any-append (same_point q) points (p ∷ [])))
    where
      go : (b : Bool) → same_point q p ≡ b → (if b then star else stars_of kept q)
          ≡ (if list_any (same_point q) points || (same_point q p || false) then fresh_at K q else stars_of before q)
      go true e =
          is ∙ ap (fresh_at K) (sym (point_same q p e))
          ∙ ap (λ b. if b then fresh_at K q else stars_of before q) (sym (ap (λ b. list_any (same_point q) points || (b || false)) e ∙ or_some (list_any (same_point q) points)))
      go false e =
          rest q
          ∙ ap (λ b. if b then fresh_at K q else stars_of before q) (sym (ap (λ b. list_any (same_point q) points || (b || false)) e ∙ or_none (list_any (same_point q) points)))

pub errors_more : (K : Known) (points : List Point) (p : Point) (star : Star) (errors sum : ℕ) → errors ≡ sum_by (λ p. length (fresh_at K p).errors) points
    → star ≡ fresh_at K p → sum ≡ errors + length star.errors → sum ≡ sum_by (λ p. length (fresh_at K p).errors) (points ++ p ∷ [])
errors_more K points p star errors sum before is next =
    next ∙ (λ i. before i + length (is i).errors)
    ∙ ap (λ n. sum_by (λ p. length (fresh_at K p).errors) points + n) (nothing_before (length (fresh_at K p).errors))
    ∙ sym (sum_by-append (λ p. length (fresh_at K p).errors) points (p ∷ []))

-- ---- what the kept topology is

less_all : (p : Point) (star : Star) (kept : List (Point × Star)) → AllByRecursion (λ q. point_cmp p q ≡ Less) (map (λ pair. pair.0) kept) → AllByRecursion (λ pair. by_point (p, star) pair ≡ Less) kept
less_all p star [] h = tt
less_all p star (x ∷ kept) h = (h.0, less_all p star kept h.1)

sorted_pairs : (kept : List (Point × Star)) → IsStrictlySortedBy point_cmp (map (λ pair. pair.0) kept) → IsStrictlySortedBy by_point kept
unfolding IsStrictlySortedBy
sorted_pairs [] h = tt
sorted_pairs (x ∷ kept) h = (less_all x.0 x.1 kept h.0, sorted_pairs kept h.1)

nonempty_pairs : (kept : List (Point × Star)) → AreStars kept → (pair : Point × Star) → Among kept pair → pair.1 ≢ empty_star
nonempty_pairs [] h pair i e = absurd i
nonempty_pairs (x ∷ kept) h pair i e = elim i [
  | inl same ↦ let f : true ≡ false = ap is_empty_star (sym e ∙ ap (λ p. p.1) (sym same)) ∙ h.0 in cc
  | inr rest ↦ nonempty_pairs kept h.1 pair rest e
]

pub kept_is : (kept : List (Point × Star)) → IsKeptHere kept → IsKept kept
kept_is kept is = record { sorted = sorted_pairs kept is.rising; nonempty = all_from (λ pair. pair.1 ≢ empty_star) kept (nonempty_pairs kept is.stars) }
