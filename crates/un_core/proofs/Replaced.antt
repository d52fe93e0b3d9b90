-- Replacing the stars of points one by one rebuilds the areas, and the errors of these stars are the errors there.
use Rattle.std.proofs.Common.{◌≡◌, ◌≢◌, ℕ, ◌+◌, Bool, true, false, cond, List, [], ◌∷◌, filter, length, refl, sym, ap, ◌∙◌, subst, inl, inr, true≢false, if◌then◌else◌, arith}
use Rattle.std.specs.List.{list_any, sum_by}
use Rattle.std.specs.List.Sorted.{IsStrictlySortedBy}
use Rattle.std.proofs.lemmas.List.Sums.{sum_by-cons}
use Rattle.std.proofs.lemmas.List.Kept.{IsStrictlySortedBy-filter}
use Rattle.un_geom.specs.declared.point.Point.{Point}
use Rattle.un_geom.specs.Rectangle.{Rectangle}
use Rattle.un_geom.specs.Places.{same_point, point_cmp}
use Rattle.un_defs.specs.declared.star.Star.{Star}
use Rattle.un_defs.specs.Star.{empty_star}
use Rattle.un_defs.proofs.Rising.{Among}
use Rattle.un_defs.proofs.Members.{among_from_list_any, list_any_from_among, among_from-filter, contains_from_among, among_from_contains}
use Rattle.un_defs.proofs.Unique.{from_all, point_same, point_itself}
use Rattle.un_defs.proofs.Near.{false_unless}
use Rattle.un_index.specs.Kept.{stars_of}
use Rattle.un_core.specs.State.{State, fresh_star}
use Rattle.un_core.specs.Validation.{is_under, by_point, rebuilt, errors_under, count_errors, ArePoints, AreRebuilt, IsKept}
use Rattle.un_core.specs.Cover.{IsState}
use Rattle.un_core.proofs.LookUps.{Pairs, table_map, table, kept_by, sorted_map, stars_kept, stars_table, missing_kept, missing_table, missing}
use Rattle.un_core.proofs.Rebuilding.{rebuilt_under, rebuilt_elsewhere, rebuilt_sorted, rebuilt_nonempty}
use Rattle.un_core.proofs.Canonical.{canonical}
use Rattle.un_core.proofs.Nonempty.{is_nonempty, empty_otherwise, nonempty_star, stars_nonempty, table_sorted}

-- ---- a point of a list

abbrev has : List Point → Point → Bool
has ps p = list_any (same_point p) ps

from_has : (ps : List Point) (p : Point) → has ps p ≡ true → Among ps p
from_has ps p e = let r = among_from_list_any (same_point p) ps e in subst (Among ps) (sym (point_same p r.0 r.2)) r.1

has_from : (ps : List Point) (p : Point) → Among ps p → has ps p ≡ true
has_from ps p i = list_any_from_among (same_point p) ps p i (point_itself p)

-- ---- errors

abbrev errors_of : Point × Star → ℕ
errors_of pair = length pair.1.errors

more_none : (n m : ℕ) → m ≡ 0 → n ≡ m + n
more_none n m e = omega (arith, e)

-- stars that tell nothing have no errors
count_nonempty : (xs : Pairs) → count_errors (filter is_nonempty xs) ≡ count_errors xs
count_nonempty [] = refl
count_nonempty (x ∷ xs) = go (is_nonempty x) refl (count_nonempty xs)
  where
    go : (b : Bool) → is_nonempty x ≡ b → count_errors (filter is_nonempty xs) ≡ count_errors xs → count_errors (cond b (x ∷ filter is_nonempty xs) (filter is_nonempty xs)) ≡ count_errors (x ∷ xs)
    go true t rest = sum_by-cons errors_of x (filter is_nonempty xs) ∙ ap (λ n. errors_of x + n) rest ∙ sym (sum_by-cons errors_of x xs)
    go false t rest = rest ∙ more_none (count_errors xs) (length x.1.errors) (ap (λ star. length star.errors) (empty_otherwise x.1 t)) ∙ sym (sum_by-cons errors_of x xs)

count_table : (f : Point → Star) (ps : List Point) → count_errors (table f ps) ≡ sum_by (λ p. length (f p).errors) ps
count_table f [] = refl
count_table f (p ∷ ps) =
    sum_by-cons errors_of (p, f p) (table f ps) ∙ ap (λ n. length (f p).errors + n) (count_table f ps) ∙ sym (sum_by-cons (λ p. length (f p).errors) p ps)

module _ (s : State) (is : IsState s) (areas : List (ℕ × Rectangle)) (points : List Point) (are : ArePoints s areas points) where
  under : (p : Point) → has points p ≡ true → is_under areas p ≡ true
  under p e = are.under p (contains_from_among points p (from_has points p e))

  whole : (p : Point) → is_under areas p ≡ true → has points p ≡ false → (stars_of s.kept p ≡ empty_star) × (fresh_star s p ≡ empty_star)
  whole p u f = elim (are.whole p u) [
    | inl c ↦ absurd (true≢false (sym (has_from points p (among_from_contains points p c)) ∙ f))
    | inr r ↦ r
  ]

  nonempty : (pair : Point × Star) → Among s.kept pair → pair.1 ≢ empty_star
  nonempty pair h = from_all (λ pair. pair.1 ≢ empty_star) s.kept is.nonempty pair h

  replaced_at : (p : Point) → (if has points p then fresh_star s p else stars_of s.kept p) ≡ stars_of (rebuilt s areas) p
  replaced_at p = go (has points p) (is_under areas p) refl refl
    where
      go : (b u : Bool) → has points p ≡ b → is_under areas p ≡ u → (if b then fresh_star s p else stars_of s.kept p) ≡ stars_of (rebuilt s areas) p
      go true u e k = sym (rebuilt_under s areas is.sound (sorted_map s.kept is.sorted) p (under p e))
      go false true e k = let w = whole p k e in w.0 ∙ sym w.1 ∙ sym (rebuilt_under s areas is.sound (sorted_map s.kept is.sorted) p k)
      go false false e k = sym (rebuilt_elsewhere s areas (sorted_map s.kept is.sorted) p k)

  -- what is kept after all points were replaced
  pub replaced : (kept : Pairs) → IsKept kept → AreRebuilt s points kept → kept ≡ rebuilt s areas
  replaced kept k are = canonical kept (rebuilt s areas) k.sorted (rebuilt_sorted s areas)
      (λ pair h. from_all (λ pair. pair.1 ≢ empty_star) kept k.nonempty pair h) (rebuilt_nonempty s areas is.sound nonempty) (λ p. are p ∙ replaced_at p)

  -- ---- errors

  abbrev fresh_at : Point → Star
  fresh_at p = fresh_star s p

  abbrev there : Pairs
  there = kept_by (is_under areas) (rebuilt s areas)

  has_same : (p : Point) (b : Bool) → has points p ≡ b → list_any (λ q. same_point q p) points ≡ b
  has_same p true e = list_any_from_among (λ q. same_point q p) points p (from_has points p e) (point_itself p)
  has_same p false e = false_unless (list_any (λ q. same_point q p) points) (λ t.
      let r = among_from_list_any (λ q. same_point q p) points t in
      true≢false (sym (has_from points p (subst (Among points) (point_same r.0 p r.2) r.1)) ∙ e))

  same_there : (p : Point) → stars_of (filter is_nonempty (table fresh_at points)) p ≡ stars_of there p
  same_there p = stars_nonempty (table fresh_at points) (table_map fresh_at points) p ∙ go (has points p) (is_under areas p) refl refl
    where
      go : (b u : Bool) → has points p ≡ b → is_under areas p ≡ u → stars_of (table fresh_at points) p ≡ stars_of there p
      go true u e k =
          stars_table fresh_at points p (has_same p true e)
          ∙ sym (rebuilt_under s areas is.sound (sorted_map s.kept is.sorted) p (under p e))
          ∙ sym (stars_kept (is_under areas) (rebuilt s areas) p (under p e))
      go false true e k =
          missing (table fresh_at points) p (missing_table fresh_at points p (has_same p false e))
          ∙ sym (whole p k e).1
          ∙ sym (rebuilt_under s areas is.sound (sorted_map s.kept is.sorted) p k)
          ∙ sym (stars_kept (is_under areas) (rebuilt s areas) p k)
      go false false e k =
          missing (table fresh_at points) p (missing_table fresh_at points p (has_same p false e))
          ∙ sym (missing there p (missing_kept (is_under areas) (rebuilt s areas) p k))

  -- the errors of the stars of the points, one after another
  pub errors_counted : IsStrictlySortedBy point_cmp points → sum_by (λ p. length (fresh_star s p).errors) points ≡ errors_under s areas
  errors_counted sorted =
      sym (count_table fresh_at points)
      ∙ sym (count_nonempty (table fresh_at points))
      ∙ ap count_errors (canonical (filter is_nonempty (table fresh_at points)) there
      (IsStrictlySortedBy-filter by_point is_nonempty (table fresh_at points) (table_sorted fresh_at points sorted))
      (IsStrictlySortedBy-filter by_point (λ pair. is_under areas pair.0) (rebuilt s areas) (rebuilt_sorted s areas))
      (λ pair i. nonempty_star pair (among_from-filter is_nonempty (table fresh_at points) pair i).1)
      (λ pair i. rebuilt_nonempty s areas is.sound nonempty pair (among_from-filter (λ pair. is_under areas pair.0) (rebuilt s areas) pair i).0)
      same_there)
