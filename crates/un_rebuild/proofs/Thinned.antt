-- Lists of points that are sorted, and then have each point once.
use Rattle.std.proofs.Common.{◌≡◌, ◌&&◌, Bool, true, false, List, [], Contains, refl, sym, subst, ◌∙◌}
use Rattle.std.specs.Ordering.{int_eq, eq_by_cmp}
use Rattle.std.specs.Cmp.{IsEquivalence}
use Rattle.std.specs.List.{dedup}
use Rattle.std.specs.List.Retain.{IsFiltered, DiffersFromLast}
use Rattle.std.specs.List.Sorted.{IsPermutation, IsSorted, IsStrictlySortedBy}
use Rattle.std.proofs.lemmas.Cmp.{eq_by_cmp_equiv}
use Rattle.std.proofs.lemmas.List.Filters.{dedup_is}
use Rattle.std.proofs.lemmas.List.Kept.{Contains-dedup, Contains-from_dedup, IsStrictlySortedBy-dedup}
use Rattle.std.proofs.lemmas.List.Sorted.{Contains-permutation, IsPermutation-sym}
use Rattle.un_geom.specs.contracts.point.PointOrd.TheImpl as order
use Rattle.un_geom.specs.contracts.point.PointPartialEq.TheImpl as equality
use Rattle.un_geom.specs.declared.point.Point.{Point}
use Rattle.un_geom.specs.Places.{point_cmp}
use Rattle.un_points.proofs.Lookups.{orders, point_total, tie_same, same_is}
use Rattle.un_rebuild.specs.Gathered.{HaveSame}

abbrev equal : Point → Point → Bool
equal = equality.ghosts.eq

-- the equality that the derive gives
ties : (p q : Point) → equal p q ≡ eq_by_cmp point_cmp p q
ties p q = of_three (int_eq p.x q.x) (int_eq p.y q.y) (int_eq p.z q.z) ∙ sym (tie_same p q)
  where
    of_three : (a b c : Bool) → (a && (b && c)) ≡ (a && b && c)
    of_three true b c = refl
    of_three false b c = refl

equal_is : (p q : Point) → equal p q ≡ true → p ≡ q
equal_is p q e = same_is p q (sym (tie_same p q) ∙ sym (ties p q) ∙ e)

alike : equal ≡ eq_by_cmp point_cmp
alike = λ i p q. ties p q i

equates : IsEquivalence equal
equates = subst (IsEquivalence {K = Point}) (sym alike) (eq_by_cmp_equiv point_total)

module _ (before sorted after : List Point) (kept : IsFiltered (DiffersFromLast equal) [] sorted after) where
  once : after ≡ dedup equal sorted
  once = dedup_is equal sorted after kept

  pub same_once : IsPermutation before sorted → HaveSame before after
  same_once moved = record {
    keeps = λ p h. subst (λ ps. Contains ps p) (sym once) (Contains-dedup equates equal_is sorted p (Contains-permutation before sorted p moved h));
    adds_none = λ p h. Contains-permutation sorted before p (IsPermutation-sym before sorted moved)
        (Contains-from_dedup equal sorted p (subst (λ ps. Contains ps p) once h));
  }

  pub rising_once : IsSorted order.ghosts.cmp sorted → IsStrictlySortedBy point_cmp after
  rising_once rising = subst (IsStrictlySortedBy point_cmp) (sym once)
      (IsStrictlySortedBy-dedup point_total ties sorted (subst (λ cmp. IsSorted cmp sorted) orders rising))
