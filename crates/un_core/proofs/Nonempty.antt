-- The pairs whose stars tell something.
use Rattle.std.proofs.Common.{◌≡◌, ◌≢◌, ◌&&◌, Bool, true, false, not, List, [], ◌∷◌, filter, refl, sym, ap, ◌∙◌, subst, inl, inr, true≢false}
use Rattle.std.specs.declared.cmp.Ordering.TheVariants.{Less}
use Rattle.std.specs.List.{AllByRecursion}
use Rattle.std.specs.List.Sorted.{IsStrictlySortedBy}
use Rattle.un_geom.specs.declared.point.Point.{Point}
use Rattle.un_geom.specs.Places.{point_cmp}
use Rattle.un_defs.specs.declared.star.Star.{Star}
use Rattle.un_defs.specs.declared.star.Spot.{Spot}
use Rattle.un_defs.specs.declared.star.TopoError.{TopoError}
use Rattle.un_defs.specs.Star.{empty_star}
use Rattle.un_defs.proofs.Rising.{Among}
use Rattle.un_defs.proofs.Members.{among_from-filter, among-filter}
use Rattle.un_defs.proofs.Unique.{point_same}
use Rattle.un_defs.proofs.Near.{false_unless}
use Rattle.un_index.specs.Kept.{stars_of}
use Rattle.un_core.specs.Validation.{by_point}
use Rattle.un_core.proofs.LookUps.{Pairs, IsMap, is_at, at_point, found_at, table, missing}

abbrev pub is_nil : {A : Type 0} → List A → Bool
is_nil [] = true
is_nil (x ∷ xs) = false

abbrev pub is_nonempty : Point × Star → Bool
is_nonempty pair = not (is_nil pair.1.spots && is_nil pair.1.errors)

pub empty_otherwise : (star : Star) → not (is_nil star.spots && is_nil star.errors) ≡ false → star ≡ empty_star
empty_otherwise star e = go star.spots star.errors refl refl e
  where
    go : (spots : List Spot) (errors : List TopoError) → star.spots ≡ spots → star.errors ≡ errors → not (is_nil spots && is_nil errors) ≡ false → star ≡ empty_star
    go [] [] h g e = λ i. record { spots = h i; errors = g i }
    go [] (x ∷ xs) h g e = absurd (true≢false e)
    go (x ∷ xs) errors h g e = absurd (true≢false e)

pub nonempty_star : (pair : Point × Star) → is_nonempty pair ≡ true → pair.1 ≢ empty_star
nonempty_star pair t e = true≢false (sym t ∙ ap (λ star. not (is_nil star.spots && is_nil star.errors)) e)

pub stars_nonempty : (xs : Pairs) → IsMap xs → (p : Point) → stars_of (filter is_nonempty xs) p ≡ stars_of xs p
stars_nonempty xs ties p =
    elim (at_point xs p) [
      | inl r ↦ go r (is_nonempty r.0) refl
      | inr m ↦ missing (filter is_nonempty xs) p (λ pair i. m pair (among_from-filter is_nonempty xs pair i).0) ∙ sym (missing xs p m)
    ]
  where
    part : IsMap (filter is_nonempty xs)
    part a b k l e = ties a b (among_from-filter is_nonempty xs a k).0 (among_from-filter is_nonempty xs b l).0 e

    go : (r : (pair : Point × Star) × Among xs pair × (is_at p pair ≡ true)) (b : Bool) → is_nonempty r.0 ≡ b → stars_of (filter is_nonempty xs) p ≡ stars_of xs p
    go r true t =
        let at : r.0.0 ≡ p = point_same r.0.0 p r.2 in
        subst (λ q. stars_of (filter is_nonempty xs) q ≡ stars_of xs q) at (found_at (filter is_nonempty xs) part r.0 (among-filter is_nonempty xs r.0 r.1 t) ∙ sym (found_at xs ties r.0 r.1))
    go r false t =
        let at : r.0.0 ≡ p = point_same r.0.0 p r.2 in
        let there : stars_of xs p ≡ empty_star = ap (stars_of xs) (sym at) ∙ found_at xs ties r.0 r.1 ∙ empty_otherwise r.0.1 t in
        missing (filter is_nonempty xs) p (λ pair i. false_unless (is_at p pair) (λ here.
        let both = among_from-filter is_nonempty xs pair i in
        nonempty_star pair both.1 (sym (found_at xs ties pair both.0) ∙ ap (stars_of xs) (point_same pair.0 p here) ∙ there)))
        ∙ sym there

pub table_sorted : (f : Point → Star) (ps : List Point) → IsStrictlySortedBy point_cmp ps → IsStrictlySortedBy by_point (table f ps)
unfolding IsStrictlySortedBy
table_sorted f [] h = tt
table_sorted f (p ∷ ps) h = (over ps h.0, table_sorted f ps h.1)
  where
    over : (qs : List Point) → AllByRecursion (λ q. point_cmp p q ≡ Less) qs → AllByRecursion (λ pair. by_point (p, f p) pair ≡ Less) (table f qs)
    over [] h = tt
    over (q ∷ qs) h = (h.0, over qs h.1)
