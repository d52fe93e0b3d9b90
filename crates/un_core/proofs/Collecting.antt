-- The points at which one of two topologies keeps a star, collected rectangle by rectangle, have each one that has changed.
use Rattle.std.proofs.Common.{◌≡◌, ◌≢◌, ◌||◌, Bool, true, false, true≢false, cond, List, [], ◌∷◌, ◌++◌, map, Option, None, Some, unwrap_or, All, Contains, ◌⊎◌, inl, inr, refl, sym, ap, ◌∙◌}
use Rattle.std.specs.List.Sorted.{IsStrictlySortedBy}
use Rattle.std.specs.Map.{lookup}
use Rattle.std.proofs.lemmas.List.Folds.{list_any-append}
use Rattle.un_geom.specs.declared.point.Point.{Point}
use Rattle.un_geom.specs.Rectangle.{Rectangle}
use Rattle.un_geom.specs.Places.{point_cmp, same_point, covers}
use Rattle.un_points.specs.PointMaps.{value_at, covered}
use Rattle.un_schema.specs.Sound.{IsCatalog}
use Rattle.un_defs.specs.declared.star.Star.{Star}
use Rattle.un_defs.specs.Star.{empty_star}
use Rattle.un_defs.proofs.LinkCases.{some_same}
use Rattle.un_defs.proofs.Members.{contains_from_among}
use Rattle.un_defs.proofs.Rising.{Among}
use Rattle.un_defs.proofs.Unique.{from_all}
use Rattle.un_index.specs.Kept.{stars_of}
use Rattle.un_facts.proofs.Placed.{is_there, covered_there}
use Rattle.un_core.specs.State.{State}
use Rattle.un_core.specs.Cover.{IsState}
use Rattle.un_core.specs.Preparing.{is_touched}
use Rattle.un_core.specs.Changes.{is_cleared, may_differ, covers_any, HasChanged, HasRectangles, HasKept}
use Rattle.un_core.proofs.Elsewhere.{kept_elsewhere}
use Rattle.un_core.proofs.MarksOf.{any_flat}
use Rattle.un_rebuild.proofs.Pointed.{put_all, put_old, put_new, sorted_put, sorted_none, or_cases}

-- ---- rectangle by rectangle

-- the set has the points under the rectangles so far, and is in order
pub record IsCollected (old new : List (Point × Star)) (rects : List Rectangle) (set : List Point) : Type 0 where
  pub whole : (p : Point) → covers_any rects p ≡ true → Among set p ⊎ ((value_at p old ≡ None) × (value_at p new ≡ None))
  pub sorted : IsStrictlySortedBy point_cmp set

module _ (old new : List (Point × Star)) where
  pub collected_none : IsCollected old new [] []
  collected_none = record { whole = λ p h. absurd (true≢false (sym h)); sorted = sorted_none }

  split : (rects : List Rectangle) (r : Rectangle) (p : Point) → covers_any (rects ++ r ∷ []) p ≡ (covers_any rects p || covers r p)
  split rects r p = list_any-append (λ r. covers r p) rects (r ∷ []) ∙ ap (λ b. covers_any rects p || b) (or_false (covers r p))
    where
      or_false : (b : Bool) → (b || false) ≡ b
      or_false true = refl
      or_false false = refl

  pub collected_more : (rects : List Rectangle) (r : Rectangle) (set : List Point) → IsCollected old new rects set
      → IsCollected old new (rects ++ r ∷ []) (put_all (put_all set (map (λ e. e.0) (covered r old))) (map (λ e. e.0) (covered r new)))
  collected_more rects r set is =
      let here : List Point = map (λ e. e.0) (covered r old) in
      let there : List Point = map (λ e. e.0) (covered r new) in
      record {
        whole = λ p h. elim (or_cases (covers_any rects p) (covers r p) (sym (split rects r p) ∙ h)) [
          | inl u ↦ elim (is.whole p u) [ inl i ↦ inl (put_old (put_all set here) there p (put_old set here p i)) | inr none ↦ inr none ]
          | inr c ↦ elim (is_there old p) [
            | inl i ↦ inl (put_old (put_all set here) there p (put_new set here p (covered_there r old p c i)))
            | inr m ↦ elim (is_there new p) [
              | inl i ↦ inl (put_new (put_all set here) there p (covered_there r new p c i))
              | inr n ↦ inr (m, n)
            ]
          ]
        ];
        sorted = sorted_put (put_all set here) there (sorted_put set here is.sorted);
      }

  pub has_kept : (rects : List Rectangle) (set : List Point) → IsCollected old new rects set → HasKept old new rects set
  has_kept rects set is p h = elim (is.whole p h) [ inl i ↦ inl (contains_from_among set p i) | inr none ↦ inr none ]

-- ---- stars that are kept

-- a star that is found at a point is one of the pairs
found_pair : (kept : List (Point × Star)) (p : Point) (star : Star) → value_at p kept ≡ Some star → (pair : Point × Star) × Among kept pair × (pair.1 ≡ star)
found_pair [] p star e = absurd (none_some e)
  where
    none_some : {A : Type 0} {x : A} → None ≡ Some x → ⊥
    none_some e = cc
found_pair (x ∷ kept) p star e = go (same_point p x.0) e (found_pair kept p star)
  where
    go : (b : Bool) → cond b (Some x.1) (lookup (same_point p) kept) ≡ Some star
        → (value_at p kept ≡ Some star → (pair : Point × Star) × Among kept pair × (pair.1 ≡ star))
        → (pair : Point × Star) × Among (x ∷ kept) pair × (pair.1 ≡ star)
    go true e rest = (x, inl refl, some_same x.1 star e)
    go false e rest = let r = rest e in (r.0, inr r.1, r.2)

-- two topologies without empty stars that have one star at a point keep the same there
same_value : (old new : List (Point × Star)) → All (λ pair. pair.1 ≢ empty_star) old → All (λ pair. pair.1 ≢ empty_star) new → (p : Point)
    → stars_of old p ≡ stars_of new p → value_at p old ≡ value_at p new
same_value old new olds news p e = go (value_at p old) (value_at p new) refl refl e
  where
    go : (a b : Option Star) → value_at p old ≡ a → value_at p new ≡ b → unwrap_or a empty_star ≡ unwrap_or b empty_star → a ≡ b
    go None None f g e = refl
    go None (Some y) f g e = let r = found_pair new p y g in absurd (from_all (λ pair. pair.1 ≢ empty_star) new news r.0 r.1 (r.2 ∙ sym e))
    go (Some x) None f g e = let r = found_pair old p x f in absurd (from_all (λ pair. pair.1 ≢ empty_star) old olds r.0 r.1 (r.2 ∙ e))
    go (Some x) (Some y) f g e = ap Some e

-- ---- what has changed

pub has_changed : (s t : State) → IsState s → IsCatalog s.setup.schema → IsState t → (marks rects : List Rectangle) (points : List Point)
    → HasRectangles s marks t rects → HasKept s.kept t.kept rects points → HasChanged s marks t points
has_changed s t is schema next marks rects points cover kept es are leads p differs = go (may_differ s es t p) refl
  where
    touched : covers_any marks p ≡ is_touched es p
    touched = ap (λ l. covers_any l p) are ∙ any_flat p es

    go : (b : Bool) → may_differ s es t p ≡ b → Contains points p
    go false e = absurd (differs (same_value s.kept t.kept is.nonempty next.nonempty p (sym (kept_elsewhere s t es is schema leads p e))))
    go true e = elim (kept p (cover p (ap (λ b. is_cleared s t p || b) touched ∙ e))) [
      | inl i ↦ i
      | inr none ↦ absurd (differs (none.0 ∙ sym none.1))
    ]
