-- Lists of kept stars, of which none is empty.
use Rattle.std.proofs.Common.{◌≡◌, ◌↔◌, ℕ, zero, suc, ◌+◌, ◌<◌, Bool, true, false, cond, ◌&&◌, ◌==◌, List, [], ◌∷◌, ◌++◌, map, flat_map, take, get_or, length, IsNone, unwrap_or, Option, Some, None, IfSome, IfNone, OnOk, OnErr, Result, Ok, Err, refl, sym, ◌∙◌, ap, subst, arith, append_assoc, eqb-true, true≢false}
use Rattle.std.specs.declared.cmp.Ordering.TheVariants.{Less, Equal, Greater}
use Rattle.std.specs.Ordering.{is_eq, match_ordering}
use Rattle.std.specs.Option.{option_copied}
use Rattle.std.specs.Map.{remove_entry}
use Rattle.std.specs.BTreeMap.{is_at, insert_entry}
use denote.Ref.{Bor}
use Rattle.un_geom.specs.declared.point.Point.{Point}
use Rattle.un_geom.specs.Places.{point_cmp, same_point}
use Rattle.un_points.specs.PointMaps.{value_at}
use Rattle.un_defs.specs.declared.star.Star.{Star}
use Rattle.un_defs.specs.declared.star.TopoError.{TopoError}
use Rattle.un_defs.specs.Star.{empty_star}
use Rattle.un_index.specs.Kept.{is_empty_star, stars_of, errors_of, AreStars}

nil_from_length : {A : Type 0} (l : List A) → length l ≡ 0 → l ≡ []
nil_from_length [] h = refl
nil_from_length (x ∷ l) h = absurd (omega arith)

both : (a b : Bool) → (a && b) ≡ true → (a ≡ true) × (b ≡ true)
both true b e = (refl, e)
both false b e = absurd (true≢false (sym e))

pub empty_is : (s : Star) → is_empty_star s ≡ true → s ≡ empty_star
empty_is s e =
    let parts = both (length s.spots == 0) (length s.errors == 0) e in
    let spots = nil_from_length s.spots (eqb-true (length s.spots) 0 parts.0) in
    let errors = nil_from_length s.errors (eqb-true (length s.errors) 0 parts.1) in
    λ i. record { spots = spots i; errors = errors i }

-- ---- what stays true

pub stars_put : (m : List (Point × Star)) (p : Point) (s : Star) → AreStars m → is_empty_star s ≡ false → AreStars (insert_entry point_cmp m p s)
stars_put [] p s h e = (e, tt)
stars_put (x ∷ m) p s h e = elim (point_cmp p x.0) as (λ r. AreStars (match_ordering r ((p, s) ∷ x ∷ m) ((x.0, s) ∷ m) (x ∷ insert_entry point_cmp m p s))) [ Less ↦ (e, h) | Equal ↦ (e, h.1) | Greater ↦ (h.0, stars_put m p s h.1 e) ]

pub stars_cut : (m : List (Point × Star)) (p : Point) → AreStars m → AreStars (remove_entry (is_at (point_cmp p)) m)
stars_cut [] p h = tt
stars_cut (x ∷ m) p h = elim (is_eq (point_cmp p x.0)) as (λ b. AreStars (cond b m (x ∷ remove_entry (is_at (point_cmp p)) m))) [ true ↦ h.1 | false ↦ (h.0, stars_cut m p h.1) ]

pub star_kept : (m : List (Point × Star)) (p : Point) (s : Star) → AreStars m → value_at p m ≡ Some s → is_empty_star s ≡ false
star_kept [] p s h e = cc
star_kept (x ∷ m) p s h e = by (same_point p x.0) e (star_kept m p s h.1)
  where
    by : (b : Bool) → cond b (Some x.1) (value_at p m) ≡ Some s → (value_at p m ≡ Some s → is_empty_star s ≡ false) → is_empty_star s ≡ false
    by true e ih = let same : x.1 ≡ s = cc in subst (λ t. is_empty_star t ≡ false) same h.0
    by false e ih = ih e

-- ---- look-ups

module _ (m : List (Point × Star)) (p : Point) where
  pub some_star : (r : Option (Bor Star)) → option_copied r ≡ value_at p m → IfSome r (λ s. s.now ≡ stars_of m p)
  some_star None e = tt
  some_star (Some s) e = ap (λ o. unwrap_or o empty_star) e

  pub none_star : (r : Option (Bor Star)) → option_copied r ≡ value_at p m → IfNone r (stars_of m p ≡ empty_star)
  none_star None e = sym (ap (λ o. unwrap_or o empty_star) e)
  none_star (Some s) e = tt

  pub some_not_empty : AreStars m → (s : Star) → Some s ≡ value_at p m → stars_of m p ≡ empty_star → ⊥
  some_not_empty h s e f =
      let same : s ≡ empty_star = ap (λ o. unwrap_or o empty_star) e ∙ f in
      true≢false (subst (λ t. is_empty_star t ≡ false) same (star_kept m p s h (sym e)))

  pub none_where_empty : (r : Option (Bor Star)) → AreStars m → option_copied r ≡ value_at p m → IsNone r ↔ (stars_of m p ≡ empty_star)
  none_where_empty None h e = ((λ _. none_star None e), (λ _. refl))
  none_where_empty (Some s) h e = ((λ n. cc), (λ f. absurd (some_not_empty h s.now e f)))

-- the star at each point, once that at p is another
unwrapped : {A : Type 0} (b : Bool) (x d : A) (o : Option A) → unwrap_or (cond b (Some x) o) d ≡ cond b x (unwrap_or o d)
unwrapped true x d o = refl
unwrapped false x d o = refl

emptied : {A : Type 0} (b : Bool) (d : A) (o : Option A) → unwrap_or (cond b None o) d ≡ cond b d (unwrap_or o d)
emptied true d o = refl
emptied false d o = refl

pub stars_with : (m n : List (Point × Star)) (p q : Point) (s : Star) → value_at q n ≡ cond (same_point q p) (Some s) (value_at q m) → stars_of n q ≡ cond (same_point q p) s (stars_of m q)
stars_with m n p q s e = ap (λ o. unwrap_or o empty_star) e ∙ unwrapped (same_point q p) s empty_star (value_at q m)

pub stars_without : (m n : List (Point × Star)) (p q : Point) (s : Star) → is_empty_star s ≡ true → value_at q n ≡ cond (same_point q p) None (value_at q m) → stars_of n q ≡ cond (same_point q p) s (stars_of m q)
stars_without m n p q s empty e =
    ap (λ o. unwrap_or o empty_star) e ∙ emptied (same_point q p) empty_star (value_at q m) ∙ ap (λ t. cond (same_point q p) t (stars_of m q)) (sym (empty_is s empty))

-- no star is empty after a change that leaves the old ones or gives the stars after it
pub kept_after : {A E : Type 0} (r : Result A E) (old new after : List (Point × Star)) → AreStars old → AreStars after → OnOk r (new ≡ after) → OnErr r (new ≡ old) → AreStars new
kept_after (Ok x) old new after was is ok err = subst AreStars (sym ok) is
kept_after (Err e) old new after was is ok err = subst AreStars (sym err) was

-- ---- errors, one star after another

module _ (rest left : List (Point × Star)) (e : Point × Star) (steps : rest ≡ e ∷ left) where
  pub more_errors : (all got more : List (Point × TopoError)) → got ++ flat_map errors_of rest ≡ all → more ≡ got ++ errors_of e → more ++ flat_map errors_of left ≡ all
  more_errors all got more h at_end =
      ap (λ l. l ++ flat_map errors_of left) at_end
      ∙ append_assoc got (errors_of e) (flat_map errors_of left)
      ∙ ap (λ l. got ++ flat_map errors_of l) (sym steps) ∙ h

-- one element more of a list that is added by mapping
taken_more : {A B : Type 0} (f : A → B) (xs : List A) (i : ℕ) (x : A) → i < length xs → x ≡ get_or xs i x → map f (take (suc i) xs) ≡ map f (take i xs) ++ f x ∷ []
taken_more f [] i x h e = absurd (omega arith)
taken_more f (y ∷ xs) zero x h e = ap (λ z. f z ∷ []) (sym e)
taken_more f (y ∷ xs) (suc i) x h e = ap (λ l. f y ∷ l) (taken_more f xs i x (omega arith) e)

pub added_more : {A B : Type 0} (f : A → B) (xs : List A) (old now new : List B) (i : ℕ) (x : A) → now ≡ old ++ map f (take i xs) → i < length xs → x ≡ get_or xs i x → new ≡ now ++ f x ∷ [] → new ≡ old ++ map f (take (i + 1) xs)
added_more f xs old now new i x is h e at_end =
    let next : suc i ≡ i + 1 = omega arith in
    at_end ∙ ap (λ l. l ++ f x ∷ []) is ∙ append_assoc old (map f (take i xs)) (f x ∷ []) ∙ ap (λ l. old ++ l) (sym (taken_more f xs i x h e)) ∙ ap (λ n. old ++ map f (take n xs)) next
