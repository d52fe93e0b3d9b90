-- Rectangles are compared by their sides, so equal ones are one; and what lists of them cover.
use Rattle.std.proofs.Common.{◌≡◌, ◌&&◌, ◌||◌, ℕ, Bool, true, false, List, ◌++◌, map, refl, sym, ap, ◌∙◌, Contains}
use Rattle.std.specs.Ordering.{int_eq}
use Rattle.std.specs.Cmp.{IsEquivalence}
use Rattle.std.specs.List.{list_any, dedup}
use Rattle.std.specs.List.Sorted.{IsPermutation}
use Rattle.std.proofs.lemmas.List.Folds.{list_any-append}
use Rattle.std.proofs.lemmas.List.Kept.{Contains-dedup, Contains-from_dedup}
use Rattle.std.proofs.lemmas.List.Sorted.{Contains-permutation, IsPermutation-sym}
use Rattle.un_geom.specs.contracts.rect.RectPartialEq.TheImpl as equal
use Rattle.un_geom.specs.declared.point.Point.{Point}
use Rattle.un_geom.specs.Rectangle.{Rectangle}
use Rattle.un_geom.specs.Places.{covers}
use Rattle.un_defs.proofs.LinkCases.{both_true, true_both}
use Rattle.un_defs.proofs.ListLemmas.{any-map}
use Rattle.un_defs.proofs.Members.{among_from_contains, contains_from_among, list_any_from_among, among_from_list_any}
use Rattle.un_defs.proofs.Unique.{int_same, int_itself}
use Rattle.un_dirty.specs.Areas.{areas_gone}
use Rattle.un_subnet.proofs.Either.{same_truth}
use Rattle.un_core.specs.State.{State}
use Rattle.un_core.specs.Changes.{is_cleared, covers_any, HasRectangles}

-- ---- equal rectangles

abbrev same_rect : Rectangle → Rectangle → Bool
same_rect r s = int_eq r.x0 s.x0 && (int_eq r.y0 s.y0 && (int_eq r.x1 s.x1 && int_eq r.y1 s.y1))

pub rects_alike : equal.ghosts.eq ≡ same_rect
rects_alike = refl

rect_same : (r s : Rectangle) → same_rect r s ≡ true → r ≡ s
rect_same r s e =
    let left = both_true (int_eq r.x0 s.x0) (int_eq r.y0 s.y0 && (int_eq r.x1 s.x1 && int_eq r.y1 s.y1)) e in
    let low = both_true (int_eq r.y0 s.y0) (int_eq r.x1 s.x1 && int_eq r.y1 s.y1) left.1 in
    let high = both_true (int_eq r.x1 s.x1) (int_eq r.y1 s.y1) low.1 in
    let x0 = int_same r.x0 s.x0 left.0 in
    let y0 = int_same r.y0 s.y0 low.0 in
    let x1 = int_same r.x1 s.x1 high.0 in
    let y1 = int_same r.y1 s.y1 high.1 in
    λ i. record { x0 = x0 i; y0 = y0 i; x1 = x1 i; y1 = y1 i }

rect_itself : (r : Rectangle) → same_rect r r ≡ true
rect_itself r = true_both _ _ (int_itself r.x0) (true_both _ _ (int_itself r.y0) (true_both _ _ (int_itself r.x1) (int_itself r.y1)))

turned : (r s : Rectangle) → same_rect r s ≡ true → same_rect s r ≡ true
turned r s e = ap (λ q. same_rect s q) (rect_same r s e) ∙ rect_itself s

equivalence : IsEquivalence same_rect
equivalence = record {
  refl = rect_itself;
  symm = λ r s. same_truth (same_rect r s) (same_rect s r) (turned r s) (turned s r);
  congr = λ r s q e. ap (λ z. same_rect z q) (rect_same r s e);
}

-- a list that is sorted, and then has each of several equal ones once, has the same rectangles
module _ (rects moved left : List Rectangle) (permuted : IsPermutation rects moved) (is : left ≡ dedup same_rect moved) (r : Rectangle) where
  pub among_left : Contains rects r → Contains left r
  among_left h = rw is (Contains-dedup equivalence rect_same moved r (Contains-permutation rects moved r permuted h))

  pub from_left : Contains left r → Contains rects r
  from_left h = Contains-permutation moved rects r (IsPermutation-sym rects moved permuted) (Contains-from_dedup same_rect moved r (rw is at h))

-- ---- what they cover

-- a list that has the rectangles of another covers what that one covers
covers_more : (rects more : List Rectangle) → ((r : Rectangle) → Contains rects r → Contains more r) → (p : Point) → covers_any rects p ≡ true → covers_any more p ≡ true
covers_more rects more has p h =
    let found = among_from_list_any (λ r. covers r p) rects h in
    list_any_from_among (λ r. covers r p) more found.0 (among_from_contains more found.0 (has found.0 (contains_from_among rects found.0 found.1))) found.2

or_true : (a b c d : Bool) → a ≡ c → b ≡ d → (a || b) ≡ true → (d || c) ≡ true
or_true a b c d e f h = ap (λ x. d || x) (sym e) ∙ ap (λ x. x || a) (sym f) ∙ turn a b h
  where
    turn : (a b : Bool) → (a || b) ≡ true → (b || a) ≡ true
    turn true true h = refl
    turn true false h = refl
    turn false true h = refl
    turn false false h = h

-- the marks, and then the cleared areas
pub has_rectangles : (s t : State) (marks all left : List Rectangle) (gone : List (ℕ × Rectangle)) → gone ≡ areas_gone s.areas t.areas → all ≡ marks ++ map (λ a. a.1) gone
    → ((r : Rectangle) → Contains all r → Contains left r) → HasRectangles s marks t left
has_rectangles s t marks all left gone are is has p h =
    covers_more all left has p
    (ap (λ l. covers_any l p) is
    ∙ list_any-append (λ r. covers r p) marks (map (λ a. a.1) gone)
    ∙ or_true (is_cleared s t p) (covers_any marks p) (covers_any (map (λ a. a.1) gone) p) (covers_any marks p)
    (sym (any-map (λ (a : ℕ × Rectangle). a.1) (λ r. covers r p) gone ∙ ap (list_any (λ a. covers a.1 p)) are)) refl h)
