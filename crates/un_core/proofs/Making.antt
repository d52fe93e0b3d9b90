-- What an edit leaves of a state, by the parts of a network.
use Rattle.std.proofs.Common.{◌≡◌, ℕ, ◌+◌, ◌≤◌, List, [], ◌∷◌, ◌++◌, length, Option, None, Some, refl, sym, ap, subst, ◌∙◌, arith}
use Rattle.std.specs.Prelude.{nat_lt, false}
use Rattle.std.specs.List.{enumerate_from}
use Rattle.std.proofs.lemmas.Bool.Decides.{nat_tests}
use Rattle.std.proofs.lemmas.List.{length-append}
use Rattle.un_geom.specs.declared.point.Point.{Point}
use Rattle.un_geom.specs.Rectangle.{Rectangle}
use Rattle.un_defs.specs.declared.star.Star.{Star}
use Rattle.un_defs.specs.declared.edit.Edit.{Edit}
use Rattle.un_defs.specs.declared.edit.Edit.TheVariants as edit
use Rattle.un_defs.specs.declared.refusal.Refusal.{Refusal}
use Rattle.un_defs.specs.declared.refusal.Refusal.TheVariants as refusal
use Rattle.un_defs.specs.declared.refusal.Limit.TheVariants as limit
use Rattle.un_defs.specs.Refusing.{first_refusal, refused_if}
use Rattle.un_defs.specs.Dirtied.{dirtied}
use Rattle.un_defs.specs.Change.{Next, after}
use Rattle.un_defs.specs.Laws.{AreNew, MayBeMade}
use Rattle.un_dirty.specs.Areas.{DirtyList, added}
use Rattle.un_ask.specs.declared.stored.StoredSubnet.{StoredSubnet}
use Rattle.un_facts.specs.declared.ids.NextIds.{NextIds}
use Rattle.un_facts.specs.Known.{Known, next_at, edited}
use Rattle.un_core.specs.State.{State}
use Rattle.un_core.specs.Step.{setting, next_with, next_of, made_at}
use Rattle.un_core.specs.Cover.{IsState}
use Rattle.un_core.specs.Held.{held}
use Rattle.un_core.specs.Making.{AreasGrow, FeaturesGrow, AssociationsGrow, with_parts}
use Rattle.un_core.specs.Refusals.{numbers_refusal, most_areas, too_many, beside_numbers, edit_refusal}
use Rattle.un_core.proofs.CoverKept.{made_state, same_ids}
use Rattle.std.proofs.lemmas.List.FromFn.{length-enumerate_from}

-- ---- the areas

-- where there are few areas, no rectangles are not too many
pub too_many_is : (areas : List (ℕ × Rectangle)) (rects : List Rectangle) → length areas ≤ most_areas
    → too_many areas rects ≡ refused_if (nat_lt most_areas (length areas + length rects)) (refusal.Full limit.Areas)
too_many_is areas [] few = ap (λ b. refused_if b (refusal.Full limit.Areas)) (sym room)
  where
    room : nat_lt most_areas (length areas + 0) ≡ false
    room = grind (arith, nat_tests)
too_many_is areas (r ∷ rs) few = refl

-- ---- the ids

-- the ids after an edit, whatever the moment
after_moment : (ids : NextIds) (moment : ℕ) (e : Edit) → record (after (next_at ids 0) e) { moment = moment } ≡ after (next_at ids moment) e
after_moment ids moment (edit.Insert kind points attrs flow ends note) = refl
after_moment ids moment (edit.Connect from to) = refl
after_moment ids moment (edit.Contain container content) = refl
after_moment ids moment (edit.Attach structure content) = refl
after_moment ids moment _ = refl

feature_grows : (ids : NextIds) (e : Edit) → (after (next_at ids 0) e).feature ≤ ids.feature + 1
feature_grows ids (edit.Insert kind points attrs flow ends note) = omega arith
feature_grows ids _ = omega arith

association_grows : (ids : NextIds) (e : Edit) → (after (next_at ids 0) e).association ≤ ids.association + 1
association_grows ids (edit.Connect from to) = omega arith
association_grows ids (edit.Contain container content) = omega arith
association_grows ids (edit.Attach structure content) = omega arith
association_grows ids _ = omega arith

-- ---- the state

module _ (K : Known) (kept : List (Point × Star)) (dirty : DirtyList) (stored : List StoredSubnet) (version : ℕ) (ids : NextIds) (moment : ℕ) (e : Edit) where
  abbrev s : State
  s = held K kept dirty stored version ids

  -- the ids that come next are new at each moment
  pub new : IsState s → AreNew (next_at ids moment) K.features
  new is = same_ids (next_of s) (next_at ids moment) K.features refl refl is.fresh_ids

  -- what is left, in a state that is this one
  module _ (left : Known) (dirty_left : DirtyList) (ids_left : NextIds)
      (left_is : left ≡ edited K ids moment e) (dirty_is : dirty_left ≡ added dirty (dirtied K.features e)) (ids_are : next_at ids_left 0 ≡ after (next_at ids 0) e)
      (t : State) (same : s ≡ t) where
    abbrev parts : Known → DirtyList → Next → State
    parts L areas next = record s {
      setup = L.setup;
      features = L.features;
      areas = areas.areas;
      next_area = areas.next;
      next_feature = next.feature;
      next_association = next.association;
    }

    abbrev left_of : State → State
    left_of u = with_parts u left dirty_left ids_left

    state_here : left_of s ≡ made_at moment s e
    state_here =
        let next : next_at ids_left moment ≡ after (next_at ids moment) e = ap (λ (n : Next). record n { moment = moment }) ids_are ∙ after_moment ids moment e in
        λ i. parts (left_is i) (dirty_is i) (next i)

    pub state_is : left_of t ≡ made_at moment t e
    state_is = subst (λ (u : State). left_of u ≡ made_at moment u e) same state_here

    pub is_state : IsState s → MayBeMade (setting s) (next_with s moment) s.features e → IsState (left_of t)
    is_state is may = subst (λ (u : State). IsState (left_of u)) same (subst IsState (sym state_here) (made_state s is moment e may))

    pub features_grow : FeaturesGrow t (left_of t)
    features_grow = subst (λ (u : State). FeaturesGrow u (left_of u)) same
        (let is = ap (λ (n : Next). n.feature) ids_are in let grows = feature_grows ids e in omega (arith, is, grows))

    pub associations_grow : AssociationsGrow t (left_of t)
    associations_grow = subst (λ (u : State). AssociationsGrow u (left_of u)) same
        (let is = ap (λ (n : Next). n.association) ids_are in let grows = association_grows ids e in omega (arith, is, grows))

    areas_grow_here : length dirty_left.areas ≤ 65536 → AreasGrow s (left_of s)
    areas_grow_here few = record {
      given =
          let rects = dirtied K.features e in
          let next : dirty_left.next ≡ dirty.next + length rects = ap (λ (d : DirtyList). d.next) dirty_is in
          let areas : length dirty_left.areas ≡ length (dirty.areas ++ enumerate_from dirty.next rects) = ap (λ (d : DirtyList). length d.areas) dirty_is in
          let counted = length-append dirty.areas (enumerate_from dirty.next rects) in
          let as_many = length-enumerate_from dirty.next rects in
          omega (arith, next, areas, counted, as_many);
      few = few;
    }

    pub areas_grow : length dirty_left.areas ≤ 65536 → AreasGrow t (left_of t)
    areas_grow few = subst (λ (u : State). AreasGrow u (left_of u)) same (areas_grow_here few)

-- ---- refusals

-- beside the numbers, an edit is refused for what it does to the features, and then for the areas
pub two_none : (a b : Option Refusal) → a ≡ None → b ≡ None → first_refusal (a ∷ b ∷ []) ≡ None
two_none a b p q = (λ i. first_refusal (p i ∷ q i ∷ []))

pub two_first : (a b : Option Refusal) (r : Refusal) → a ≡ Some r → first_refusal (a ∷ b ∷ []) ≡ Some r
two_first a b r p = (λ i. first_refusal (p i ∷ b ∷ []))

pub two_second : (a b : Option Refusal) (r : Refusal) → a ≡ None → b ≡ Some r → first_refusal (a ∷ b ∷ []) ≡ Some r
two_second a b r p q = (λ i. first_refusal (p i ∷ q i ∷ []))

-- the numbers are looked at first
pub edit_bad : (s : State) (e : Edit) (r : Refusal) → numbers_refusal s ≡ Some r → edit_refusal s e ≡ Some r
edit_bad s e r cause = λ i. first_refusal (cause i ∷ beside_numbers s e)

pub edit_beside : (s : State) (e : Edit) (d : Option Refusal) → numbers_refusal s ≡ None → first_refusal (beside_numbers s e) ≡ d → edit_refusal s e ≡ d
edit_beside s e d none beside = (λ i. first_refusal (none i ∷ beside_numbers s e)) ∙ beside
