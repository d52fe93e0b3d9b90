-- What a batch leaves, told by its edits one after another.
use Rattle.std.proofs.Common.{◌≡◌, ℕ, suc, ◌+◌, ◌<◌, List, [], ◌∷◌, ◌++◌, length, get_or, drop, drop-cons, All, Some, None, true, refl, sym, ap, subst, ◌∙◌, arith}
use Rattle.std.specs.List.{list_all}
use Rattle.std.specs.Option.{option_map, option_map_or}
use Rattle.std.proofs.lemmas.List.{append_assoc, length-append}
use Rattle.std.proofs.lemmas.List.Elements.{All-nil, All-cons}
use Rattle.un_geom.specs.declared.point.Point.{Point}
use Rattle.un_geom.specs.Rectangle.{Rectangle}
use Rattle.un_defs.specs.declared.star.Star.{Star}
use Rattle.un_defs.specs.declared.edit.Edit.{Edit}
use Rattle.un_defs.specs.declared.refusal.Refusal.{Refusal}
use Rattle.un_defs.specs.Laws.{MayBeMade}
use Rattle.un_defs.specs.Dirtied.{dirtied}
use Rattle.un_defs.proofs.LinkCases.{both_true}
use Rattle.un_defs.specs.Refusing.{first_refusal}
use Rattle.un_dirty.specs.Areas.{DirtyList}
use Rattle.un_ask.specs.declared.stored.StoredSubnet.{StoredSubnet}
use Rattle.un_facts.specs.declared.ids.NextIds.{NextIds}
use Rattle.un_facts.specs.Known.{Known, settled_at as settled_known}
use Rattle.un_facts.specs.Refusals.{is_of_features}
use Rattle.un_core.specs.State.{State}
use Rattle.un_core.specs.Step.{setting, next_with, made_at, made_by_all, id_of, ids_of_all, touched, touched_by_all, settled_at, dirtied_by_batch, batched}
use Rattle.un_core.specs.Cover.{MayAllBeMade}
use Rattle.un_core.specs.Held.{held}
use Rattle.un_core.specs.Refusals.{beside_numbers, first_refused}

-- ---- edits

-- a batch that is known has edits of the features alone
pub all_of_features : (es : List Edit) → list_all is_of_features es ≡ true → All (λ e. is_of_features e ≡ true) es
all_of_features [] known = All-nil (λ e. is_of_features e ≡ true)
all_of_features (e ∷ es) known =
    let both = both_true (is_of_features e) (list_all is_of_features es) known in
    All-cons (λ e. is_of_features e ≡ true) e es both.0 (all_of_features es both.1)

-- ---- the areas

-- the numbers go on by as many as there are rectangles
pub made_areas : (s : State) (es : List Edit) → (made_by_all s es).next_area ≡ s.next_area + length (dirtied_by_batch s es)
made_areas s [] = omega arith
made_areas s (e ∷ es) =
    let rest : (made_by_all (made_at 0 s e) es).next_area ≡ s.next_area + length (dirtied s.features e) + length (dirtied_by_batch (made_at 0 s e) es) = made_areas (made_at 0 s e) es in
    omega (arith, rest, length-append (dirtied s.features e) (dirtied_by_batch (made_at 0 s e) es))

-- ---- a batch under way

-- the edits from a place on begin with the one at the place
pub cut_at : (es : List Edit) (place : ℕ) (e : Edit) → e ≡ get_or es place e → place < length es → drop place es ≡ e ∷ drop (place + 1) es
cut_at es place e is inside =
    let next : suc place ≡ place + 1 = omega arith in
    drop-cons es place e inside ∙ (λ i. sym is i ∷ drop (next i) es)

-- Once the edits before a place have left a state, with these ids and rectangles, what is left of the batch is made on that state.
pub record IsUnderWay (s : State) (es : List Edit) (place : ℕ) (t : State) (ids rows : List ℕ) (rects : List Rectangle) : Type 0 where
  pub left : made_by_all s es ≡ made_by_all t (drop place es)
  pub ids_are : ids_of_all s es ≡ ids ++ ids_of_all t (drop place es)
  pub touched : touched_by_all s es ≡ rows ++ touched_by_all t (drop place es)
  pub dirtied : dirtied_by_batch s es ≡ rects ++ dirtied_by_batch t (drop place es)
  pub refused : first_refused s 0 es ≡ first_refused t place (drop place es)
  pub may : MayAllBeMade t (drop place es) → MayAllBeMade s es

pub at_first : (s : State) (es : List Edit) → IsUnderWay s es 0 s [] [] []
at_first s es = record { left = refl; ids_are = refl; touched = refl; dirtied = refl; refused = refl; may = λ may. may }

module _ (s : State) (es : List Edit) (place : ℕ) (t : State) (ids rows : List ℕ) (rects : List Rectangle) (is : IsUnderWay s es place t ids rows rects)
    (e : Edit) (cut : drop place es ≡ e ∷ drop (place + 1) es) where
  -- one edit more
  pub one_more : (u : State) (id : ℕ) → u ≡ made_at 0 t e → id ≡ id_of t e → MayBeMade (setting t) (next_with t 0) t.features e → first_refusal (beside_numbers t e) ≡ None
      → IsUnderWay s es (place + 1) u (ids ++ id ∷ []) (rows ++ touched t e) (rects ++ dirtied t.features e)
  one_more u id u_is id_is may cause =
      let rest = drop (place + 1) es in
      record {
        left = is.left ∙ ap (made_by_all t) cut ∙ ap (λ v. made_by_all v rest) (sym u_is);
        ids_are = is.ids_are ∙ ap (λ l. ids ++ ids_of_all t l) cut ∙ (λ i. ids ++ (sym id_is i ∷ ids_of_all (sym u_is i) rest)) ∙ sym (append_assoc ids (id ∷ []) (ids_of_all u rest));
        touched = is.touched ∙ ap (λ l. rows ++ touched_by_all t l) cut ∙ ap (λ v. rows ++ (touched t e ++ touched_by_all v rest)) (sym u_is)
            ∙ sym (append_assoc rows (touched t e) (touched_by_all u rest));
        dirtied = is.dirtied ∙ ap (λ l. rects ++ dirtied_by_batch t l) cut ∙ ap (λ v. rects ++ (dirtied t.features e ++ dirtied_by_batch v rest)) (sym u_is)
            ∙ sym (append_assoc rects (dirtied t.features e) (dirtied_by_batch u rest));
        refused = is.refused ∙ ap (first_refused t place) cut ∙ ap (λ d. option_map_or (λ r. Some (place, r)) d (first_refused (made_at 0 t e) (place + 1) rest)) cause
            ∙ ap (λ v. first_refused v (place + 1) rest) (sym u_is);
        may = λ rest_may. is.may (subst (MayAllBeMade t) (sym cut) (may, subst (λ v. MayAllBeMade v rest) u_is rest_may));
      }

  -- the edit is refused, and the batch with it
  pub refused_here : (r : Refusal) → first_refusal (beside_numbers t e) ≡ Some r
      → (option_map (λ p. p.1) (first_refused s 0 es) ≡ Some r) × (option_map (λ p. p.0) (first_refused s 0 es) ≡ Some place)
  refused_here r cause =
      let whole : first_refused s 0 es ≡ Some (place, r) =
      is.refused ∙ ap (first_refused t place) cut ∙ ap (λ d. option_map_or (λ r. Some (place, r)) d (first_refused (made_at 0 t e) (place + 1) (drop (place + 1) es))) cause in
      (ap (option_map (λ p. p.1)) whole, ap (option_map (λ p. p.0)) whole)

-- ---- the moments

-- the state once the moments are settled
pub batched_is : (s : State) (es : List Edit) → (K : Known) (kept : List (Point × Star)) (dirty : DirtyList) (stored : List StoredSubnet) (version moment : ℕ) (ids : NextIds) (rows : List ℕ)
    → held K kept dirty stored version ids ≡ made_by_all s es → rows ≡ touched_by_all s es → moment ≡ s.version + 1
    → held (settled_known K rows moment) kept dirty stored moment ids ≡ batched s es
batched_is s es K kept dirty stored version moment ids rows made are moment_is =
    λ i. record (made i) { features = settled_at (moment_is i) (are i) (made i).features; version = moment_is i }
