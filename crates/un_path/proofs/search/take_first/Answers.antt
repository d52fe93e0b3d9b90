use Rattle.std.proofs.Common.{List, ◌∷◌, inl, inr, refl, sym, subst, arith}
use Rattle.std.specs.declared.cmp.Reverse.{Reverse}
use Rattle.std.specs.List.Sorted.{IsPermutation}
use Rattle.std.proofs.lemmas.List.Sorted.{IsPermutation-sym}
use Rattle.un_path.specs.declared.search.Coming.{Coming}
use Rattle.un_path.specs.Search.{IsSettledAt}
use Rattle.un_path.proofs.Pushing.{in_pushed, pushed_in}
use Rattle.un_path.proofs.Searching.{least_by}
use Rattle.un_path.proofs.search.take_first.Goals as goal

pub is_free-requires : goal.is_free-requires
is_free-requires c =
    let before : List (Reverse Coming) = c.loop-coming.pending.data.items in
    let after : List (Reverse Coming) = c.pop.new.self.data.items in
    let x : Coming = c.in-Some.field-0.0 in
    let same : IsPermutation (record { 0 = x } ∷ after) before = IsPermutation-sym _ _ c.in-Some.ensures.permutation in
    c.requires.inside x (c.loop-coming.invariant.only x (pushed_in after before x x same (inr refl)))

pub returns-then-is_free-clause-some : goal.returns-then-is_free-clause-some
returns-then-is_free-clause-some c =
    let before : List (Reverse Coming) = c.loop-coming.pending.data.items in
    let after : List (Reverse Coming) = c.pop.new.self.data.items in
    let x : Coming = c.in-Some.field-0.0 in
    let same : IsPermutation (record { 0 = x } ∷ after) before = IsPermutation-sym _ _ c.in-Some.ensures.permutation in
    record {
      was = c.loop-coming.invariant.only x (pushed_in after before x x same (inr refl));
      free = c.if-is_free.ensures;
      left = λ e pending. elim (c.loop-coming.invariant.left e pending) [
        | inl still ↦ elim (in_pushed after before x e same still) [ inl rest ↦ inr (inl rest) | inr is ↦ inl is ]
        | inr settled ↦ inr (inr settled)
      ];
      only = λ e pending. c.loop-coming.invariant.only e (pushed_in after before x e same (inl pending));
      least = least_by after (record { 0 = x }) (c.in-Some.ensures.below_top c.loop-coming.invariant.heap);
    }

pub loop-coming-preserved : goal.loop-coming-preserved
loop-coming-preserved c =
    let before : List (Reverse Coming) = c.loop-coming.pending.data.items in
    let after : List (Reverse Coming) = c.pop.new.self.data.items in
    let x : Coming = c.in-Some.field-0.0 in
    let same : IsPermutation (record { 0 = x } ∷ after) before = IsPermutation-sym _ _ c.in-Some.ensures.permutation in
    record {
      heap = (c.in-Some.ensures.heap_order c.loop-coming.invariant.heap).0;
      left = λ e pending. elim (c.loop-coming.invariant.left e pending) [
        | inl still ↦ elim (in_pushed after before x e same still) [ inl rest ↦ inl rest | inr is ↦ inr (subst (λ (y : Coming). IsSettledAt c.args.arrivals.now y.place) (sym is) c.if-is_free.ensures) ]
        | inr settled ↦ inr settled
      ];
      only = λ e pending. c.loop-coming.invariant.only e (pushed_in after before x e same (inl pending));
    }

pub returns-clause-none : goal.returns-clause-none
returns-clause-none c = λ e pending.
    let count = c.loop-coming.pending.data.ok in
    let none = c.in_default.ensures.none in
    elim (c.loop-coming.invariant.left e pending) [
      | inl still ↦ absurd (omega (arith, still.1, count.0, none))
      | inr settled ↦ settled
    ]
