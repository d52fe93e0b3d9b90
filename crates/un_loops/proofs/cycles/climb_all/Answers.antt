use Rattle.std.proofs.Common.{◌≡◌, ◌+◌, Bool, true, false, not, Option, None, Some, inl, inr, is_some, refl, sym, ap, subst, ◌∙◌}
use Rattle.std.specs.Prelude.{MatchOption}
use Rattle.un_loops.specs.Forest.{IsParentLink}
use Rattle.un_loops.specs.Heads.{AreHeads, AreSpanned}
use Rattle.un_loops.proofs.Deciding.{spanned_more}
use Rattle.un_loops.proofs.cycles.climb_all.Goals as goal
use Rattle.un_loops.proofs.cycles.climb_all.Goals.{then-is_none, else-is_none}

at_none : {X : Type 0} (o : Option X) (b : Bool) (P : Type 0) (Q : X → Type 0) → is_some o ≡ not b → b ≡ true → MatchOption o P Q → P
at_none None b P Q is on h = h
at_none (Some x) b P Q is on h = let off : is_some (Some x) ≡ false = is ∙ ap not on in absurd (cc)

at_some : {X : Type 0} (o : Option X) (b : Bool) (P : Type 0) (Q : X → Type 0) → is_some o ≡ not b → b ≡ false → MatchOption o P Q → (x : X) × Q x
at_some (Some x) b P Q is on h = (x, h)
at_some {X} None b P Q is on h = let some : is_some {T = X} None ≡ true = is ∙ ap not on in absurd (cc)

pub climb-requires-clause-chord : goal.climb-requires-clause-chord
climb-requires-clause-chord c = at_none c.child_end.result c.is_none.result _ _ c.is_none.ensures c.if-is_none.true c.child_end.ensures

pub loop-index-preserved : goal.loop-index-preserved
loop-index-preserved c =
    let links = c.args.links.now in
    let parents = c.args.parents.now in
    let k = c.loop-index.index in
    let i = c.loop-index.invariant in
    elim c.if-is_none.branch [
      | then-is_none w ↦ record {
        heads = subst (AreHeads links parents) (sym w.heads-is) w.climb.ensures.heads;
        spanned = subst (λ h. AreSpanned links parents h (k + 1)) (sym w.heads-is)
            (spanned_more links parents c.loop-index.heads w.climb.new.heads k (k + 1) refl i.spanned w.climb.ensures.kept (λ l at. inr (w.climb.ensures.closed l at)));
      }
      | else-is_none w ↦
          let way = at_some c.child_end.result c.is_none.result _ _ c.is_none.ensures w.if-is_none.false c.child_end.ensures in
          let here : IsParentLink parents k = (way.0, way.1.0, way.1.1, way.1.2, way.1.3) in
          record {
            heads = subst (AreHeads links parents) (sym w.heads-is) i.heads;
            spanned = subst (λ h. AreSpanned links parents h (k + 1)) (sym w.heads-is)
                (spanned_more links parents c.loop-index.heads c.loop-index.heads k (k + 1) refl i.spanned (λ j m. m) (λ l at. inl here));
          }
    ]
