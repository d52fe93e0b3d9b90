use Rattle.std.proofs.Common.{ℕ, List, length, ap, arith, subst, sym}
use Rattle.std.proofs.lemmas.List.{length_push}
use Rattle.smallvec.specs.SmallVec.{SmallVec}
use Rattle.un_isolate.specs.Links.{HasLink}
use Rattle.un_isolate.proofs.Linking.{empty_more}
use Rattle.un_isolate.proofs.links.no_links.Goals as goal

pub loop-place-preserved : goal.loop-place-preserved
loop-place-preserved c =
    let old = c.loop-place.links.items in
    let e = c.in_ok-push.ensures in
    record {
      count = omega (arith, ap length e.items, length_push old c.new.result, c.loop-place.invariant.count);
      empty = subst (λ (links : List (SmallVec ℕ)). (i j : ℕ) → HasLink links i j → ⊥) (sym e.items) (empty_more old c.new.result c.new.ensures.items c.loop-place.invariant.empty);
    }
