use Rattle.std.proofs.Common.{◌≡◌, ◌+◌, ◌∷◌, ◌++◌, drop, refl, sym, subst, arith}
use Rattle.un_defs.specs.Dirtied.{dirtied}
use Rattle.un_core.specs.Step.{id_of, touched}
use Rattle.un_core.proofs.Batching.{IsUnderWay, cut_at, one_more, refused_here}
use Rattle.un_core.proofs.net.Net.make_all.Goals as goal

pub loop-place-preserved : goal.loop-place-preserved
loop-place-preserved c =
    let s = c.args.self.now in
    let es = c.args.edits.now in
    let place = c.loop-place.place in
    let before = c.loop-place.batched in
    let after = c.in-Ok.more in
    let t = before.net in
    let e = c.index-edits-place.result in
    let cut : drop place es ≡ e ∷ drop (place + 1) es = cut_at es place e c.index-edits-place.is c.loop-place-test.true in
    let further = one_more s es place t before.ids.items before.touched.items before.dirtied.items c.loop-place.invariant.under_way e cut after.net (id_of t e)
    c.in-Ok.ensures.net refl c.in-Ok.ensures.may c.in-Ok.ensures.good in
    record {
      under_way = subst (IsUnderWay s es (place + 1) after.net after.ids.items after.touched.items) (sym c.in-Ok.ensures.dirtied)
          (subst (λ rows. IsUnderWay s es (place + 1) after.net after.ids.items rows (before.dirtied.items ++ dirtied t.features e)) (sym c.in-Ok.ensures.touched)
          (subst (λ ids. IsUnderWay s es (place + 1) after.net ids (before.touched.items ++ touched t e) (before.dirtied.items ++ dirtied t.features e)) (sym c.in-Ok.ensures.ids) further));
      features = omega (arith, c.in-Ok.ensures.features, c.loop-place.invariant.features);
      associations = omega (arith, c.in-Ok.ensures.associations, c.loop-place.invariant.associations);
      areas = omega (arith, c.in-Ok.ensures.areas.given, c.loop-place.invariant.areas);
      few = c.in-Ok.ensures.areas.few;
    }

pub returns-in-Err-clause-bad : goal.returns-in-Err-clause-bad
returns-in-Err-clause-bad c = λ other.
    let before = c.loop-place.batched in
    let e = c.index-edits-place.result in
    refused_here c.args.self.now c.args.edits.now c.loop-place.place before.net before.ids.items before.touched.items before.dirtied.items c.loop-place.invariant.under_way e
    (cut_at c.args.edits.now c.loop-place.place e c.index-edits-place.is c.loop-place-test.true) c.in-Err.refusal (c.in-Err.ensures.bad other)
