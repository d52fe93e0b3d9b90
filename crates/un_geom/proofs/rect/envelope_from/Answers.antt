use Rattle.std.proofs.Common.{◌≡◌, arith, rules, take}
use Rattle.std.proofs.lemmas.Grind.{common_steps}
use Rattle.un_geom.proofs.Envelopes.{least_step, greatest_step, ends_bounded}
use Rattle.un_geom.proofs.rect.envelope_from.Goals as goal

pub loop-p-preserved : goal.loop-p-preserved
loop-p-preserved c =
    let p = c.args.first in
    let ps = c.args.rest.now in
    let i = c.loop-p.p-index in
    record {
      west = least_step (λ q. q.x) p.x ps i _ _ c.loop-p-test.true (cc) c.min-x0.ensures.value (search rules) (search rules);
      south = least_step (λ q. q.y) p.y ps i _ _ c.loop-p-test.true (cc) c.min-y0.ensures.value (search rules) (search rules);
      east = greatest_step (λ q. q.x) p.x ps i _ _ c.loop-p-test.true (cc) c.max-x1.ensures.value (search rules) (search rules);
      north = greatest_step (λ q. q.y) p.y ps i _ _ c.loop-p-test.true (cc) c.max-y1.ensures.value (search rules) (search rules);
    }

pub invariant_of-result : goal.invariant_of-result
invariant_of-result c =
    let all : take c.loop-p.p-index c.args.rest.now ≡ c.args.rest.now = grind (arith, common_steps) in
    ends_bounded c.args.first c.args.rest.now _ _ _ _ c.requires.first c.requires.rest (cc)
