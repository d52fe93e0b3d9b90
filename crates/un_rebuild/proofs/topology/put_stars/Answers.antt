use Rattle.std.proofs.Common.{◌≡◌, ◌+◌, pos, get_or, take, length, sym, ap, ◌∙◌, subst}
use Rattle.std.specs.Arc.{arc_value}
use Rattle.std.specs.List.{sum_by}
use Rattle.std.proofs.lemmas.List.{take_more}
use Rattle.un_geom.specs.declared.point.Point.{Point}
use Rattle.un_defs.specs.declared.star.Star.{Star}
use Rattle.un_facts.specs.Known.{Known}
use Rattle.un_rebuild.specs.Rebuilding.{fresh_at, AreRebuilt}
use Rattle.un_rebuild.proofs.Replaced.{replaced_more, errors_more, kept_is}
use Rattle.un_rebuild.proofs.topology.put_stars.Goals as goal

pub loop-point-preserved : goal.loop-point-preserved
loop-point-preserved c =
    let K : Known = c.args.facts.now in
    let kept = c.args.kept.now in
    let k = c.loop-point.point-index in
    let p : Point = get_or c.args.points.now k (record { x = pos 0; y = pos 0; z = pos 0 }) in
    let before = take k c.args.points.now in
    let more = take_more c.args.points.now k (record { x = pos 0; y = pos 0; z = pos 0 }) c.loop-point-test.true in
    let built : Star = arc_value c.in_ok-star.star in
    let is : built ≡ fresh_at K p = c.in_ok-star.ensures in (
      subst (λ ps. AreRebuilt K kept ps c.put.new.self) (sym more)
          (replaced_more K kept before p c.loop-point.fresh c.put.new.self built c.loop-point.invariant.0 is c.in_ok-put.ensures.stars),
      errors_more K before p built c.loop-point.errors c.in_ok-errors.errors c.loop-point.invariant.1 is
          (c.in_ok-errors.ensures ∙ ap (λ (star : Star). c.loop-point.errors + length star.errors) c.deref.ensures)
          ∙ ap (sum_by (λ p. length (fresh_at K p).errors)) (sym more),
    )

pub returns-clause-kept : goal.returns-clause-kept
returns-clause-kept c = kept_is c.loop-point.fresh c.len-len.ensures.kept
