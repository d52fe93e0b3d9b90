use Rattle.std.proofs.Common.{pos, get_or, sym, ap, ◌∙◌}
use Rattle.std.specs.BTreeSet.{insert_key}
use Rattle.std.proofs.lemmas.List.Sums.{fold_more}
use Rattle.un_geom.specs.declared.point.Point.{Point}
use Rattle.un_geom.specs.Places.{point_cmp}
use Rattle.un_points.proofs.Lookups.{orders}
use Rattle.un_rebuild.proofs.points.add_all.Goals as goal

pub loop-point-preserved : goal.loop-point-preserved
loop-point-preserved c =
    let default : Point = record { x = pos 0; y = pos 0; z = pos 0 } in
    let p = get_or c.args.points.now c.loop-point.point-index default in
    c.in_ok-insert.ensures.keys
    ∙ ap (λ cmp. insert_key cmp c.loop-point.set.keys p) orders
    ∙ ap (λ ks. insert_key point_cmp ks p) c.loop-point.invariant
    ∙ sym (fold_more (insert_key point_cmp) c.args.set.now.keys c.args.points.now c.loop-point.point-index default c.loop-point-test.true)
