use Rattle.std.proofs.Common.{◌≡◌, ◌+◌, List, [], ◌∷◌, ◌++◌, map, take, take_all, sym, ap, ◌∙◌, subst, rules}
use Rattle.std.proofs.lemmas.List.{take_more}
use Rattle.un_geom.specs.declared.point.Point.{Point}
use Rattle.un_geom.specs.Rectangle.{Rectangle}
use Rattle.un_points.specs.PointMaps.{covered}
use Rattle.un_core.specs.Changes.{HasKept}
use Rattle.un_core.proofs.Collecting.{IsCollected, collected_more, has_kept}
use Rattle.un_rebuild.proofs.Pointed.{put_all}
use Rattle.un_core.proofs.changes.points_kept.Goals as goal

pub loop-rect-preserved : goal.loop-rect-preserved
loop-rect-preserved c =
    let old = c.args.older.now in
    let new = c.args.newer.now in
    let k = c.loop-rect.rect-index in
    let rect : Rectangle = c.rect-item.result in
    let here : List Point = map (λ e. e.0) (covered rect old) in
    let there : List Point = map (λ e. e.0) (covered rect new) in
    let first : c.add_all.new.set.keys ≡ put_all c.loop-rect.set.keys here =
    c.in_ok-add_all.ensures ∙ ap (put_all c.loop-rect.set.keys) (c.deref.ensures.value ∙ c.in_ok-points.ensures) in
    let second : c.add_all-in-loop-rect.new.set.keys ≡ put_all c.add_all.new.set.keys there =
    c.in_ok-add_all-2.ensures ∙ ap (put_all c.add_all.new.set.keys) (c.deref-in-loop-rect.ensures.value ∙ c.in_ok-points-2.ensures) in
    let more : take k c.args.rects.now ++ rect ∷ [] ≡ take (k + 1) c.args.rects.now =
    ap (λ a. take k c.args.rects.now ++ a ∷ []) c.rect-item.is ∙ sym (take_more c.args.rects.now k rect c.loop-rect-test.true) in
    subst (λ rects. IsCollected old new rects c.add_all-in-loop-rect.new.set.keys) more
    (subst (IsCollected old new (take k c.args.rects.now ++ rect ∷ [])) (sym (second ∙ ap (λ ks. put_all ks there) first))
    (collected_more old new (take k c.args.rects.now) rect c.loop-rect.set.keys c.loop-rect.invariant))

pub returns-clause-whole : goal.returns-clause-whole
returns-clause-whole c =
    let old = c.args.older.now in
    let new = c.args.newer.now in
    let keys : c.in_ok-all.all.items ≡ c.loop-rect.set.keys = search rules in
    let collected = subst (λ rects. IsCollected old new rects c.loop-rect.set.keys)
    (take_all c.loop-rect.rect-index c.args.rects.now c.loop-rect-test.false) c.loop-rect.invariant in
    subst (HasKept old new c.args.rects.now) (sym keys) (has_kept old new c.args.rects.now c.loop-rect.set.keys collected)
