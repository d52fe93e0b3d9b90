use Rattle.std.proofs.Common.{◌≡◌, cond, Some, subst, ◌∙◌}
use Rattle.std.specs.BTreeMap.{get, is_at}
use Rattle.un_geom.specs.declared.point.Point.{Point}
use Rattle.un_points.proofs.Lookups.{orders}
use Rattle.un_core.proofs.StillFresh.{put_fresh}
use Rattle.un_core.proofs.prepared.put_star.Goals as goal

pub returns : goal.returns
returns c = λ s is fresh.
    let p = c.args.p in
    let star = c.in_ok-new.field-0 in
    let before = c.args.stars.now in
    let after = c.insert.new.self in
    let updates = subst (λ cmp. (q : Point) → get cmp after q ≡ cond (is_at (cmp p) q) (Some star) (get cmp before q)) orders c.in_ok-insert.ensures.updates.0 in
    put_fresh s p star before after (c.in_ok-new.ensures.ok ∙ is) updates fresh
