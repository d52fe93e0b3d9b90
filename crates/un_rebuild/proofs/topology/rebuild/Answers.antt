use Rattle.std.proofs.Common.{◌≡◌, List, ap, ◌∙◌, subst, length, arith}
use Rattle.std.specs.List.{sum_by}
use Rattle.un_geom.specs.declared.point.Point.{Point}
use Rattle.un_facts.specs.Known.{Known}
use Rattle.un_rebuild.specs.Rebuilding.{fresh_at, met, AreRebuilt}
use Rattle.un_rebuild.proofs.topology.rebuild.Goals as goal

pub points_met-requires : goal.points_met-requires
points_met-requires c = c.deref.ensures.value ∙ c.in_ok-areas.ensures

pub returns : goal.returns
returns c =
    let K : Known = c.args.facts.now in
    let points : List Point = c.in_ok-points.points.items in
    let areas : c.deref.result.now ≡ met c.args.extent c.args.dirty.now.areas = c.deref.ensures.value ∙ c.in_ok-areas.ensures in
    let all : c.deref-2.result.now ≡ points = c.deref-2.ensures.value in
    let new = c.in_ok-kept.ensures in
    record {
      points = c.in_ok-points.ensures.points;
      sorted = c.in_ok-points.ensures.sorted;
      stars = subst (λ points. AreRebuilt K c.args.kept.now points c.in_ok-kept.field-0.kept) all new.stars;
      kept = new.kept;
      count = omega (arith, c.len.ensures, c.deref.ensures.len, ap length areas);
      errors = new.errors ∙ ap (sum_by (λ p. length (fresh_at K p).errors)) all;
    }
