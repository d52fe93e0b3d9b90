use Rattle.std.proofs.Common.{◌≡◌, ℕ, ◌+◌, List, [], ◌∷◌, ◌++◌, map, take, take_all, sym, ap, ◌∙◌, subst}
use Rattle.std.proofs.lemmas.List.{take_more}
use Rattle.un_geom.specs.declared.point.Point.{Point}
use Rattle.un_geom.specs.Rectangle.{Rectangle}
use Rattle.un_points.specs.PointMaps.{covered}
use Rattle.un_rebuild.specs.Gathered.{HaveSame}
use Rattle.un_rebuild.proofs.Pointed.{Gathers, gathers_more, are_points}
use Rattle.un_rebuild.proofs.points.points_under.Goals as goal

pub loop-area-preserved : goal.loop-area-preserved
loop-area-preserved c =
    let F = c.args.facts.now.features in
    let kept = c.args.kept.now in
    let k = c.loop-area.area-index in
    let area : ℕ × Rectangle = c.loop-area-item.result in
    let standing : List Point = c.in_ok-points.field-0.items in
    let stars : List Point = map (λ e. e.0) (covered area.1 kept) in
    let before : List Point = c.loop-area.gathered in
    let joined : List Point = c.add.new.self in
    let all : List Point = c.add-in-loop-area.new.self in
    let first : HaveSame (before ++ standing) joined =
    subst (λ ps. HaveSame (before ++ ps) joined) c.deref.ensures.value c.in_ok-add.ensures in
    let second : HaveSame (joined ++ stars) all =
    subst (λ ps. HaveSame (joined ++ ps) all) (c.deref-in-loop-area.ensures.value ∙ c.in_ok-points-2.ensures) c.in_ok-add-2.ensures in
    let more : take k c.args.areas.now ++ area ∷ [] ≡ take (k + 1) c.args.areas.now =
    ap (λ a. take k c.args.areas.now ++ a ∷ []) c.loop-area-item.is ∙ sym (take_more c.args.areas.now k area c.loop-area-test.true) in
    subst (λ areas. Gathers F kept areas all) more
    (gathers_more F kept (take k c.args.areas.now) area before standing joined all c.loop-area.invariant c.in_ok-points.ensures first second)

pub returns-clause-points : goal.returns-clause-points
returns-clause-points c =
    let gathered = subst (λ areas. Gathers c.args.facts.now.features c.args.kept.now areas c.loop-area.gathered)
    (take_all c.loop-area.area-index c.args.areas.now c.loop-area-test.false) c.loop-area.invariant in
    are_points c.args.facts.now c.setup-setup.ensures.known.sound c.args.kept.now c.args.areas.now c.loop-area.gathered c.into_points.result.items gathered c.into_points.ensures.same
