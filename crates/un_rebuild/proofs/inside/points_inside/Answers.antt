use Rattle.std.proofs.Common.{◌≡◌, List, [], ◌++◌, map, filter, ap, sym, subst, subst₂, ◌∙◌}
use Rattle.un_geom.specs.declared.point.Point.{Point}
use Rattle.un_points.specs.PointMaps.{covered}
use Rattle.un_rebuild.specs.Gathered.{HaveSame}
use Rattle.un_rebuild.specs.Rebuilding.{is_under, met}
use Rattle.un_rebuild.proofs.Pointed.{are_points}
use Rattle.un_rebuild.proofs.Within.{gathers_inside}
use Rattle.un_rebuild.proofs.inside.points_inside.Goals as goal

pub returns-clause-points : goal.returns-clause-points
returns-clause-points c =
    let K = c.args.facts.now in
    let kept = c.args.kept.now in
    let dirt = c.args.dirty.now.areas in
    let extent = c.args.extent in
    let standing : List Point = c.in_ok-standing.standing.items in
    let stars : List Point = map {B = Point} (λ e. e.0) (covered extent kept) in
    let joined : List Point = c.add.new.self in
    let all : List Point = c.add-2.new.self in
    let one : filter (is_under dirt) standing ≡ c.deref-2.result.now =
    sym (c.deref-2.ensures.value ∙ c.in_ok-under_dirt.ensures ∙ ap (filter (is_under dirt)) c.deref.ensures.value) in
    let two : filter (is_under dirt) stars ≡ c.deref-4.result.now =
    sym (c.deref-4.ensures.value ∙ c.in_ok-under_dirt-2.ensures ∙ ap (filter (is_under dirt)) (c.deref-3.ensures.value ∙ c.in_ok-stars.ensures)) in
    let first : HaveSame ([] ++ filter (is_under dirt) standing) joined =
    subst₂ (λ none points. HaveSame (none ++ points) joined) c.new-gathered.ensures (sym one) c.in_ok-add.ensures in
    let second : HaveSame (joined ++ filter (is_under dirt) stars) all = subst (λ points. HaveSame (joined ++ points) all) (sym two) c.in_ok-add-2.ensures in
    are_points K c.setup-setup.ensures.known.sound kept (met extent dirt) all c.into_points.result.items
    (gathers_inside K.features kept extent dirt standing joined all c.requires c.in_ok-standing.ensures first second) c.into_points.ensures.same
