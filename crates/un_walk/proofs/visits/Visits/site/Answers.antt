use Rattle.std.proofs.Common.{◌<◌, map, length, refl, ap, subst, arith}
use Rattle.std.proofs.lemmas.List.{length-map}
use Rattle.un_walk.specs.Visits.{place_of, visited_of, IsSiteAt}
use Rattle.un_walk.proofs.Visiting.{seen_at}
use Rattle.un_walk.proofs.visits.Visits.site.Goals as goal

pub returns : goal.returns
returns c =
    let vs = c.self.inside.visits.items in
    let ms = map place_of c.self.inside.marks.items in
    let inside : c.args.number < length vs = omega (arith, c.requires, ap length c.self.view_is, length-map vs (visited_of ms)) in
    subst (λ seen. IsSiteAt seen c.args.number c.index.result.now.site) c.self.view_is
    (visited_of ms c.index.result.now, seen_at vs ms c.args.number c.index.result.now inside c.index.ensures, refl)
