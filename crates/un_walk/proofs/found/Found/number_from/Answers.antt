use Rattle.std.proofs.Common.{◌≡◌, ◌<◌, length, get_or, sym, ap, subst, subst₂, ◌∙◌, arith}
use Rattle.std.proofs.lemmas.Bool.Decides.{nat_tests}
use Rattle.un_defs.proofs.Unique.{point_same}
use Rattle.un_walk.specs.declared.item.Item.{Item}
use Rattle.un_walk.specs.declared.found.Found.{Found}
use Rattle.un_walk.specs.Found.{IsNumberOf}
use Rattle.un_walk.proofs.FoundOver.{item_number}
use Rattle.un_walk.proofs.found.Found.number_from.Goals as goal

pub returns-in-Some-clause-number : goal.returns-in-Some-clause-number
returns-in-Some-clause-number g c =
    let f : Found = c.args.self.now in
    let i : Item = c.in-Some.item.now in
    let within : c.args.from < length c.deref.result.now = grind (arith, nat_tests, c.in-Some.ensures.lookup.0) in
    let here : i ≡ get_or f.items.items c.args.from i = c.in-Some.ensures.lookup.1 ∙ ap (λ l. get_or l c.args.from i) c.deref.ensures.value in
    let mine : IsNumberOf f.points i.seen.node.at i.number = item_number (g.G.Ground.stars_and_areas c.args.over.now) f c.requires c.args.from i (subst (λ l. c.args.from < length l) c.deref.ensures.value within) here in
    subst₂ (IsNumberOf f.points) (sym c.at.ensures ∙ point_same c.at.result c.args.at (sym c.is_same_point.ensures ∙ c.if-is_same_point.true)) (sym c.number.ensures) mine
