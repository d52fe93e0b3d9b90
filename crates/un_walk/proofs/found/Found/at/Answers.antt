use Rattle.std.proofs.Common.{◌≡◌, ◌<◌, length, Some, sym, ap, subst, ◌∙◌, arith}
use Rattle.std.proofs.lemmas.Option.{slice_get-get_or}
use Rattle.un_defs.specs.Ground.{Ground, entry}
use Rattle.un_walk.specs.declared.seen.Seen.{Seen}
use Rattle.un_walk.specs.Seen.{spot_of}
use Rattle.un_walk.specs.declared.item.Item.{Item}
use Rattle.un_walk.specs.declared.found.Found.{Found}
use Rattle.un_walk.specs.declared.site.Site.{Site}
use Rattle.un_walk.specs.Visits.{IsSiteAt}
use Rattle.un_walk.specs.Found.{IsNumberOf}
use Rattle.un_walk.proofs.FoundOver.{count_nodes, item_number, item_entry, node_at, site_at, visited_within}
use Rattle.un_walk.proofs.found.Found.at.Goals as goal

pub returns-clause-node : goal.returns-clause-node
returns-clause-node g c =
    let f : Found = c.args.self.now in
    let i : Item = c.index-item.result.now in
    let inside : c.args.place < length f.items.items = omega (arith, c.requires.inside, count_nodes f) in
    node_at f.items.items c.args.place i (slice_get-get_or f.items.items c.args.place i inside ∙ ap (λ (x : Item). Some x) (sym c.index-item.ensures))
    ∙ ap (λ (s : Seen). Some s.node) (sym c.seen.ensures)

pub returns-clause-entry : goal.returns-clause-entry
returns-clause-entry g c =
    let f : Found = c.args.self.now in
    let inside : c.args.place < length f.items.items = omega (arith, c.requires.inside, count_nodes f) in
    subst (λ (s : Seen). spot_of s ≡ entry (g.G.Ground.stars_and_areas c.args._over.now) s.node) (sym c.seen.ensures)
    (item_entry (g.G.Ground.stars_and_areas c.args._over.now) f c.requires.over c.args.place c.index-item.result.now inside c.index-item.ensures)

pub site-requires : goal.site-requires
site-requires g c =
    let f : Found = c.args.self.now in
    let i : Item = c.index-item.result.now in
    let inside : c.args.place < length f.items.items = omega (arith, c.requires.inside, count_nodes f) in
    subst (λ k. k < length f.visited) (sym c.number.ensures)
    (visited_within (g.G.Ground.stars_and_areas c.args._over.now) f c.requires.over i.seen.node.at i.number (item_number (g.G.Ground.stars_and_areas c.args._over.now) f c.requires.over c.args.place i inside c.index-item.ensures))

pub returns-clause-at : goal.returns-clause-at
returns-clause-at g c =
    let G : Ground = g.G.Ground.stars_and_areas c.args._over.now in
    let f : Found = c.args.self.now in
    let i : Item = c.index-item.result.now in
    let inside : c.args.place < length f.items.items = omega (arith, c.requires.inside, count_nodes f) in
    let number : IsNumberOf f.points i.seen.node.at i.number = item_number G f c.requires.over c.args.place i inside c.index-item.ensures in
    let there : IsSiteAt f.visited i.number c.site.result = subst (λ k. IsSiteAt f.visited k c.site.result) c.number.ensures c.site.ensures in
    ap (λ (s : Site). s.at) (sym there.2) ∙ site_at G f c.requires.over i.seen.node i.number there.0 number there.1
    ∙ ap (λ (s : Seen). s.node.at) (sym c.seen.ensures)
