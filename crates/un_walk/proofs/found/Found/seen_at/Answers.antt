use Rattle.std.proofs.Common.{◌≡◌, ◌<◌, length, Some, sym, ap, subst, ◌∙◌, arith}
use Rattle.std.proofs.lemmas.Option.{slice_get-get_or}
use Rattle.un_defs.specs.Ground.{entry}
use Rattle.un_walk.specs.declared.seen.Seen.{Seen}
use Rattle.un_walk.specs.Seen.{spot_of}
use Rattle.un_walk.specs.declared.item.Item.{Item}
use Rattle.un_walk.specs.declared.found.Found.{Found}
use Rattle.un_walk.proofs.FoundOver.{count_nodes, item_entry, node_at}
use Rattle.un_walk.proofs.found.Found.seen_at.Goals as goal

pub returns-clause-node : goal.returns-clause-node
returns-clause-node g c =
    let f : Found = c.args.self.now in
    let i : Item = c.index.result.now in
    let inside : c.args.place < length f.items.items = omega (arith, c.requires.inside, count_nodes f) in
    node_at f.items.items c.args.place i (slice_get-get_or f.items.items c.args.place i inside ∙ ap (λ (x : Item). Some x) (sym c.index.ensures))
    ∙ ap (λ (s : Seen). Some s.node) (sym c.seen.ensures)

pub returns-clause-entry : goal.returns-clause-entry
returns-clause-entry g c =
    let f : Found = c.args.self.now in
    let inside : c.args.place < length f.items.items = omega (arith, c.requires.inside, count_nodes f) in
    subst (λ (s : Seen). spot_of s ≡ entry (g.G.Ground.stars_and_areas c.args._over.now) s.node) (sym c.seen.ensures)
    (item_entry (g.G.Ground.stars_and_areas c.args._over.now) f c.requires.over c.args.place c.index.result.now inside c.index.ensures)
