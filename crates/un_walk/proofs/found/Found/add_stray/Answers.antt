use Rattle.std.proofs.Common.{◌≡◌, ◌∙◌, Bool, true, false, not, refl, sym, ap}
use Rattle.un_walk.specs.declared.found.Found.{Found}
use Rattle.un_defs.specs.declared.port.Node.{Node}
use Rattle.un_walk.specs.Seen.{nodes_of}
use Rattle.un_walk.specs.Found.{seens_of, nodes}
use Rattle.un_walk.specs.Growth.{has_node}
use Rattle.un_walk.proofs.FoundOver.{stray_node, nodes_end_items, same_found, with_new, with_old}
use Rattle.un_walk.proofs.found.Found.add_stray.Goals as goal

off : (b : Bool) → not b ≡ true → b ≡ false
off false e = refl
off true e = sym e

on : (b : Bool) → not b ≡ false → b ≡ true
on true e = refl
on false e = sym e

pub returns-in_ok-push-clause-over : goal.returns-in_ok-push-clause-over
returns-in_ok-push-clause-over g c =
    (stray_node (g.G.Ground.stars_and_areas c.args._over.now) c.args.self.now c.requires.over c.args.item c.requires.item c.requires.none
    (off _ (sym c.in_ok-add.ensures.added ∙ c.if-branch.true)) _ refl refl c.in_ok-add.ensures.nodes c.in_ok-push.ensures).0

pub returns-in_ok-push-clause-nodes : goal.returns-in_ok-push-clause-nodes
returns-in_ok-push-clause-nodes g c =
    let f : Found = c.args.self.now in
    let n : Node = c.args.item.seen.node in
    ap (λ l. nodes_of (seens_of l)) c.in_ok-push.ensures ∙ nodes_end_items f.items.items c.args.item
    ∙ sym (with_new (nodes f) n (sym (c.requires.over.strays n c.requires.none) ∙ off (has_node f.strays n) (sym c.in_ok-add.ensures.added ∙ c.if-branch.true)))

pub returns-else-branch-clause-over : goal.returns-else-branch-clause-over
returns-else-branch-clause-over g c =
    let f : Found = c.args.self.now in
    same_found (g.G.Ground.stars_and_areas c.args._over.now) f _ c.requires.over refl refl
    (c.in_ok-add.ensures.nodes ∙ with_old f.strays c.args.item.seen.node (on _ (sym c.in_ok-add.ensures.added ∙ c.if-branch.false))) refl

pub returns-else-branch-clause-nodes : goal.returns-else-branch-clause-nodes
returns-else-branch-clause-nodes g c =
    let f : Found = c.args.self.now in
    sym (with_old (nodes f) c.args.item.seen.node (sym (c.requires.over.strays c.args.item.seen.node c.requires.none) ∙ on _ (sym c.in_ok-add.ensures.added ∙ c.if-branch.false)))
