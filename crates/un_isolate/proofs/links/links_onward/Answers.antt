use Rattle.std.proofs.Common.{◌≡◌, ◌+◌, length, Some, refl, sym, subst, arith}
use Rattle.std.specs.Prelude.{slice_get}
use Rattle.std.proofs.lemmas.Option.{slice_get_read}
use Rattle.un_walk.specs.declared.seen.Seen.{Seen}
use Rattle.un_isolate.specs.Links.{AreLinksOf}
use Rattle.un_isolate.proofs.Linking.{links_more}
use Rattle.un_isolate.proofs.links.links_onward.Goals as goal

pub loop-one-preserved : goal.loop-one-preserved
loop-one-preserved c =
    let nodes = c.args.nodes.now in
    let k = c.loop-one.one-index in
    let v : Seen = c.one-item.result in
    let at : slice_get nodes k ≡ Some v = slice_get_read nodes (length nodes) k v refl c.loop-one-test.true c.one-item.is in
    subst (λ links. AreLinksOf c.args.barriers.now nodes links (k + 1)) (sym c.in_ok-push.ensures.items)
    (links_more c.args.barriers.now nodes c.loop-one.links.items c.in_ok-ends_of.field-0 v k (k + 1) refl at c.loop-one.invariant c.in_ok-ends_of.ensures)

pub returns : goal.returns
returns c =
    let is : c.loop-one.one-index ≡ length c.args.nodes.now = omega (arith, c.loop-one-test.false, c.loop-one.auto.one-index-end) in
    subst (AreLinksOf c.args.barriers.now c.args.nodes.now c.loop-one.links.items) is c.loop-one.invariant
