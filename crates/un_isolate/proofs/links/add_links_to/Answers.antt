use Rattle.std.proofs.Common.{ℕ, List, get_or, take, sym, subst, arith}
use Rattle.std.proofs.lemmas.List.{take_more}
use Rattle.un_walk.proofs.Growing.{contains_at}
use Rattle.un_isolate.specs.Links.{AddsLinksTo}
use Rattle.un_isolate.proofs.Linking.{adds_more}
use Rattle.un_isolate.proofs.links.add_links_to.Goals as goal

pub add_link-requires : goal.add_link-requires
add_link-requires c =
    let from : List ℕ = c.args.from.now in
    let k = c.loop-place.place-index in
    omega (arith, c.requires (get_or from k 0) (contains_at from k 0 c.loop-place-test.true), c.loop-place.invariant.count)

pub loop-place-preserved : goal.loop-place-preserved
loop-place-preserved c =
    let from : List ℕ = c.args.from.now in
    let k = c.loop-place.place-index in
    subst (λ l. AddsLinksTo c.args.links.now c.add_link.new.links l c.args.to) (sym (take_more from k 0 c.loop-place-test.true))
    (adds_more c.args.links.now c.loop-place.links c.add_link.new.links (take k from) (get_or from k 0) c.args.to c.loop-place.invariant c.in_ok-add_link.ensures)
