use Rattle.std.proofs.Common.{◌≡◌, ◌+◌, ◌++◌, ℕ, length, take, drop, Some, refl, sym, ap, subst, arith}
use Rattle.std.specs.Prelude.{slice_get, Contains}
use Rattle.std.proofs.Math.Seq.{take-append_seam}
use Rattle.std.proofs.lemmas.Option.{slice_get_read}
use Rattle.smallvec.specs.SmallVec.{SmallVec}
use Rattle.un_isolate.specs.Links.{AreTurned, AddsLinksTo}
use Rattle.un_isolate.proofs.Linking.{turned_none, turned_more}
use Rattle.un_isolate.proofs.links.links_back.Goals as goal

pub loop-place-init : goal.loop-place-init
loop-place-init c = turned_none c.args.links.now c.in_ok-back.back.items c.in_ok-back.ensures.count c.in_ok-back.ensures.empty

pub add_links_to-requires : goal.add_links_to-requires
add_links_to-requires c = λ i has.
    let links = c.args.links.now in
    let k = c.loop-place.place in
    let ends : SmallVec ℕ = c.index-links-place.result in
    let at : slice_get links k ≡ Some ends = slice_get_read links (length links) k ends refl c.loop-place-test.true c.index-links-place.is in
    let below = c.requires k i (ends, at, subst (λ l. Contains l i) c.as_slice.ensures has) in
    omega (arith, below, c.loop-place.invariant.count, ap length c.deref_mut.ensures.value)

pub loop-place-preserved : goal.loop-place-preserved
loop-place-preserved c =
    let links = c.args.links.now in
    let k = c.loop-place.place in
    let ends : SmallVec ℕ = c.index-links-place.result in
    let old = c.loop-place.back.items in
    let new = c.add_links_to.new.links in
    let at : slice_get links k ≡ Some ends = slice_get_read links (length links) k ends refl c.loop-place-test.true c.index-links-place.is in
    let adds : AddsLinksTo old new ends.items k = subst (λ from. AddsLinksTo old new from k) c.as_slice.ensures (subst (λ l. AddsLinksTo l new c.as_slice.result.now k) c.deref_mut.ensures.value c.in_ok-add_links_to.ensures) in
    let count : length new ≡ c.loop-place.back.len = omega (arith, adds.count, c.loop-place.back.ok.0) in
    let whole : take c.loop-place.back.len (new ++ drop (length new) old) ≡ new = subst (λ n. take n (new ++ drop (length new) old) ≡ new) count (take-append_seam new (drop (length new) old)) in
    subst (λ l. AreTurned links l (k + 1)) (sym whole) (turned_more links old new ends k (k + 1) refl at c.loop-place.invariant adds)

pub returns : goal.returns
returns c =
    let is : c.loop-place.place ≡ length c.args.links.now = omega (arith, c.loop-place-test.false, c.loop-place.auto.place-end) in
    subst (AreTurned c.args.links.now c.loop-place.back.items) is c.loop-place.invariant
