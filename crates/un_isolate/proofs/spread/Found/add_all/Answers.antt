use Rattle.std.proofs.Common.{ℕ, List, get_or, take, sym, subst, arith}
use Rattle.std.proofs.lemmas.List.{take_more}
use Rattle.un_walk.proofs.Growing.{contains_at}
use Rattle.un_isolate.specs.Spread.{Adds}
use Rattle.un_isolate.proofs.Finding.{adds_then}
use Rattle.un_isolate.proofs.spread.Found.add_all.Goals as goal

pub add-requires-clause-inside : goal.add-requires-clause-inside
add-requires-clause-inside c =
    let places : List ℕ = c.args.places.now in
    let k = c.loop-place.place-index in
    omega (arith, c.requires.inside (get_or places k 0) (contains_at places k 0 c.loop-place-test.true), c.loop-place.invariant.count)

pub loop-place-preserved : goal.loop-place-preserved
loop-place-preserved c =
    let places : List ℕ = c.args.places.now in
    let k = c.loop-place.place-index in
    subst (Adds c.args.self.now c.add.new.self) (sym (take_more places k 0 c.loop-place-test.true))
    (adds_then c.args.self.now c.loop-place.self c.add.new.self (take k places) (get_or places k 0) c.loop-place.invariant c.in_ok-add.ensures)
