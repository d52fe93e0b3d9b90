use Rattle.std.proofs.Common.{◌≡◌, ℕ, ◌<◌, List, length, set, sym, subst, arith}
use Rattle.std.proofs.lemmas.List.{length-set, get_or-set_same}
use Rattle.un_loops.specs.declared.graph.Parent.{Parent}
use Rattle.un_loops.specs.Graph.{IsOnCycle, IsJoinedBy}
use Rattle.un_loops.specs.Heads.{AreHeads, IsMarked}
use Rattle.un_loops.proofs.Walks.{joined_trans, joined_allowed}
use Rattle.un_loops.proofs.Climbing.{heads_more, heads_shortened, marked_more, marked_kept, joined_nth}
use Rattle.un_loops.proofs.heads.raise.Goals as goal

pub find-requires-clause-inside : goal.find-requires-clause-inside
find-requires-clause-inside c =
    let way = c.requires.forest.parent c.args.place c.unwrap-above.result (omega (arith, c.requires.heads.count)) c.unwrap-above.ensures in
    omega (arith, way.0, length-set c.args.heads.now c.args.place c.unwrap-above.result.place)

pub find-requires-clause-below : goal.find-requires-clause-below
find-requires-clause-below c =
    let u : Parent = c.unwrap-above.result in
    let is : c.requires.cycle.0 ≡ u = cc (c.requires.cycle.1, c.unwrap-above.ensures) in
    let more = heads_more c.args.links.now c.args.parents.now c.requires.forest c.args.heads.now c.requires.heads c.args.place u c.requires.inside c.unwrap-above.ensures
    (subst (λ (t : Parent). IsOnCycle c.args.links.now t.link) is c.requires.cycle.2) in
    more.below

pub returns-clause-heads : goal.returns-clause-heads
returns-clause-heads c =
    let u : Parent = c.unwrap-above.result in
    let is : c.requires.cycle.0 ≡ u = cc (c.requires.cycle.1, c.unwrap-above.ensures) in
    let more = heads_more c.args.links.now c.args.parents.now c.requires.forest c.args.heads.now c.requires.heads c.args.place u c.requires.inside c.unwrap-above.ensures
    (subst (λ (t : Parent). IsOnCycle c.args.links.now t.link) is c.requires.cycle.2) in
    heads_shortened c.args.links.now c.args.parents.now (set c.args.heads.now c.args.place u.place) c.find.new.heads more c.find.ensures.shortened

pub returns-clause-kept : goal.returns-clause-kept
returns-clause-kept c = λ j marked.
    let links = c.args.links.now in
    let parents = c.args.parents.now in
    let u : Parent = c.unwrap-above.result in
    let is : c.requires.cycle.0 ≡ u = cc (c.requires.cycle.1, c.unwrap-above.ensures) in
    let more = heads_more links parents c.requires.forest c.args.heads.now c.requires.heads c.args.place u c.requires.inside c.unwrap-above.ensures
    (subst (λ (t : Parent). IsOnCycle links t.link) is c.requires.cycle.2) in
    marked_kept links parents (set c.args.heads.now c.args.place u.place) c.find.new.heads more c.find.ensures.shortened j
    (marked_more links parents c.requires.forest c.args.heads.now c.requires.heads c.args.place u c.requires.inside c.unwrap-above.ensures j marked)

pub returns-clause-joined : goal.returns-clause-joined
returns-clause-joined c =
    let links = c.args.links.now in
    let parents = c.args.parents.now in
    let u : Parent = c.unwrap-above.result in
    let set_heads : List ℕ = set c.args.heads.now c.args.place u.place in
    let is : c.requires.cycle.0 ≡ u = cc (c.requires.cycle.1, c.unwrap-above.ensures) in
    let more : AreHeads links parents set_heads = heads_more links parents c.requires.forest c.args.heads.now c.requires.heads c.args.place u c.requires.inside c.unwrap-above.ensures
    (subst (λ (t : Parent). IsOnCycle links t.link) is c.requires.cycle.2) in
    let way = c.requires.forest.parent c.args.place u (omega (arith, c.requires.heads.count)) c.unwrap-above.ensures in
    let inside : c.args.place < length set_heads = omega (arith, length-set c.args.heads.now c.args.place u.place) in
    let one : IsJoinedBy links (IsMarked parents set_heads) c.args.place u.place =
    subst (IsJoinedBy links (IsMarked parents set_heads) c.args.place) (get_or-set_same c.args.heads.now c.args.place u.place 0 c.requires.inside) (more.joined c.args.place inside) in
    let two : IsJoinedBy links (IsMarked parents set_heads) u.place c.find.result =
    subst (IsJoinedBy links (IsMarked parents set_heads) u.place) (sym c.find.ensures.along.1) (joined_nth links parents set_heads more c.find.ensures.along.0 u.place (omega (arith, way.0))) in
    joined_allowed links (IsMarked parents set_heads) (IsMarked parents c.find.new.heads)
    (marked_kept links parents set_heads c.find.new.heads more c.find.ensures.shortened) c.args.place c.find.result
    (joined_trans links (IsMarked parents set_heads) c.args.place u.place c.find.result one two)

pub returns-clause-less : goal.returns-clause-less
returns-clause-less c =
    let way = c.requires.forest.parent c.args.place c.unwrap-above.result (omega (arith, c.requires.heads.count)) c.unwrap-above.ensures in
    omega (arith, way.0, c.find.ensures.above)
