use Rattle.std.proofs.Common.{◌≡◌, inl, inr, length, sym, subst, ◌∙◌, arith}
use Rattle.un_walk.specs.Found.{nodes}
use Rattle.un_loops.specs.Network.{is_passable, IsGraphOver}
use Rattle.un_loops.proofs.Building.{child, root_place}
use Rattle.un_loops.proofs.graph.forest.Goals as goal

pub loop-place-preserved : goal.loop-place-preserved
loop-place-preserved g c =
    let G = g.G.Ground.stars_and_areas c.args.over.now in
    let B = c.args.barriers.now in
    let f = c.args.found.now in
    let k = c.loop-place.place in
    let open_is : is_passable G B (nodes f) k ≡ c.is_open_at-is_open.result = sym {a = c.is_open_at-is_open.result} {b = is_passable G B (nodes f) k} c.is_open_at-is_open.ensures in
    elim c.in_ok-add_place.ensures [
      | inl a ↦ child G B f c.loop-place.graph c.add_place.new.self k c.loop-place.invariant (open_is ∙ a.0) a.1
      | inr a ↦ root_place G B f c.loop-place.graph c.add_place.new.self k c.loop-place.invariant c.is_open_at-is_open.result open_is a
    ]

pub returns : goal.returns
returns g c =
    let all : c.loop-place.place ≡ length (nodes c.args.found.now) = omega (arith, c.loop-place-test.false, c.loop-place.auto.place-end, c.len-count.ensures) in
    subst (IsGraphOver (g.G.Ground.stars_and_areas c.args.over.now) c.args.barriers.now c.args.found.now c.loop-place.graph) all c.loop-place.invariant
