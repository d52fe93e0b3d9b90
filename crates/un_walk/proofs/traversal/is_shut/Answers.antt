use Rattle.std.proofs.Common.{◌≡◌, refl, ap, sym, ◌∙◌, ◌||◌, true, false}
use Rattle.un_defs.specs.Reach.{controls, is_path}
use Rattle.un_walk.proofs.LinkTests.{controls_here, shut_by}
use Rattle.un_walk.proofs.traversal.is_shut.Goals as goal

pub returns-then-is_controlled-clause-shut : goal.returns-then-is_controlled-clause-shut
returns-then-is_controlled-clause-shut g c =
    let G = g.G.Ground.stars_and_areas c.args.over.now in
    let n = c.args.place.now.node in
    let own : controls G c.in-Some.tier n ≡ true =
    sym (controls_here G c.in-Some.tier n n.at c.args.place.now.star.now c.requires refl) ∙ sym c.is_controlled.ensures ∙ c.if-is_controlled.true in
    c.if-is_controlled.true ∙ sym (ap (λ b. b || controls G c.in-Some.tier c.args.tie.now.to) own)
    ∙ sym (shut_by G c.args.barriers.now n c.args.tie.now c.in-Some.tier c.in-Some.is (ap is_path (sym c.name.ensures) ∙ sym c.is_path.ensures ∙ c.if-is_path.true))

pub returns-else-is_controlled-clause-shut : goal.returns-else-is_controlled-clause-shut
returns-else-is_controlled-clause-shut g c =
    let G = g.G.Ground.stars_and_areas c.args.over.now in
    let n = c.args.place.now.node in
    let own : controls G c.in-Some.tier n ≡ false =
    sym (controls_here G c.in-Some.tier n n.at c.args.place.now.star.now c.requires refl) ∙ sym c.is_controlled.ensures ∙ c.if-is_controlled.false in
    c.is_far_end_controlled.ensures.controlled ∙ ap (controls G c.in-Some.tier) c.to.ensures ∙ sym (ap (λ b. b || controls G c.in-Some.tier c.args.tie.now.to) own)
    ∙ sym (shut_by G c.args.barriers.now n c.args.tie.now c.in-Some.tier c.in-Some.is (ap is_path (sym c.name.ensures) ∙ sym c.is_path.ensures ∙ c.if-is_path.true))
