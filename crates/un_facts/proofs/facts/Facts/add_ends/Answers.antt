use Rattle.un_facts.proofs.facts.Facts.add_ends.Goals as goal

pub returns-in_ok-add_points-2-clause-placed : goal.returns-in_ok-add_points-2-clause-placed
returns-in_ok-add_points-2-clause-placed c = λ all. c.in_ok-add_points-2.ensures.placed (c.in_ok-add_points.ensures.placed all)
