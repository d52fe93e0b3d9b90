use Rattle.std.proofs.Common.{◌++◌, flat_map, ap, ◌∙◌}
use Rattle.un_defs.specs.Links.{ties_by}
use Rattle.un_star.specs.Links.{path_between_by}
use Rattle.un_star.proofs.ListSteps.{range-step}
use Rattle.un_star.proofs.links.add_paths_of.Goals as goal

pub loop-before-preserved : goal.loop-before-preserved
loop-before-preserved c =
    range-step (λ b. flat_map (ties_by c.args.node) (path_between_by c.args.config.now c.args.number c.args.row.now c.args.node.port.number b))
    c.loop-before.before c.args.ties.now.items c.loop-before.ties.items c.add.new.ties.items c.loop-before.invariant
    (c.in_ok-add.ensures ∙ ap (λ l. c.loop-before.ties.items ++ l) c.path_between.ensures)
