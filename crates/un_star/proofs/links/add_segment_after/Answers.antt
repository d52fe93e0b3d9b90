use Rattle.std.proofs.Common.{◌∙◌, sym, ap, ◌++◌, flat_map, length, arith}
use Rattle.std.proofs.lemmas.List.{append-nil}
use Rattle.un_defs.specs.Links.{ties_by}
use Rattle.un_star.proofs.Places.{no_segment}
use Rattle.un_star.proofs.links.add_segment_after.Goals as goal

pub returns-else-from-points : goal.returns-else-from-points
returns-else-from-points c =
    sym (append-nil c.args.ties.now.items) ∙ ap (λ l. c.args.ties.now.items ++ flat_map (ties_by c.args.node) l)
    (sym (no_segment c.args.line.now c.args.node.port.number c.requires (omega (arith, ap length c.points.ensures.points, c.from.ensures, c.if-from-points.false))))
