use Rattle.std.proofs.Common.{◌∙◌, sym, ap, subst}
use Rattle.un_star.specs.Meet.{noted, TakesIn}
use Rattle.un_star.proofs.Grouping.{takes_in}
use Rattle.un_star.proofs.meet.take_in.Goals as goal

pub returns : goal.returns
returns c = λ rules.
    subst (TakesIn rules c.args.joint.now c.args.end.now c.args.groups.now.items)
    (ap (λ t. noted c.args.groups.now.items c.args.end.now.kind t c.args.end.now.port) (sym c.chosen.ensures) ∙ sym c.in_ok-note.ensures)
    (takes_in rules c.args.joint.now c.args.end.now c.args.groups.now.items (sym c.has_chosen.ensures ∙ c.if-not-has_chosen.false))
