use Rattle.un_rebuild.proofs.Covered.{marks_are}
use Rattle.un_rebuild.proofs.marks.Marks.of.Goals as goal

pub returns : goal.returns
returns c = marks_are c.args.rects.now c.in_ok-areas_of.field-0 c.in_ok-areas_of.ensures
