use Rattle.std.proofs.Common.{drop}
use Rattle.un_serve.proofs.Gathering.{AreAddedBut}
use Rattle.un_serve.proofs.touched.add_marks.Given as goal

-- the rectangles of all entries are added but for these
abbrev pub invariant-loop-entry : goal.invariant-loop-entry
invariant-loop-entry l = AreAddedBut l.initial.rects.items (drop l.entry-index l.entries) l.entries l.rects.items
