use Rattle.std.specs.Arc.{arc_value}
use Rattle.un_publish.specs.Models.{staged_of}
use Rattle.un_publish.proofs.Growing.{staged_more}
use Rattle.un_publish.proofs.board.Board.advance.Goals as goal

pub new-requires-after_bounds : goal.new-requires-after_bounds
new-requires-after_bounds g c κs within =
    rw (c.if-add.ensures, c.copy-prefix.ensures)
    (staged_more g.M.Machine.step g.J.BoardName.opening c.self.inside.prefix c.self.inside.writer.desk.shown.value.0 c.args.entry.now (staged_of c.self.inside.staged) c.args.self.now (arc_value c.in_ok-state.state) c.self.view_is c.requires.steps c.requires.number c.in_ok-state.ensures c.self.invariant.2)
