use Rattle.std.proofs.Common.{◌++◌, ◌∷◌, [], ap, sym, ◌∙◌}
use mathlib.Core.List.{IsPrefix}
use Rattle.left_right.specs.Sides.{view}
use Rattle.un_publish.specs.Models.{BoardModel}
use Rattle.un_publish.proofs.Turns.{looks}
use Rattle.un_publish.proofs.board.Board.publish.Goals as goal

pub publish_whole_in-requires : goal.publish_whole_in-requires
publish_whole_in-requires g c =
    let desk = c.self.inside.writer.desk in
    let log = λ (b : BoardModel g.row.M.Denot g.row.M-Cmd.Denot g.row.M-Reply.Denot g.row.M-Hint.Denot g.row.M-Mark.Denot). b.log in
    let same = c.self.invariant.0 ∙ ap log c.self.view_is in
    let more : IsPrefix desk.shown.value.1 c.in_ok-next.next.1 = (c.args.entry.now ∷ [], ap (λ l. l ++ c.args.entry.now ∷ []) same ∙ sym c.in_ok-next.ensures.log) in
    looks desk.place.id (view desk.place) desk.shown.value c.in_ok-next.next more
