use Rattle.std.proofs.Common.{◌≡◌, sym, ◌∙◌}
use mathlib.Core.List.{IsPrefix}
use Rattle.left_right.specs.Sides.{view}
use Rattle.un_publish.proofs.Prefixes.{prefix_self}
use Rattle.un_publish.proofs.Turns.{looks}
use Rattle.un_publish.proofs.board.writer_of.Goals as goal

pub publish_or_end-requires : goal.publish_or_end-requires
publish_or_end-requires g c =
    let desk = c.in-Ok-new.writer.desk in
    let same : desk.shown.value ≡ c.in-Ok.next = c.in-Ok-new.ensures.0 ∙ sym c.in-Ok.ensures in
    let begins : IsPrefix desk.shown.value.1 c.in-Ok.next.1 = rw same (prefix_self c.in-Ok.next.1) in
    looks desk.place.id (view desk.place) desk.shown.value c.in-Ok.next begins
