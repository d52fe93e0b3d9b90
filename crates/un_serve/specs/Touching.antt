-- Two states of one log, and the rectangles that the commands between them made dirty.
use Rattle.std.specs.Prelude.{◌≡◌, List, flat_map}
use Rattle.un_geom.specs.Rectangle.{Rectangle}
use Rattle.un_core.specs.State.{State}
use Rattle.un_core.specs.Commands.{step}
use Rattle.un_core.specs.Logs.{LogEntry}
use Rattle.un_turns.specs.Spans.{HasEntries}

-- these are the rectangles of the entries
abbrev pub AreMarks : List Rectangle → List LogEntry → Type 0
AreMarks rects es = rects ≡ flat_map (λ e. e.mark) es

-- some entries lead from the older state to the newer one, and these are their rectangles
abbrev pub IsTouched : State → State → List Rectangle → Type 0
IsTouched old new rects = HasEntries step AreMarks old new rects
