-- The line that a line buffer holds, and what handling it does.
use Rattle.std.specs.Prelude.{ℕ, List, ◌++◌, Option}
use Rattle.un_lines.specs.Held.{Holds}
use Rattle.un_lines.specs.Rules.{Rules, kind_of, mode_of}
use Rattle.un_lines.specs.Handling.{Handles}
use Rattle.un_lines.specs.Run.{HasCome, Takes}
use Rattle.un_lines.specs.declared.line.LineBuffer.{LineBuffer}
use Rattle.un_lines.specs.declared.handle.Handled.{Handled}
use Rattle.un_lines.specs.declared.piece.Step.{Step}

-- the buffer holds this part of a line, or the part is over the longest line
abbrev pub HoldsLine : LineBuffer → List ℕ → Type 0
HoldsLine buffer line = Holds buffer.bytes.items buffer.over line

-- the line that the buffer holds and that ends with this part is handled
abbrev pub HandlesHeld : {State : Type 0} → Rules State → LineBuffer → List ℕ → Option State → Option State → List ℕ → List ℕ → Handled → Type 0
HandlesHeld rules buffer part old new before after result = (line : List ℕ) → HoldsLine buffer line → Handles rules (kind_of (line ++ part)) (line ++ part) old new before after result

-- however far the run has come with these replies waiting, the piece is taken, and these bytes are written
abbrev pub TakesPiece : {State : Type 0} → Rules State → LineBuffer → LineBuffer → Option State → Option State → List ℕ → List ℕ → Option (List ℕ) → Option (List ℕ) → Step → Type 0
TakesPiece rules buffer buffer' state state' piece out taken taken' result = (read before : List ℕ) → HasCome rules read buffer.bytes.items buffer.over (mode_of state) (before ++ out) → Takes rules read before piece taken taken' buffer'.bytes.items buffer'.over state' result
