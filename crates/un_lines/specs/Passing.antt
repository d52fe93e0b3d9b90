-- How far reading the first line has come.
use Rattle.std.specs.Prelude.{◌≡◌, ℕ, Bool, false, List, ◌++◌, Option, length}
use Rattle.un_lines.specs.Cut.{NoLineEnd, lines_of}
use Rattle.un_lines.specs.Held.{Holds}
use Rattle.un_lines.specs.First.{first_kept, HasRead, IsFirst}
use Rattle.un_lines.specs.declared.line.Kind.{Kind}
use Rattle.un_lines.specs.declared.line.Kind.TheVariants.{TooLong as OverLong, Blank, Request}
use Rattle.un_lines.specs.declared.first.FirstLine.{FirstLine}
use Rattle.un_lines.specs.declared.first.FirstLine.TheVariants.{Line, TooLong, Missing}

-- The lines that have ended are blank, and the buffer holds the rest of the bytes read: whatever follows, the first line is
-- that of the rest and what follows.
pub record Passed (read held : List ℕ) (over : Bool) : Type 0 where
  pub rest : List ℕ
  pub unfinished : NoLineEnd rest
  pub holds : Holds held over rest
  pub same : (ended : Bool) (more : List ℕ) → first_kept (lines_of ended (read ++ more)) ≡ first_kept (lines_of ended (rest ++ more))

-- whatever follows the bytes read, this is the first line
abbrev pub IsSettled : List ℕ → FirstLine → Type 0
IsSettled read first = (ended : Bool) (more : List ℕ) → first_kept (lines_of ended (read ++ more)) ≡ first

-- the first line, if the buffer holds it and it is of this kind
abbrev pub kept_as : Kind → List ℕ → FirstLine
kept_as OverLong held = TooLong
kept_as Blank held = Missing
kept_as Request held = Line held

-- the first line has ended, and the buffer holds it, or all lines that have ended are blank
abbrev pub PassesTo : List ℕ → List ℕ → Bool → Kind → Type 0
PassesTo read held over OverLong = IsSettled read TooLong
PassesTo read held over Blank = Passed read held over
PassesTo read held over Request = IsSettled read (Line held)

-- within a piece that follows the bytes read: part of it is passed over
pub record PassedWithin (read piece rest held : List ℕ) (over : Bool) : Type 0 where
  pub done : List ℕ
  pub split : piece ≡ done ++ rest
  pub come : Passed (read ++ done) held over

-- between two pieces: this many bytes were read
abbrev pub IsPassing : Option (List ℕ) → Option (List ℕ) → List ℕ → Bool → ℕ → Type 0
IsPassing left left' held over count = HasRead left left' (λ read. (length read ≡ count) × Passed read held over)

-- the first line, which stays so whatever follows
pub record IsKept (read : List ℕ) (left : Option (List ℕ)) (first : FirstLine) : Type 0 where
  pub is_first : IsFirst read left first
  pub settled : is_first.ended ≡ false → IsSettled read first
