-- The first line that isn't blank.
use Rattle.std.specs.Prelude.{◌≡◌, ℕ, ◌<◌, ◌≤◌, Bool, true, false, List, [], ◌∷◌, Option, Some, Result, MatchResult, length}
use Rattle.std.specs.Io.KnownBytes.{Consumes, IsAtEnd}
use Rattle.un_io.specs.Outside.{Rose}
use Rattle.un_lines.specs.Cut.{most_bytes, lines_of}
use Rattle.un_lines.specs.Rules.{kind_of}
use Rattle.un_lines.specs.declared.line.Kind.{Kind}
use Rattle.un_lines.specs.declared.line.Kind.TheVariants.{TooLong as OverLong, Blank, Request}
use Rattle.un_lines.specs.declared.first.FirstLine.{FirstLine}
use Rattle.un_lines.specs.declared.first.FirstLine.TheVariants.{Line, TooLong, Missing}
use Rattle.un_lines.specs.declared.first.FirstFault.{FirstFault}
use Rattle.un_lines.specs.declared.first.FirstFault.TheVariants.{Memory}

-- a line of this kind, before lines of which this one is the first that isn't blank
abbrev pub kept_by : Kind → List ℕ → FirstLine → FirstLine
kept_by OverLong line later = TooLong
kept_by Blank line later = later
kept_by Request line later = Line line

-- the first of the lines that isn't blank
abbrev pub first_kept : List (List ℕ) → FirstLine
first_kept [] = Missing
first_kept (line ∷ lines) = kept_by (kind_of line) line (first_kept lines)

-- bytes were read of which this holds
abbrev pub HasRead : Option (List ℕ) → Option (List ℕ) → (List ℕ → Type 0) → Type 0
HasRead left left' P = (read : List ℕ) × (Consumes left left' read × P read)

-- The first line among those of the bytes read, whose last one counts if the input has ended. A missing one is missing in the
-- whole input.
pub record IsFirst (read : List ℕ) (left : Option (List ℕ)) (first : FirstLine) : Type 0 where
  pub ended : Bool
  pub is : first_kept (lines_of ended read) ≡ first
  pub within : length read ≤ most_bytes
  pub at_end : ended ≡ true → IsAtEnd left
  pub below : ended ≡ true → length read < most_bytes
  pub missing : first ≡ Missing → ended ≡ true

-- bytes were read up to this first line
abbrev pub ReadsFirst : Option (List ℕ) → Option (List ℕ) → FirstLine → Type 0
ReadsFirst left left' first = HasRead left left' (λ read. IsFirst read left' first)

-- fewer bytes than the limit were read, and all whole lines among them are blank
abbrev pub ReadsBlankLines : Option (List ℕ) → Option (List ℕ) → Type 0
ReadsBlankLines left left' = HasRead left left' (λ read. (length read < most_bytes) × (first_kept (lines_of false read) ≡ Missing))

-- as many bytes as the limit were read, and all whole lines among them are blank
abbrev pub ReadsBlankToLimit : Option (List ℕ) → Option (List ℕ) → Type 0
ReadsBlankToLimit left left' = HasRead left left' (λ read. (length read ≡ most_bytes) × (first_kept (lines_of false read) ≡ Missing))

-- if the input is known and below the limit, and no read failed, the result is its first line, unless memory ran out
abbrev pub FindsFirst : Option (List ℕ) → ℕ → ℕ → Result FirstLine FirstFault → Type 0
FindsFirst left faults faults' result = (bytes : List ℕ) → left ≡ Some bytes → length bytes < most_bytes → ¬ (Rose faults faults') → MatchResult result (λ first. first ≡ first_kept (lines_of true bytes)) (λ fault. fault ≡ Memory)
