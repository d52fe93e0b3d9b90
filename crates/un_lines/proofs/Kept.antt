-- From how far reading the first line has come to what it answers.
use Rattle.std.proofs.Common.{◌≡◌, ◌≢◌, ℕ, ◌+◌, ◌<◌, ◌≤◌, Bool, true, false, List, [], ◌++◌, Option, length, length-append, refl, sym, ◌∙◌, ap, arith}
use Rattle.std.proofs.lemmas.List.{append-nil}
use Rattle.std.specs.Io.KnownBytes.{Consumes, Keeps, IsAtEnd}
use Rattle.un_io.proofs.Chains.{Consumes-trans, Consumes-kept}
use Rattle.un_lines.specs.Cut.{most_bytes, lines_of}
use Rattle.un_lines.specs.Rules.{kind_of}
use Rattle.un_lines.specs.Held.{Holds}
use Rattle.un_lines.specs.First.{kept_by, first_kept, HasRead, IsFirst}
use Rattle.un_lines.specs.Passing.{Passed, IsSettled, PassesTo, IsPassing, IsKept, kept_as}
use Rattle.un_lines.specs.declared.line.Kind.{Kind}
use Rattle.un_lines.specs.declared.line.Kind.TheVariants.{TooLong as OverLong, Blank, Request}
use Rattle.un_lines.specs.declared.first.FirstLine.TheVariants.{Missing}
use Rattle.un_lines.proofs.Passes.{first_at_end, first_so_far, kept_held}

-- what was read is the rest that the buffer holds, behind blank lines
first_of_rest : (ended : Bool) (read held : List ℕ) (over : Bool) → (passed : Passed read held over) → first_kept (lines_of ended read) ≡ first_kept (lines_of ended passed.rest)
first_of_rest ended read held over passed =
    ap (λ x. first_kept (lines_of ended x)) (sym (append-nil read)) ∙ passed.same ended [] ∙ ap (λ x. first_kept (lines_of ended x)) (append-nil passed.rest)

missing_so_far : (read held : List ℕ) (over : Bool) → Passed read held over → first_kept (lines_of false read) ≡ Missing
missing_so_far read held over passed = first_of_rest false read held over passed ∙ first_so_far passed.rest passed.unfinished

-- the unfinished line is the last
kept_last : (held : List ℕ) (over : Bool) (line : List ℕ) (kind : Kind) → Holds held over line → kind ≡ kind_of line → kept_by kind line Missing ≡ kept_as kind held
kept_last held over line OverLong holds is = refl
kept_last held over line Blank holds is = refl
kept_last held over line Request holds is = kept_held held over line Request holds is (λ e. cc) Missing

-- the input has ended
pub at_end : (left mid left' : Option (List ℕ)) (held : List ℕ) (over : Bool) (count : ℕ) (kind : Kind) → IsPassing left mid held over count → Keeps mid left' → IsAtEnd left' → count < most_bytes → ((line : List ℕ) → Holds held over line → kind ≡ kind_of line) → HasRead left left' (λ read. IsKept read left' (kept_as kind held))
at_end left mid left' held over count kind passing keeps end below is_kind =
    let read = passing.0 in
    let size = passing.1.1.0 in
    let passed = passing.1.1.1 in
    let is = is_kind passed.rest passed.holds in
    let first : IsFirst read left' (kept_as kind held) = record {
      ended = true;
      is = first_of_rest true read held over passed ∙ first_at_end passed.rest passed.unfinished ∙ ap (λ k. kept_by k passed.rest Missing) (sym is) ∙ kept_last held over passed.rest kind passed.holds is;
      within = omega (arith, size, below);
      at_end = λ _. end;
      below = λ _. omega (arith, size, below);
      missing = λ _. refl;
    } in
    (read, (Consumes-kept left mid left' read passing.1.0 keeps, record { is_first = first; settled = λ is. cc }))

-- the source failed
pub failed : (left mid left' : Option (List ℕ)) (held : List ℕ) (over : Bool) (count : ℕ) → IsPassing left mid held over count → Keeps mid left' → count < most_bytes → HasRead left left' (λ read. (length read < most_bytes) × (first_kept (lines_of false read) ≡ Missing))
failed left mid left' held over count passing keeps below =
    (passing.0, (Consumes-kept left mid left' passing.0 passing.1.0 keeps, (omega (arith, passing.1.1.0, below), missing_so_far passing.0 held over passing.1.1.1)))

-- the limit was reached
pub reached : (left left' : Option (List ℕ)) (held : List ℕ) (over : Bool) (count : ℕ) → IsPassing left left' held over count → count ≡ most_bytes → HasRead left left' (λ read. (length read ≡ most_bytes) × (first_kept (lines_of false read) ≡ Missing))
reached left left' held over count passing all =
    (passing.0, (passing.1.0, (passing.1.1.0 ∙ all, missing_so_far passing.0 held over passing.1.1.1)))

-- all lines of a piece are blank
pub piece_passed : (left mid left' : Option (List ℕ)) (held held' : List ℕ) (over over' : Bool) (count : ℕ) (piece : List ℕ) → (passing : IsPassing left mid held over count) → Consumes mid left' piece → Passed (passing.0 ++ piece) held' over' → IsPassing left left' held' over' (count + length piece)
piece_passed left mid left' held held' over over' count piece passing consumed passed =
    (passing.0 ++ piece, (Consumes-trans left mid left' passing.0 piece passing.1.0 consumed, (length-append passing.0 piece ∙ ap (λ n. n + length piece) passing.1.1.0, passed)))

settled_by : (read held : List ℕ) (over : Bool) (kind : Kind) → kind ≢ Blank → PassesTo read held over kind → IsSettled read (kept_as kind held)
settled_by read held over OverLong other settled = settled
settled_by read held over Blank other passed = absurd (other refl)
settled_by read held over Request other settled = settled

not_missing : (kind : Kind) (held : List ℕ) → kind ≢ Blank → kept_as kind held ≡ Missing → false ≡ true
not_missing OverLong held other is = cc
not_missing Blank held other is = absurd (other refl)
not_missing Request held other is = cc

-- the first line has ended in a piece
pub piece_found : (left mid left' : Option (List ℕ)) (held held' : List ℕ) (over over' : Bool) (count : ℕ) (piece : List ℕ) (kind : Kind) → (passing : IsPassing left mid held over count) → Consumes mid left' piece → count + length piece ≤ most_bytes → kind ≢ Blank → PassesTo (passing.0 ++ piece) held' over' kind → HasRead left left' (λ read. IsKept read left' (kept_as kind held'))
piece_found left mid left' held held' over over' count piece kind passing consumed fits other passes =
    let read = passing.0 ++ piece in
    let settled = settled_by read held' over' kind other passes in
    let first : IsFirst read left' (kept_as kind held') = record {
      ended = false;
      is = ap (λ x. first_kept (lines_of false x)) (sym (append-nil read)) ∙ settled false [];
      within = omega (arith, fits, passing.1.1.0, length-append passing.0 piece);
      at_end = λ is. cc;
      below = λ is. cc;
      missing = not_missing kind held' other;
    } in
    (read, (Consumes-trans left mid left' passing.0 piece passing.1.0 consumed, record { is_first = first; settled = λ _. settled }))
