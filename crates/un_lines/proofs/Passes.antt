-- From the bytes of a piece to how far reading the first line has come.
use Rattle.std.proofs.Common.{◌≡◌, ◌≢◌, ℕ, ◌<◌, Bool, true, false, List, [], ◌∷◌, ◌++◌, length, refl, sym, ◌∙◌, ap, subst, append_assoc, arith}
use Rattle.std.specs.List.{slice_split}
use Rattle.std.proofs.lemmas.List.{append-nil}
use Rattle.std.proofs.lemmas.List.Splits.{slice_split_at, length-slice_split}
use Rattle.std.proofs.lemmas.List.Elements.{All-append, All-nil}
use Rattle.std.proofs.lemmas.Grind.{common_steps}
use Rattle.un_lines.specs.Cut.{NoLineEnd, is_line_end, lines_among, lines_of}
use Rattle.un_lines.specs.Rules.{kind_of}
use Rattle.un_lines.specs.Held.{Holds}
use Rattle.un_lines.specs.First.{kept_by, first_kept}
use Rattle.un_lines.specs.Passing.{Passed, IsSettled, PassesTo, PassedWithin, kept_as}
use Rattle.un_lines.specs.declared.line.Kind.{Kind}
use Rattle.un_lines.specs.declared.line.Kind.TheVariants.{TooLong as OverLong, Blank, Request}
use Rattle.un_lines.specs.declared.first.FirstLine.{FirstLine}
use Rattle.un_lines.specs.declared.first.FirstLine.TheVariants.{Line, Missing}
use Rattle.un_lines.proofs.Holding.{kind_over}
use Rattle.un_lines.proofs.Dues.{last_of, lines_are}

-- there is a part behind a line end
line_before : (ended : Bool) (line : List ℕ) (parts : List (List ℕ)) → 0 < length parts → lines_among ended (line ∷ parts) ≡ line ∷ lines_among ended parts
line_before ended line [] some = absurd (omega arith)
line_before ended line (part ∷ parts) some = refl

-- the lines of bytes that begin with this line
lines_behind : (ended : Bool) (line more : List ℕ) → NoLineEnd line → lines_of ended (line ++ 10 ∷ more) ≡ line ∷ lines_of ended more
lines_behind ended line more whole =
    ap (λ parts. lines_among ended parts) (slice_split_at is_line_end line 10 more whole refl)
    ∙ line_before ended line (slice_split is_line_end more) (omega (arith, length-slice_split is_line_end more))

-- a rest that has bytes is the last line
last_is : (rest : List ℕ) → 0 < length rest → last_of true rest ≡ rest ∷ []
last_is rest some = grind (arith, common_steps)

-- the first line of bytes without a line end, at the end of the input and before it
pub first_at_end : (rest : List ℕ) → NoLineEnd rest → first_kept (lines_of true rest) ≡ kept_by (kind_of rest) rest Missing
first_at_end [] whole = refl
first_at_end (byte ∷ rest) whole = ap first_kept (lines_are true (byte ∷ rest) [] (byte ∷ rest) refl (All-nil (λ entry. NoLineEnd entry.0)) whole ∙ last_is (byte ∷ rest) (omega arith))

pub first_so_far : (rest : List ℕ) → NoLineEnd rest → first_kept (lines_of false rest) ≡ Missing
first_so_far rest whole = ap first_kept (lines_are false rest [] rest refl (All-nil (λ entry. NoLineEnd entry.0)) whole)

-- a line ended: the first line is this one, or that of what follows
first_behind : (read held : List ℕ) (over : Bool) (prefix : List ℕ) → (passed : Passed read held over) → NoLineEnd prefix → (ended : Bool) (more : List ℕ)
    → first_kept (lines_of ended ((read ++ (prefix ++ 10 ∷ [])) ++ more)) ≡ kept_by (kind_of (passed.rest ++ prefix)) (passed.rest ++ prefix) (first_kept (lines_of ended more))
first_behind read held over prefix passed whole ended more =
    let line = passed.rest ++ prefix in
    let is_line : NoLineEnd line = All-append (λ byte. is_line_end byte ≡ false) passed.rest prefix passed.unfinished whole in
    let bytes : (read ++ (prefix ++ 10 ∷ [])) ++ more ≡ read ++ (prefix ++ 10 ∷ more) = append_assoc read (prefix ++ 10 ∷ []) more ∙ ap (λ x. read ++ x) (append_assoc prefix (10 ∷ []) more) in
    ap (λ x. first_kept (lines_of ended x)) bytes
    ∙ passed.same ended (prefix ++ 10 ∷ more)
    ∙ ap (λ x. first_kept (lines_of ended x)) (sym (append_assoc passed.rest prefix (10 ∷ more)))
    ∙ ap first_kept (lines_behind ended line more is_line)

-- a line that the buffer holds is its bytes, unless it is too long
pub kept_held : (held : List ℕ) (over : Bool) (line : List ℕ) (kind : Kind) → Holds held over line → kind ≡ kind_of line → kind ≢ Blank → (later : FirstLine) → kept_by kind line later ≡ kept_as kind held
kept_held held over line OverLong holds is other later = refl
kept_held held over line Blank holds is other later = absurd (other refl)
kept_held held true line Request holds is other later = let long = kind_over held true line refl holds in cc
kept_held held false line Request holds is other later = ap Line holds.0

-- the first line has ended
line_kept : (read held : List ℕ) (over : Bool) (prefix held' : List ℕ) (over' : Bool) (kind : Kind) → (passed : Passed read held over) → NoLineEnd prefix → Holds held' over' (passed.rest ++ prefix) → kind ≡ kind_of (passed.rest ++ prefix) → kind ≢ Blank → IsSettled (read ++ (prefix ++ 10 ∷ [])) (kept_as kind held')
line_kept read held over prefix held' over' kind passed whole holds is other ended more =
    let line = passed.rest ++ prefix in
    let later = first_kept (lines_of ended more) in
    first_behind read held over prefix passed whole ended more ∙ ap (λ k. kept_by k line later) (sym is) ∙ kept_held held' over' line kind holds is other later

-- it stays the first line
settled_more : (read more : List ℕ) (first : FirstLine) → IsSettled read first → IsSettled (read ++ more) first
settled_more read more first settled ended further = ap (λ x. first_kept (lines_of ended x)) (append_assoc read more further) ∙ settled ended (more ++ further)

pub settles : (read held : List ℕ) (over : Bool) (kind : Kind) → kind ≢ Blank → IsSettled read (kept_as kind held) → PassesTo read held over kind
settles read held over OverLong other settled = settled
settles read held over Blank other settled = absurd (other refl)
settles read held over Request other settled = settled

-- a blank line has ended
blank_passed : (read held : List ℕ) (over : Bool) (prefix held' : List ℕ) (over' : Bool) → (passed : Passed read held over) → NoLineEnd prefix → Blank ≡ kind_of (passed.rest ++ prefix) → Holds held' over' [] → Passed (read ++ (prefix ++ 10 ∷ [])) held' over'
blank_passed read held over prefix held' over' passed whole is holds = record {
  rest = [];
  unfinished = All-nil (λ byte. is_line_end byte ≡ false);
  holds = holds;
  same = λ ended more.
      first_behind read held over prefix passed whole ended more ∙ ap (λ k. kept_by k (passed.rest ++ prefix) (first_kept (lines_of ended more))) (sym is);
}

-- bytes without a line end are kept
part_passed : (read held : List ℕ) (over : Bool) (part held' : List ℕ) (over' : Bool) → (passed : Passed read held over) → NoLineEnd part → Holds held' over' (passed.rest ++ part) → Passed (read ++ part) held' over'
part_passed read held over part held' over' passed whole holds = record {
  rest = passed.rest ++ part;
  unfinished = All-append (λ byte. is_line_end byte ≡ false) passed.rest part passed.unfinished whole;
  holds = holds;
  same = λ ended more.
      ap (λ x. first_kept (lines_of ended x)) (append_assoc read part more)
      ∙ passed.same ended (part ++ more)
      ∙ ap (λ x. first_kept (lines_of ended x)) (sym (append_assoc passed.rest part more));
}

-- the same within a piece
pub within_blank : (read piece rest prefix behind held : List ℕ) (over : Bool) (held' : List ℕ) (over' : Bool) → (within : PassedWithin read piece rest held over) → NoLineEnd prefix → rest ≡ prefix ++ 10 ∷ behind → Blank ≡ kind_of (within.come.rest ++ prefix) → Holds held' over' [] → PassedWithin read piece behind held' over'
within_blank read piece rest prefix behind held over held' over' within whole split is holds = record {
  done = within.done ++ (prefix ++ 10 ∷ []);
  split = within.split ∙ ap (λ x. within.done ++ x) (split ∙ sym (append_assoc prefix (10 ∷ []) behind)) ∙ sym (append_assoc within.done (prefix ++ 10 ∷ []) behind);
  come = subst (λ bytes. Passed bytes held' over') (append_assoc read within.done (prefix ++ 10 ∷ [])) (blank_passed (read ++ within.done) held over prefix held' over' within.come whole is holds);
}

pub within_kept : (read piece rest prefix behind held : List ℕ) (over : Bool) (held' : List ℕ) (over' : Bool) (kind : Kind) → (within : PassedWithin read piece rest held over) → NoLineEnd prefix → rest ≡ prefix ++ 10 ∷ behind → Holds held' over' (within.come.rest ++ prefix) → kind ≡ kind_of (within.come.rest ++ prefix) → kind ≢ Blank → PassesTo (read ++ piece) held' over' kind
within_kept read piece rest prefix behind held over held' over' kind within whole split holds is other =
    let first = kept_as kind held' in
    let settled = settled_more ((read ++ within.done) ++ (prefix ++ 10 ∷ [])) behind first (line_kept (read ++ within.done) held over prefix held' over' kind within.come whole holds is other) in
    let bytes : ((read ++ within.done) ++ (prefix ++ 10 ∷ [])) ++ behind ≡ read ++ piece =
    append_assoc (read ++ within.done) (prefix ++ 10 ∷ []) behind ∙ ap (λ x. (read ++ within.done) ++ x) (append_assoc prefix (10 ∷ []) behind ∙ sym split)
    ∙ append_assoc read within.done rest ∙ ap (λ x. read ++ x) (sym within.split) in
    settles (read ++ piece) held' over' kind other (subst (λ x. IsSettled x first) bytes settled)

pub within_rest : (read piece rest held : List ℕ) (over : Bool) (held' : List ℕ) (over' : Bool) → (within : PassedWithin read piece rest held over) → NoLineEnd rest → Holds held' over' (within.come.rest ++ rest) → Passed (read ++ piece) held' over'
within_rest read piece rest held over held' over' within whole holds =
    let bytes : (read ++ within.done) ++ rest ≡ read ++ piece = append_assoc read within.done rest ∙ ap (λ x. read ++ x) (sym within.split) in
    subst (λ x. Passed x held' over') bytes (part_passed (read ++ within.done) held over rest held' over' within.come whole holds)

pub within_none : (read piece held : List ℕ) (over : Bool) → Passed read held over → PassedWithin read piece piece held over
within_none read piece held over passed = record {
  done = [];
  split = refl;
  come = subst (λ x. Passed x held over) (sym (append-nil read)) passed;
}
