-- The lines of the bytes read so far are lines of all bytes, so what became of the first line stays so.
use Rattle.std.proofs.Common.{◌≡◌, ◌≢◌, ◌⊎◌, inl, inr, ℕ, ◌≤◌, Bool, true, false, cond, List, [], ◌∷◌, ◌++◌, Option, Some, None, length, length-append, refl, sym, ap, ◌∙◌, subst, append-nil, arith}
use Rattle.std.specs.List.{slice_split, onto_first}
use Rattle.std.specs.Io.KnownBytes.{Consumes, IsAtEnd}
use Rattle.un_lines.specs.Cut.{is_line_end, lines_among, lines_of}
use Rattle.un_lines.specs.Rules.{Rules, kind_of}
use Rattle.un_lines.specs.Due.{First, Missing, Opens, Refuses, first_by, first_of}
use Rattle.un_lines.specs.declared.line.Kind.{Kind}
use Rattle.un_lines.specs.declared.line.Kind.TheVariants.{TooLong, Blank, Request}

-- the parts but for the last stand at the front of the others, which have a part behind them
GoOn : List (List ℕ) → List (List ℕ) → Type 0
GoOn [] others = Unit {0}
GoOn (part ∷ []) others = Unit {0}
GoOn (part ∷ next ∷ parts) [] = ⊥
GoOn (part ∷ next ∷ parts) (other ∷ []) = ⊥
GoOn (part ∷ next ∷ parts) (other ∷ further ∷ others) = (part ≡ other) × GoOn (next ∷ parts) (further ∷ others)

-- another first part
ended_first : (parts others : List (List ℕ)) → parts ≢ [] → others ≢ [] → GoOn parts others → GoOn ([] ∷ parts) ([] ∷ others)
unfolding GoOn
ended_first [] others some more go = absurd (some refl)
ended_first (part ∷ parts) [] some more go = absurd (more refl)
ended_first (part ∷ parts) (other ∷ others) some more go = (refl, go)

-- one more byte in the first part
longer_first : (x : ℕ) (parts others : List (List ℕ)) → GoOn parts others → GoOn (onto_first x parts) (onto_first x others)
unfolding GoOn
longer_first x [] others go = tt
longer_first x (part ∷ []) others go = tt
longer_first x (part ∷ next ∷ parts) [] go = absurd go
longer_first x (part ∷ next ∷ parts) (other ∷ []) go = absurd go
longer_first x (part ∷ next ∷ parts) (other ∷ further ∷ others) go = (ap (λ p. x ∷ p) go.0, go.1)

-- there is a part
some_part : (bytes : List ℕ) → slice_split is_line_end bytes ≢ []
some_part [] = λ e. cc
some_part (x ∷ bytes) = go (is_line_end x) (slice_split is_line_end bytes) (some_part bytes)
  where
    go : (b : Bool) (parts : List (List ℕ)) → parts ≢ [] → cond b ([] ∷ parts) (onto_first x parts) ≢ []
    go true parts some e = cc
    go false [] some e = some refl
    go false (part ∷ parts) some e = cc

parts_go_on : (read rest : List ℕ) → GoOn (slice_split is_line_end read) (slice_split is_line_end (read ++ rest))
unfolding GoOn
parts_go_on [] rest = tt
parts_go_on (x ∷ read) rest = go (is_line_end x) (parts_go_on read rest)
  where
    go : (b : Bool) → GoOn (slice_split is_line_end read) (slice_split is_line_end (read ++ rest)) → GoOn (cond b ([] ∷ slice_split is_line_end read) (onto_first x (slice_split is_line_end read))) (cond b ([] ∷ slice_split is_line_end (read ++ rest)) (onto_first x (slice_split is_line_end (read ++ rest))))
    go true goes = ended_first (slice_split is_line_end read) (slice_split is_line_end (read ++ rest)) (some_part read) (some_part (read ++ rest)) goes
    go false goes = longer_first x (slice_split is_line_end read) (slice_split is_line_end (read ++ rest)) goes

module _ {State : Type 0} (rules : Rules State) where
  -- a first line that is refused among the front is refused among all
  refused_by : (kind : Kind) (opened : Option State) (first later : First) → (first ≡ Refuses → later ≡ Refuses) → first_by kind opened first ≡ Refuses → first_by kind opened later ≡ Refuses
  refused_by TooLong opened first later stays is = refl
  refused_by Blank opened first later stays is = stays is
  refused_by Request None first later stays is = refl
  refused_by Request (Some state) first later stays is = is

  stays_refused : (parts others : List (List ℕ)) → GoOn parts others → first_of rules (lines_among false parts) ≡ Refuses → first_of rules (lines_among true others) ≡ Refuses
  unfolding GoOn
  stays_refused [] others go is = cc
  stays_refused (part ∷ []) others go is = cc
  stays_refused (part ∷ next ∷ parts) [] go is = absurd go
  stays_refused (part ∷ next ∷ parts) (other ∷ []) go is = absurd go
  stays_refused (part ∷ next ∷ parts) (other ∷ further ∷ others) go is =
      subst (λ line. first_by (kind_of line) (rules.opened line) (first_of rules (lines_among true (further ∷ others))) ≡ Refuses) go.0
      (refused_by (kind_of part) (rules.opened part) (first_of rules (lines_among false (next ∷ parts))) (first_of rules (lines_among true (further ∷ others)))
      (stays_refused (next ∷ parts) (further ∷ others) go.1) is)

  -- where the first of all lines opens a state, none of those read so far was refused, and none is missing at the end
  pub opens_so_far : (bytes read : List ℕ) (left : Option (List ℕ)) (ended : Bool) → Consumes (Some bytes) left read → (ended ≡ true → IsAtEnd left) → first_of rules (lines_of true bytes) ≡ Opens
      → (first_of rules (lines_of ended read) ≡ Refuses) ⊎ ((ended ≡ true) × (first_of rules (lines_of ended read) ≡ Missing)) → ⊥
  opens_so_far bytes read None ended consumed at_end opens turned = consumed
  opens_so_far bytes read (Some rest) false consumed at_end opens (inl refuses) =
      let later = stays_refused (slice_split is_line_end read) (slice_split is_line_end (read ++ rest)) (parts_go_on read rest) refuses in
      let first : Opens ≡ Refuses = sym opens ∙ ap (λ all. first_of rules (lines_of true all)) consumed ∙ later in
      cc
  opens_so_far bytes read (Some rest) false consumed at_end opens (inr missing) = cc
  opens_so_far bytes read (Some rest) true consumed at_end opens turned =
      let none : rest ≡ [] = at_end refl in
      let same : bytes ≡ read = consumed ∙ ap (λ more. read ++ more) none ∙ append-nil read in
      let first : first_of rules (lines_of true read) ≡ Opens = subst (λ all. first_of rules (lines_of true all) ≡ Opens) same opens in
      neither turned first
    where
      neither : (first_of rules (lines_of true read) ≡ Refuses) ⊎ ((true ≡ true) × (first_of rules (lines_of true read) ≡ Missing)) → first_of rules (lines_of true read) ≡ Opens → ⊥
      neither (inl refuses) first = let e : Opens ≡ Refuses = sym first ∙ refuses in cc
      neither (inr missing) first = let e : Opens ≡ Missing = sym first ∙ missing.1 in cc

-- no more is read than there is
pub read_fits : (bytes read : List ℕ) (left : Option (List ℕ)) → Consumes (Some bytes) left read → length read ≤ length bytes
read_fits bytes read None consumed = absurd consumed
read_fits bytes read (Some rest) consumed = rw consumed (omega (arith, length-append read rest))
