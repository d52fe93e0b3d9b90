-- The rectangles of further entries come after those of the entries before.
use Rattle.std.proofs.Common.{◌≡◌, List, [], ◌∷◌, ◌++◌, flat_map, refl, ap, sym, ◌∙◌, append_assoc, append-nil}
use Rattle.un_geom.specs.Rectangle.{Rectangle}
use Rattle.un_core.specs.Logs.{LogEntry}
use Rattle.un_serve.specs.Touching.{AreMarks}

-- the rectangles of the entries
abbrev pub marks : List LogEntry → List Rectangle
marks es = flat_map (λ (e : LogEntry). e.mark) es

-- ---- entry by entry

-- the rectangles of all entries come after the start, but those of the rest are not added yet
pub record AreAddedBut (start : List Rectangle) (rest all : List LogEntry) (out : List Rectangle) : Type 0 where
  pub same : out ++ marks rest ≡ start ++ marks all

pub entry_one : (start : List Rectangle) (e : LogEntry) (rest all : List LogEntry) (out more : List Rectangle) → AreAddedBut start (e ∷ rest) all out → more ≡ out ++ e.mark
    → AreAddedBut start rest all more
entry_one start e rest all out more h is = record { same = ap (λ l. l ++ marks rest) is ∙ append_assoc out e.mark (marks rest) ∙ h.same }

pub entry_all : (start : List Rectangle) (all : List LogEntry) (out : List Rectangle) → AreAddedBut start [] all out → out ≡ start ++ marks all
entry_all start all out h = sym (append-nil out) ∙ h.same

-- ---- part by part

marks-append : (es more : List LogEntry) → marks (es ++ more) ≡ marks es ++ marks more
marks-append [] more = refl
marks-append (e ∷ es) more = ap (λ (l : List Rectangle). e.mark ++ l) (marks-append es more) ∙ sym (append_assoc e.mark (marks es) (marks more))

pub gathered_more : (old new : List Rectangle) (before more : List LogEntry) → new ≡ old ++ marks more → AreMarks old before → AreMarks new (before ++ more)
gathered_more old new before more is was = is ∙ ap (λ (l : List Rectangle). l ++ marks more) was ∙ sym (marks-append before more)
