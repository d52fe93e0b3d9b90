-- The rule between a log and the word that stands for it, and what a step at the word tells.
use Rattle.std.specs.Prelude.{ℕ, ◌≡◌, ◌⊎◌, ◌==◌, ◌≤◌, ◌<◌, ◌^◌, Bool, true, List, [], ◌∷◌, ◌++◌, length, MatchBool}
use mathlib.Core.List.{IsPrefix}
use Rattle.logbook.specs.Pages.{Cell, Step, View, Book, Named}

-- the book of a name that no call has picked
abbrev pub no_book : Book
no_book = record { number = 0; log_name = 0; cells_name = 0 }

-- the first word of a book
abbrev pub head_of : Book → Named
head_of b = record { tracked = true; key = 0; book = b }

module _ {E : Type 0} where
  -- the first word is the length of the log. A book has two words, and the second one stays at 0
  pub record IsKept (cells : List Cell) (log : List E) : Type 0 where
    pub words : cells ≡ (length log, true) ∷ (0, true) ∷ []

  -- the entry was added to all that had been seen; or the log was longer, and was seen
  abbrev pub Adds : Step E → View E ℕ → ℕ → View E ℕ → Type 0
  Adds s v found w = MatchBool (found == s.old) (w.0 ≡ v.0 ++ s.ask ∷ []) (length w.0 ≡ found)

  -- ys begins with xs, and goes on
  abbrev pub IsLonger : List E → List E → Type 0
  IsLonger xs ys = IsPrefix xs ys × (length xs < length ys)

  -- as many entries as a log may have, and none was added
  abbrev pub IsFull : List E → List E → Type 0
  IsFull xs ys = (2 ^ 62 ≤ length xs) × (ys ≡ xs)

  -- the entry was added; or the log was longer, and more of it was seen; or it is full
  abbrev pub AddsEntry : List E → List E → E → Bool → Type 0
  AddsEntry xs ys entry added = MatchBool added (ys ≡ xs ++ entry ∷ []) (IsLonger xs ys ⊎ IsFull xs ys)
