-- What the rule lets a writer do from its place, and what a new reader learns from it.
use Rattle.std.specs.Prelude.{ℕ, List, Option}
use Rattle.atomic_table.specs.declared.shared.Seat.{Seat}
use Rattle.left_right.specs.declared.part.Part.{Part}
use Rattle.left_right.specs.declared.board.Doing.{Doing}
use Rattle.left_right.specs.Sides.{view}
use Rattle.left_right.specs.Register.{TurnsAt, Forks, Merges}

-- the place of a writer or a reader
abbrev pub Place : Type 0 → Type 0 → Type 0
Place T V = Seat (Option (Part T)) (Doing T V)

module _ {T V : Type 0} (holds : T → List V → Type 0) where
  -- the rule lets the writer replace the shown value by the next one
  abbrev pub MayShow : Place T V → T → T → (V → T → T → V → Type 0) → Type 0
  MayShow place shown next told = TurnsAt holds place.id (view place) shown next told

  -- the rule lets the writer tell what it knows: `right` of that is told, and `left` of it stays
  abbrev pub MayTell : Place T V → (V → V) → (V → V) → Type 0
  MayTell place left right = Forks holds place.id (view place) (left (view place)) (right (view place))

  -- the rule lets a new reader take in what was told
  abbrev pub MayLearn : V → V → (V → V → V) → V → Type 0
  MayLearn first told both spent = (seat other : ℕ) → Merges holds seat first other told (both first told) spent
