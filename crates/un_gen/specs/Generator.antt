-- A large network from a number: joints on a grid, 20 in a row; pipes along each row and, where a draw says so, from a row to the next one; and
-- a validation of all of it.
use Rattle.std.specs.Prelude.{ℕ, zero, suc, Bool, ◌+◌, ◌*◌, ◌/◌, ◌%◌, ◌==◌, nat_lt, ℤ, pos, not, ◌&&◌, if◌then◌else◌, List, [], ◌∷◌, ◌++◌, map, codes}
use Rattle.std.specs.List.{range_with_len}
use Rattle.un_geom.specs.Rectangle.{Rectangle, rectangle}
use Rattle.un_defs.specs.declared.row.Flow.TheVariants.{Both}
use Rattle.un_defs.specs.declared.edit.Edit.TheVariants.{Insert}
use Rattle.un_ask.specs.declared.request.Command.{Command}
use Rattle.un_ask.specs.declared.request.Command.TheVariants.{Edit, Validate}

-- ---- draws

-- the state of the draws at the start
abbrev pub seeded : ℕ → ℕ
seeded seed = seed % 2147483648

-- the state after a draw
abbrev pub draw : ℕ → ℕ
draw x = (x * 1103515245 + 12345) % 2147483648

-- the number that was drawn, from 0 to 7, by the state after the draw
abbrev pub drawn : ℕ → ℕ
drawn x = (x / 65536) % 8

-- ---- places

-- the point of a place, in millimetres
abbrev pub point_of : ℕ → List ℤ
point_of i = pos (1000 * (i % 20)) ∷ pos (1000 * (i / 20)) ∷ pos 0 ∷ []

-- of `n` places: the next place is in the same row
abbrev pub has_next : ℕ → ℕ → Bool
has_next n i = not (i % 20 == 19) && nat_lt (i + 1) n

-- of `n` places: there is one above, in the next row
abbrev pub has_above : ℕ → ℕ → Bool
has_above n i = nat_lt (i + 20) n

-- ---- commands

-- an insert of a feature that has no attributes and no note, whose flow goes both ways, and which has no terminal chosen at its ends
abbrev pub inserted : List ℕ → List (List ℤ) → Command
inserted kind points = Edit (Insert kind points [] Both (0 ∷ 0 ∷ []) [])

abbrev pub joint_at : ℕ → Command
joint_at i = inserted (codes "joint") (point_of i ∷ [])

abbrev pub pipe_between : ℕ → ℕ → Command
pipe_between i j = inserted (codes "pipe") (point_of i ∷ point_of j ∷ [])

-- the pipe to the next place of the row
abbrev pub along : ℕ → ℕ → List Command
along n i = if has_next n i then pipe_between i (i + 1) ∷ [] else []

-- The pipe to the place above, unless 0 is drawn. The state is that before the draw.
abbrev pub across : ℕ → ℕ → ℕ → List Command
across n x i = if has_above n i && not (drawn (draw x) == 0) then pipe_between i (i + 20) ∷ [] else []

-- the pipes from a place
abbrev pub pipes_at : ℕ → ℕ → ℕ → List Command
pipes_at n x i = along n i ++ across n x i

-- the state after the pipes from a place: each place that has one above makes one draw
abbrev pub state_after : ℕ → ℕ → ℕ → ℕ
state_after n x i = if has_above n i then draw x else x

-- the state when the places before this one are done
abbrev pub state_at : ℕ → ℕ → ℕ → ℕ
state_at n x zero = x
state_at n x (suc i) = state_after n (state_at n x i) i

-- the joints of `n` places
abbrev pub joints : ℕ → List Command
joints n = map joint_at (range_with_len 0 n)

-- the pipes from the first places, of `n` places, with the state at the start
abbrev pub pipes : ℕ → ℕ → ℕ → List Command
pipes n x zero = []
pipes n x (suc i) = pipes n x i ++ pipes_at n (state_at n x i) i

-- the extent of what is generated
abbrev pub whole : Rectangle
whole = rectangle (pos 0) (pos 0) (pos 1_000_000_000) (pos 1_000_000_000)

-- the commands that make a network of `count` places
abbrev pub generated : ℕ → ℕ → List Command
generated seed count = joints count ++ pipes count (seeded seed) count ++ Validate whole ∷ []
