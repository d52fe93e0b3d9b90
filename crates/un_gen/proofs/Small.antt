-- Small networks, written out.
use Rattle.std.specs.Prelude.{◌≡◌, pos, [], ◌∷◌, codes}
use Rattle.std.proofs.Common.{refl}
use Rattle.un_geom.specs.Rectangle.{rectangle}
use Rattle.un_defs.specs.declared.row.Flow.TheVariants.{Both}
use Rattle.un_defs.specs.declared.edit.Edit.TheVariants.{Insert}
use Rattle.un_ask.specs.declared.request.Command.TheVariants.{Edit, Validate}
use Rattle.un_gen.specs.Generator.{generated, drawn, draw, across, state_at, pipe_between}

-- three joints in one row, two pipes, and no draw
three : generated 7 3 ≡
    Edit (Insert (codes "joint") ((pos 0 ∷ pos 0 ∷ pos 0 ∷ []) ∷ []) [] Both (0 ∷ 0 ∷ []) [])
    ∷ Edit (Insert (codes "joint") ((pos 1000 ∷ pos 0 ∷ pos 0 ∷ []) ∷ []) [] Both (0 ∷ 0 ∷ []) [])
    ∷ Edit (Insert (codes "joint") ((pos 2000 ∷ pos 0 ∷ pos 0 ∷ []) ∷ []) [] Both (0 ∷ 0 ∷ []) [])
    ∷ Edit (Insert (codes "pipe") ((pos 0 ∷ pos 0 ∷ pos 0 ∷ []) ∷ (pos 1000 ∷ pos 0 ∷ pos 0 ∷ []) ∷ []) [] Both (0 ∷ 0 ∷ []) [])
    ∷ Edit (Insert (codes "pipe") ((pos 1000 ∷ pos 0 ∷ pos 0 ∷ []) ∷ (pos 2000 ∷ pos 0 ∷ pos 0 ∷ []) ∷ []) [] Both (0 ∷ 0 ∷ []) [])
    ∷ Validate (rectangle (pos 0) (pos 0) (pos 1_000_000_000) (pos 1_000_000_000))
    ∷ []
three = refl

-- the first draw from 7 gives 4, so there is a pipe from the first place to the one above it
first_draw : drawn (draw 7) ≡ 4
first_draw = refl

first_above : across 21 7 0 ≡ pipe_between 0 20 ∷ []
first_above = refl

-- of 21 places only the first has one above, so there is one draw
one_draw : state_at 21 7 21 ≡ 1282168116
one_draw = refl
