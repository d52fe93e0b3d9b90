use Rattle.std.proofs.Common.{◌≡◌, ℕ, length}
use Rattle.un_diagram.specs.Colours.{HasColour}
use Rattle.un_diagram.proofs.colours.no_colours.Given as goal

abbrev pub invariant-loop-place : goal.invariant-loop-place
invariant-loop-place l = record {
  count : length l.colours.items ≡ l.«_place»;
  none : (i f : ℕ) → HasColour l.colours.items i f → ⊥;
}
