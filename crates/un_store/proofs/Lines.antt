-- The points of the lines of a kind, row by row.
use Rattle.std.proofs.Common.{◌≡◌, ℕ, true, cond, List, [], ◌∷◌, ◌++◌, filter, flat_map, refl, sym, ap, ◌∙◌, append_assoc}
use Rattle.std.specs.Ordering.{nat_cmp}
use Rattle.std.specs.Map.{values_of}
use Rattle.std.specs.declared.ops.Bound.TheVariants as bound
use Rattle.un_geom.specs.declared.point.Point.{Point}
use Rattle.un_defs.specs.declared.row.Row.{Row}
use Rattle.un_pages.specs.Pairs.{from_on}
use Rattle.un_store.specs.Keyed.{is_line_of, line_points}

-- from no bound on there are all
pub from_all : (pairs : List (ℕ × Row)) → from_on nat_cmp bound.Unbounded pairs ≡ pairs
from_all [] = refl
from_all (pair ∷ pairs) = ap (λ rest. pair ∷ rest) (from_all pairs)

-- the points of a line come before those of the rows after it
pub line_next : (kind : ℕ) (points whole : List Point) (rest more : List (ℕ × Row)) (p : ℕ × Row) → rest ≡ p ∷ more → is_line_of kind p.1 ≡ true
    → points ++ line_points kind (values_of rest) ≡ whole → (points ++ p.1.shape) ++ line_points kind (values_of more) ≡ whole
line_next kind points whole rest more p steps is before =
    append_assoc points p.1.shape (line_points kind (values_of more))
    ∙ ap (λ l. points ++ l)
    (sym (ap (λ l. line_points kind (values_of l)) steps
    ∙ ap (λ b. flat_map (λ r. r.shape) (cond b (p.1 ∷ filter (is_line_of kind) (values_of more)) (filter (is_line_of kind) (values_of more)))) is))
    ∙ before
