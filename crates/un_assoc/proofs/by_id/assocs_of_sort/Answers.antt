use Rattle.std.proofs.Common.{◌≡◌, ℕ, ◌++◌, ◌∙◌, filter, List, [], ◌∷◌, refl, ap}
use Rattle.std.specs.Ordering.{nat_cmp}
use Rattle.std.specs.Map.{values_of}
use Rattle.std.specs.declared.ops.Bound.TheVariants as bound
use Rattle.un_defs.specs.declared.assoc.Assoc.{Assoc}
use Rattle.un_pages.specs.Pairs.{from_on}
use Rattle.un_assoc.specs.Links.{is_of_sort}
use Rattle.un_assoc.proofs.by_id.assocs_of_sort.Goals as goal

-- from no bound on there are all
from_all : (pairs : List (ℕ × Assoc)) → from_on nat_cmp bound.Unbounded pairs ≡ pairs
from_all [] = refl
from_all (pair ∷ pairs) = ap (λ rest. pair ∷ rest) (from_all pairs)

pub loop-assoc-init : goal.loop-assoc-init
loop-assoc-init c =
    ap (λ l. l ++ filter (is_of_sort c.args.sort) (values_of c.into_iter-assoc-iterator.result)) c.new-found.ensures.items
    ∙ ap (λ pairs. filter (is_of_sort c.args.sort) (values_of pairs))
    (c.into_iter-assoc-iterator.ensures.into_iter_gives ∙ c.range-assoc-items.ensures.pairs ∙ from_all c.args.pairs.now)
