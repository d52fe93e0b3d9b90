use Rattle.std.proofs.Common.{◌≡◌, ◌++◌, filter}
use Rattle.std.specs.Map.{values_of}
use Rattle.un_assoc.specs.Links.{is_of_sort}
use Rattle.un_assoc.proofs.by_id.assocs_of_sort.Given as goal

-- those so far, with those to come, are all of the sort
abbrev pub invariant-loop-assoc : goal.invariant-loop-assoc
invariant-loop-assoc l = l.found.items ++ filter (is_of_sort l.sort) (values_of l.assoc-iterator) ≡ filter (is_of_sort l.sort) (values_of l.pairs)
