use Rattle.std.proofs.Common.{◌≡◌, drop}
use Rattle.std.specs.Map.{lookup}
use Rattle.std.specs.BTreeMap.{is_at}
use Rattle.un_pages.proofs.page.PageLevel.get.Given as goal

-- no pair so far has the key
abbrev pub invariant-loop-at : goal.invariant-loop-at
invariant-loop-at g l = lookup (is_at (g.K.Ord.cmp l.key)) (drop l.at l.self-inside.row) ≡ lookup (is_at (g.K.Ord.cmp l.key)) l.self-inside.row
