use Rattle.std.proofs.Common.{◌≡◌, ◌==◌, ◌&&◌, ◌||◌, map, take}
use Rattle.std.specs.List.{list_any}
use Rattle.un_subnet.specs.declared.row_index.Key.{Key}
use Rattle.un_subnet.specs.declared.row_index.Subject.TheVariants.{At}
use Rattle.un_subnet.specs.RowIndex.{has_key, same_subject, subnet_subject}
use Rattle.un_subnet.proofs.row_index.put_keys.Given as goal

-- those of the name and of the points so far have come
abbrev pub invariant-loop-point : goal.invariant-loop-point
invariant-loop-point l = (q : Key) → has_key q l.keys
    ≡ ((q.number == l.number && list_any (same_subject q.subject) (map At (take l.point-index l.point-items)))
    || (q.number == l.number && same_subject q.subject (subnet_subject l.row.tier l.row.subnet)) || has_key q l.fn.keys)
