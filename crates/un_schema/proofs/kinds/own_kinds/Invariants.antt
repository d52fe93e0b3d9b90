use Rattle.std.proofs.Common.{◌≡◌, map, take}
use Rattle.un_schema.specs.Raw.{kind_from}
use Rattle.un_schema.proofs.kinds.own_kinds.Given as goal

-- the kinds so far are kept
abbrev pub invariant-loop-raw : goal.invariant-loop-raw
invariant-loop-raw l = l.kinds.items ≡ map (kind_from l.categories l.configs) (take l.raw-index l.raws)
