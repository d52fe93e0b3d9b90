use Rattle.std.proofs.Common.{◌≡◌, map, take}
use Rattle.un_schema.proofs.named.own_names.Given as goal

abbrev pub invariant-loop-item : goal.invariant-loop-item
invariant-loop-item g l = l.names.items ≡ map (g.T.Named.text) (take l.item-index l.items)
