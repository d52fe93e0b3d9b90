use Rattle.std.proofs.Common.{◌≡◌, ◌-◌, List, map, filter_map, drop}
use Rattle.un_defs.specs.Orders.{rising}
use Rattle.un_feed_json.specs.contracts.named.NamedValueOrd.TheImpl as order
use Rattle.un_feed_json.specs.declared.named.NamedValue.{NamedValue}
use Rattle.un_feed_json.specs.Names.{with_name}
use Rattle.un_feed_json.specs.Sorting.{pair_of}
use Rattle.un_feed_json.proofs.named.in_order.Given as goal

-- the set has the last attributes, in order
abbrev pub invariant-loop-done : goal.invariant-loop-done
invariant-loop-done l =
    (all : List NamedValue) × (l.set.keys ≡ rising order.ghosts.cmp all)
    × (map pair_of all ≡ filter_map (with_name l.schema) (drop (l.count - l.done) l.attrs))
