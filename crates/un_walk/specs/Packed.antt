-- Found nodes by what is kept of them.
use Rattle.un_walk.specs.declared.item.Item.{Item}
use Rattle.un_walk.specs.declared.item.PackedItem.TheInside.{Inside}

-- the item that is kept so
abbrev pub unpacked : Inside → Item
unpacked p = record {
  seen = record { node = record { port = record { feature = p.feature; number = p.terminal }; at = p.at }; spot = p.spot };
  number = p.number;
  from = p.from;
  via = p.via;
}
