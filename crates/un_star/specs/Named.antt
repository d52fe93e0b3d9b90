-- Links that compare by their name.
use Rattle.un_defs.specs.declared.link.Tie.{Tie}
use Rattle.un_star.specs.declared.order.ByName.{ByName}

abbrev pub named : Tie → ByName
named t = record { name = t.name; tie = t }
