use Rattle.std.proofs.Common.{◌∙◌}
use Rattle.un_grid.proofs.Places.{placed}
use Rattle.un_grid.proofs.port_list.with_new.Goals as goal

pub returns : goal.returns
returns c = c.in_ok-insert.ensures.items ∙ placed c.in_ok-all.all.items c.args.ports.now c.args.port c.args.place c.in_ok-all.ensures c.requires.place c.requires.new
