use Rattle.std.proofs.Common.{◌∙◌, ap}
use Rattle.std.specs.BTreeSet.{insert_key}
use Rattle.un_defs.specs.Orders.{port_cmp}
use Rattle.un_grid.proofs.Putting.{put_port, put_grid}
use Rattle.un_grid.proofs.grid.Grid.put_port.Goals as goal

pub invariant_of-self-2 : goal.invariant_of-self-2
invariant_of-self-2 c = put_grid c.args.self.now c.self.inside.points c.put.new.self c.self.view_is c.args.p c.args.port _
    (c.in_ok-shared.ensures.ok ∙ c.new.ensures ∙ c.in_ok-ports.ensures ∙ ap (λ l. insert_key port_cmp l c.args.port) c.at.ensures.ports) c.in_ok-put.ensures.list c.at.ensures.grid

pub returns : goal.returns
returns c = put_port c.args.self.now c.self.inside.points c.put.new.self c.self.view_is c.args.p c.args.port _
    (c.in_ok-shared.ensures.ok ∙ c.new.ensures ∙ c.in_ok-ports.ensures ∙ ap (λ l. insert_key port_cmp l c.args.port) c.at.ensures.ports) c.in_ok-put.ensures.values
