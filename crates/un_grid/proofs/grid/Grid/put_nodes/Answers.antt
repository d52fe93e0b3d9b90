use Rattle.std.proofs.Common.{take, take_all, sym, subst}
use Rattle.std.proofs.lemmas.List.{take_more}
use Rattle.un_grid.specs.Grids.{IsGrid, HasNodes}
use Rattle.un_grid.proofs.Gathering.{none_yet, one_more}
use Rattle.un_grid.proofs.grid.Grid.put_nodes.Goals as goal

pub loop-node-init : goal.loop-node-init
loop-node-init c = none_yet c.args.self.now (subst IsGrid c.self.view_is c.self.invariant)

pub loop-node-preserved : goal.loop-node-preserved
loop-node-preserved c =
    subst (λ ns. HasNodes c.args.self.now ns c.put_port.new.self) (sym (take_more c.args.nodes.now c.loop-node.node-index _ c.loop-node-test.true))
    (one_more c.args.self.now c.loop-node.self c.put_port.new.self (take c.loop-node.node-index c.args.nodes.now) _ c.loop-node.invariant c.in_ok-put_port.ensures)

pub returns : goal.returns
returns c = subst (λ ns. HasNodes c.args.self.now ns c.loop-node.self) (take_all c.loop-node.node-index c.args.nodes.now c.loop-node-test.false) c.loop-node.invariant
