use Rattle.std.proofs.Common.{take, take_all, sym, subst}
use Rattle.std.proofs.lemmas.List.{take_more}
use Rattle.un_grid.specs.Grids.{LacksNodes}
use Rattle.un_grid.proofs.Leaving.{none_less, one_less}
use Rattle.un_grid.proofs.grid.Grid.take_nodes.Goals as goal

pub loop-node-init : goal.loop-node-init
loop-node-init c = none_less c.args.self.now

pub loop-node-preserved : goal.loop-node-preserved
loop-node-preserved c =
    subst (λ ns. LacksNodes c.args.self.now ns c.take_port.new.self) (sym (take_more c.args.nodes.now c.loop-node.node-index _ c.loop-node-test.true))
    (one_less c.args.self.now c.loop-node.self c.take_port.new.self (take c.loop-node.node-index c.args.nodes.now) _ c.loop-node.invariant c.in_ok-take_port.ensures)

pub returns : goal.returns
returns c = subst (λ ns. LacksNodes c.args.self.now ns c.loop-node.self) (take_all c.loop-node.node-index c.args.nodes.now c.loop-node-test.false) c.loop-node.invariant
