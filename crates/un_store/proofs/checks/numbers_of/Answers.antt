use Rattle.un_store.proofs.FirstRefusal.{numbered_step}
use Rattle.un_store.proofs.checks.numbers_of.Goals as goal

pub loop-pair-preserved : goal.loop-pair-preserved
loop-pair-preserved c = numbered_step c.args.schema.now c.args.named.now c.loop-pair.pair-index c.pair-item.result c.number_of.result c.loop-pair.pairs.items c.push.new.self.items
    c.loop-pair-test.true c.pair-item.is c.number_of.ensures.pair c.number_of.ensures.few c.loop-pair.invariant c.in_ok-push.ensures.items
