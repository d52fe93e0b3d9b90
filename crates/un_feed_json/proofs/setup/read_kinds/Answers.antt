use Rattle.un_feed_json.proofs.TextsRead.{one_more, all_texts}
use Rattle.un_feed_json.proofs.setup.read_kinds.Goals as goal

pub loop-kind-preserved : goal.loop-kind-preserved
loop-kind-preserved c = one_more (λ kind. kind.name) c.loop-kind.kind-index c.args.kinds.now c.kind-item.result c.text-text.result.now c.loop-kind.invariant c.loop-kind-test.true c.kind-item.is c.text-text.ensures.text c.text-text.utf8

pub returns : goal.returns
returns c = all_texts (λ kind. kind.name) c.loop-kind.kind-index c.args.kinds.now c.loop-kind.invariant c.loop-kind-test.false
