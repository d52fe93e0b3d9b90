use Rattle.un_feed_json.proofs.TextsRead.{one_more, all_texts}
use Rattle.un_feed_json.proofs.setup.read_names.Goals as goal

pub loop-name-preserved : goal.loop-name-preserved
loop-name-preserved c = one_more (λ name. name) c.loop-name.name-index c.args.names.now c.name-item.result c.text-text.result.now c.loop-name.invariant c.loop-name-test.true c.name-item.is c.text-text.ensures.text c.text-text.utf8

pub returns : goal.returns
returns c = all_texts (λ name. name) c.loop-name.name-index c.args.names.now c.loop-name.invariant c.loop-name-test.false
