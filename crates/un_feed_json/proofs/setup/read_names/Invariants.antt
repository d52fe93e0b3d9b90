use Rattle.un_feed_json.proofs.TextsRead.{AreTexts}
use Rattle.un_feed_json.proofs.setup.read_names.Given as goal

abbrev pub invariant-loop-name : goal.invariant-loop-name
invariant-loop-name l = AreTexts (λ name. name) l.name-index l.names
