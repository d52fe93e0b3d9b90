use Rattle.un_feed_json.proofs.TextsRead.{AreTexts}
use Rattle.un_feed_json.proofs.setup.read_kinds.Given as goal

abbrev pub invariant-loop-kind : goal.invariant-loop-kind
invariant-loop-kind l = AreTexts (λ kind. kind.name) l.kind-index l.kinds
