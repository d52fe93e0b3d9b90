use Rattle.un_feed_json.proofs.TextsRead.{AreTexts}
use Rattle.un_feed_json.proofs.setup.read_tiers.Given as goal

abbrev pub invariant-loop-tier : goal.invariant-loop-tier
invariant-loop-tier l = AreTexts (λ tier. tier.name) l.tier l.tiers
