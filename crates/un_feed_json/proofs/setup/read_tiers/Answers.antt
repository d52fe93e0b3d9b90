use Rattle.std.proofs.Common.{◌<◌, ◌≤◌, subst}
use Rattle.un_feed_json.proofs.TextsRead.{one_more_at, all_texts}
use Rattle.un_feed_json.proofs.setup.read_tiers.Goals as goal

pub loop-tier-preserved : goal.loop-tier-preserved
loop-tier-preserved c =
    one_more_at (λ tier. tier.name) c.loop-tier.tier c.args.tiers.now c.name-text.result.now c.loop-tier.invariant (subst (λ n. c.loop-tier.tier < n) c.len-tier-end.ensures.len c.loop-tier-test.true)
    c.name-text.ensures c.name-text.utf8

pub returns : goal.returns
returns c = all_texts (λ tier. tier.name) c.loop-tier.tier c.args.tiers.now c.loop-tier.invariant (subst (λ n. n ≤ c.loop-tier.tier) c.len-tier-end.ensures.len c.loop-tier-test.false)
