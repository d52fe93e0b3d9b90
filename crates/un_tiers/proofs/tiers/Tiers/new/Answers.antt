use Rattle.std.proofs.Common.{◌≡◌, ◌<◌, true, length, ◌∙◌, arith}
use Rattle.un_tiers.specs.Raw.{written_tier, is_good, tier_from}
use Rattle.un_tiers.proofs.OneMore.{kept_more, first_more, list_more}
use Rattle.un_tiers.proofs.tiers.Tiers.new.Goals as goal

pub loop-tier-preserved : goal.loop-tier-preserved
loop-tier-preserved g c =
    let A = g.N.Names.attributes c.args.names.now in
    let C = g.N.Names.categories c.args.names.now in
    let raws = c.args.raw.now in
    let i = c.loop-tier.tier-index in
    let tiers = c.loop-tier.tiers.items in
    let item = c.tier-item.result in
    let own = c.in_ok-own.own in
    let within : i < length raws = omega arith in
    let good : is_good A C tiers (written_tier item) ≡ true = rw c.as_slice.ensures.value at c.in_ok-own.ensures.good in
    let own_is : own ≡ tier_from A C (written_tier item) = c.in_ok-own.ensures.ok in
    rw c.in_ok-push.ensures.items
    (record {
      kept = kept_more (tier_from A C) raws i tiers item own within c.tier-item.is c.loop-tier.invariant.kept own_is;
      first = c.loop-tier.invariant.first ∙ first_more A C tiers raws i item own within c.tier-item.is good own_is;
      list = list_more A C tiers (written_tier item) own c.loop-tier.invariant.list good own_is;
    })
