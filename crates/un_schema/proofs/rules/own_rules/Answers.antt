use Rattle.std.proofs.Common.{◌≡◌, ◌<◌, true, length, is_some, Some, refl, arith}
use Rattle.un_schema.specs.Raw.{rule_from}
use Rattle.un_schema.proofs.Steps.{kept_more, good_more}
use Rattle.un_schema.proofs.rules.own_rules.Goals as goal

pub loop-raw-preserved : goal.loop-raw-preserved
loop-raw-preserved c =
    let f = rule_from c.args.format c.args.schema.now in
    let raws = c.args.raws.now in
    let i = c.loop-raw.raw-index in
    let raw = c.raw-item.result in
    let rule = c.in-Some.rule in
    let within : i < length raws = omega arith in
    let gives : f raw ≡ Some rule = cc (c.rule_from.ensures, c.in-Some.is) in
    let good : is_some (f raw) ≡ true = rw gives refl in
    rw c.in_ok-push-in-Some.ensures.items
    (record {
      kept = kept_more f raws i raw rule c.loop-raw.rules.items within c.raw-item.is gives c.loop-raw.invariant.kept;
      good = good_more (λ r. is_some (f r)) raws i raw within c.raw-item.is good c.loop-raw.invariant.good;
    })
