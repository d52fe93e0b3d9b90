use Rattle.std.proofs.Common.{◌≡◌, ◌<◌, ◌≤◌, IfOk, length, map, List, Option, Some, option_map, sym, subst}
use Rattle.serde_json.specs.View.{view, items_view}
use Rattle.serde_json.specs.Find.{as_array}
use Rattle.un_tiers.specs.Raw.{WrittenTier, written_tier}
use Rattle.un_schema_json.specs.Parts.{tier_of}
use Rattle.un_schema_json.proofs.Lengths.{too_long, short_items}
use Rattle.un_schema_json.proofs.tier.read_list.Goals as goal

pub returns-then-values-gt16 : goal.returns-then-values-gt16
returns-then-values-gt16 c =
    let items : Some (items_view c.as_slice-values.result.now) ≡ as_array (view c.args.value.now) = rw c.as_slice-values.ensures.value (rw c.in-Some.is at c.as_array.ensures) in
    let long : 16 < length c.as_slice-values.result.now = c.if-values-gt16.true in
    too_long tier_of 16 (view c.args.value.now) c.as_slice-values.result.now items long

pub returns : goal.returns
returns c =
    let items : Some (items_view c.as_slice-values.result.now) ≡ as_array (view c.args.value.now) = rw c.as_slice-values.ensures.value (rw c.in-Some.is at c.as_array.ensures) in
    let few : length c.as_slice-values.result.now ≤ 16 = c.if-values-gt16.false in
    let same = short_items tier_of 16 (view c.args.value.now) c.as_slice-values.result.now items few in
    subst (λ (o : Option (List WrittenTier)). IfOk c.read_items.result (λ tiers. option_map (λ v. map written_tier v.items) tiers ≡ o)) (sym same)
    c.read_items.ensures
