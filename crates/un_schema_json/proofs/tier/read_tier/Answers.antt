use Rattle.std.proofs.Common.{◌≡◌, ◌≢◌, length, arith, Some}
use Rattle.serde_json.specs.View.{view, items_view}
use Rattle.serde_json.specs.Find.{as_array}
use Rattle.un_schema_json.proofs.Lengths.{not_tier}
use Rattle.un_schema_json.proofs.tier.read_tier.Goals.{in_default-as_slice-via-then-as_slice-lt3, in_default-as_slice-via-else-as_slice-lt3+else-this-lt4}
use Rattle.un_schema_json.proofs.tier.read_tier.Goals as goal

pub returns-in_default-as_slice : goal.returns-in_default-as_slice
returns-in_default-as_slice c =
    let other : length c.as_slice.result.now ≢ 3 =
    elim c.in_default-as_slice.branch [ in_default-as_slice-via-then-as_slice-lt3 w ↦ grind arith | in_default-as_slice-via-else-as_slice-lt3+else-this-lt4 w ↦ grind arith ] in
    let items : Some (items_view c.as_slice.result.now) ≡ as_array (view c.args.value.now) =
    rw c.as_slice.ensures.value (rw c.in-Some.is at c.as_array.ensures) in
    not_tier (view c.args.value.now) c.as_slice.result.now items other
