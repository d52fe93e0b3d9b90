use Rattle.std.proofs.Common.{◌≡◌, ◌≢◌, length, arith, Option, Some, IfOk, sym, subst, option_and_then, ap, ◌∙◌}
use Rattle.serde_json.specs.View.{view, items_view}
use Rattle.serde_json.specs.Find.{as_array}
use Rattle.un_schema.specs.declared.raw.RawKind.{RawKind}
use Rattle.un_schema_json.specs.declared.kind.Marks.{Marks}
use Rattle.un_schema_json.specs.Parts.{kind_parts}
use Rattle.un_schema_json.proofs.Lengths.{not_kind, of_eight}
use Rattle.un_schema_json.proofs.kind.read_kind.Goals.{in_default-as_slice-via-then-as_slice-lt8, in_default-as_slice-via-else-as_slice-lt8+else-this-lt9}
use Rattle.un_schema_json.proofs.kind.read_kind.Goals as goal

pub returns-in_default-as_slice : goal.returns-in_default-as_slice
returns-in_default-as_slice c =
    let other : length c.as_slice.result.now ≢ 8 =
    elim c.in_default-as_slice.branch [ in_default-as_slice-via-then-as_slice-lt8 w ↦ grind arith | in_default-as_slice-via-else-as_slice-lt8+else-this-lt9 w ↦ grind arith ] in
    let items : Some (items_view c.as_slice.result.now) ≡ as_array (view c.args.value.now) =
    rw c.as_slice.ensures.value (rw c.in-Some.is at c.as_array.ensures) in
    not_kind (view c.args.value.now) c.as_slice.result.now items other

pub returns-in-Some-read_marks : goal.returns-in-Some-read_marks
returns-in-Some-read_marks c =
    let items : Some (items_view c.as_slice.result.now) ≡ as_array (view c.args.value.now) =
    rw c.as_slice.ensures.value (rw c.in-Some.is at c.as_array.ensures) in
    let eight : length c.as_slice.result.now ≡ 8 = omega (arith, c.in-len8.len_at_least, c.in-len8.len_below) in
    let e = of_eight (view c.args.value.now) c.as_slice.result.now c.name-item.result c.class-item.result c.group-item.result c.asset_type-item.result c.policy-item.result c.config-item.result c.categories-item.result c.controller-item.result items eight c.name-item.is c.class-item.is c.group-item.is c.asset_type-item.is c.policy-item.is c.config-item.is c.categories-item.is c.controller-item.is in
    let parts = λ (m : Marks). kind_parts m (view c.name-item.result) (view c.config-item.result) (view c.categories-item.result) in
    let marked = ap (option_and_then parts) (sym c.read_marks.ensures ∙ c.in-Some-read_marks.is) in
    subst (λ (o : Option RawKind). IfOk c.read_texts_of.result (λ kind. kind ≡ o)) (sym (e ∙ marked)) c.read_texts_of.ensures
