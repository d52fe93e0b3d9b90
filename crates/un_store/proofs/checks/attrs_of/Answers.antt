use Rattle.std.proofs.Common.{◌≡◌, Some, ◌∙◌, sym, ap}
use Rattle.std.specs.Prelude.{slice_get, option_and_then}
use Rattle.std.specs.Option.{option_map}
use Rattle.un_attrs.specs.Attributes.{known, in_order, bad_place}
use Rattle.un_defs.specs.declared.refusal.Refusal.TheVariants as refusal
use Rattle.un_store.specs.Refusals.{numbers_of}
use Rattle.un_store.proofs.FirstRefusal.{numbered_is, bad_named}
use Rattle.un_store.proofs.checks.attrs_of.Goals as goal

pub returns-in-Ok-clause-attrs : goal.returns-in-Ok-clause-attrs
returns-in-Ok-clause-attrs c =
    c.in-Ok.ensures.ok ∙ ap (λ l. in_order (known l)) (c.as_slice.ensures.value ∙ c.in_ok-pairs.ensures.numbers ∙ ap (numbers_of c.args.schema.now) c.as_slice-named.ensures.pairs)
    ∙ numbered_is c.args.schema.now c.args.attrs.now

pub bad_at-requires : goal.bad_at-requires
bad_at-requires c = bad_named c.args.schema.now c.as_slice-named.result.now c.in-Err.bad.place (ap bad_place (sym c.in_ok-pairs.ensures.numbers) ∙ ap bad_place (sym c.as_slice.ensures.value) ∙ c.in-Err.ensures.bad)

pub returns-clause-bad : goal.returns-clause-bad
returns-clause-bad c = λ not_memory.
    let S = c.args.schema.now in
    let named = c.as_slice-named.result.now in
    let at : bad_place (numbers_of S named) ≡ Some c.in-Err.bad.place = ap bad_place (sym c.in_ok-pairs.ensures.numbers) ∙ ap bad_place (sym c.as_slice.ensures.value) ∙ c.in-Err.ensures.bad in
    rw (← c.as_slice-named.ensures.pairs) (ap (λ o. option_map (λ pair. refusal.BadAttribute pair.0) (option_and_then (λ place. slice_get named place) o)) at ∙ c.bad_at.ensures not_memory)
