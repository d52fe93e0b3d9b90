use Rattle.std.proofs.Common.{◌≡◌, ℕ, ℤ, pos, ◌∷◌, map, length, refl, ap, ◌∙◌, rules}
use Rattle.std.specs.BTreeSet.{insert_key}
use Rattle.un_core.specs.contracts.feature.NamedValueOrd.TheImpl as order
use Rattle.un_core.specs.Named.{pair_of}
use Rattle.un_core.proofs.Named.{one_more, all_named}
use Rattle.un_core.proofs.feature.in_order.Goals as goal

pub loop-done-preserved : goal.loop-done-preserved
loop-done-preserved c =
    let attrs = c.args.attrs.now in
    let d : ℕ × ℤ = (0, pos 0) in
    let new = c.with_name.result in (
      new ∷ c.loop-done.invariant.0,
      c.in_ok-insert.ensures.keys ∙ ap (λ ks. insert_key order.ghosts.cmp ks new) c.loop-done.invariant.1,
      one_more c.args.schema.now attrs d (length attrs) c.loop-done.done refl c.loop-done-test.true c.loop-done.invariant.0 new c.loop-done.invariant.2
          c.with_name.ensures,
    )

pub returns : goal.returns
returns c =
    let keys : c.in_ok-all.all.items ≡ c.loop-done.set.keys = search rules in
    ap (map pair_of) (keys ∙ c.loop-done.invariant.1)
    ∙ all_named c.args.schema.now c.args.attrs.now c.loop-done.done c.loop-done-test.false c.loop-done.invariant.0 c.loop-done.invariant.2
