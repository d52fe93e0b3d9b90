use Rattle.std.proofs.Common.{◌≡◌, ℕ, ◌-◌, ℤ, pos, ◌∷◌, get_or, Some, None, map, length, refl, sym, ap, ◌∙◌, rules}
use Rattle.std.specs.BTreeSet.{insert_key}
use Rattle.std.specs.Option.{option_map}
use Rattle.un_feed_json.specs.contracts.named.NamedValueOrd.TheImpl as order
use Rattle.un_feed_json.specs.Names.{with_name}
use Rattle.un_feed_json.specs.Sorting.{pair_of}
use Rattle.un_feed_json.proofs.Sorted.{one_more, all_named}
use Rattle.un_feed_json.proofs.named.in_order.Goals as goal
use Rattle.un_feed_json.proofs.named.in_order.Goals.{in-Some+in_ok-insert, in_default}

pub loop-done-preserved : goal.loop-done-preserved
loop-done-preserved c =
    let attrs = c.args.attrs.now in
    let d : ℕ × ℤ = (0, pos 0) in
    let all = c.loop-done.invariant.0 in
    elim c.match-with_name.branch [
      | in-Some+in_ok-insert w ↦
          let new = w.in-Some.named in
          let keys : c.match-with_name.set.keys ≡ insert_key order.ghosts.cmp c.loop-done.set.keys new = ap (λ s. s.keys) w.set-is ∙ w.in_ok-insert.ensures.keys in
          let pair : option_map pair_of (Some new) ≡ with_name c.args.schema.now (get_or attrs (length attrs - 1 - c.loop-done.done) d) = ap (option_map pair_of) (sym w.in-Some.is) ∙ c.with_name.ensures in (
            new ∷ all,
            keys ∙ ap (λ ks. insert_key order.ghosts.cmp ks new) c.loop-done.invariant.1,
            one_more c.args.schema.now attrs d (length attrs) c.loop-done.done refl c.loop-done-test.true all (Some new) c.loop-done.invariant.2 pair,
          )
      | in_default w ↦
          let keys : c.match-with_name.set.keys ≡ c.loop-done.set.keys = ap (λ s. s.keys) w.set-is in
          let pair : option_map pair_of None ≡ with_name c.args.schema.now (get_or attrs (length attrs - 1 - c.loop-done.done) d) = ap (option_map pair_of) (sym w.in_default.is) ∙ c.with_name.ensures in (
            all,
            keys ∙ c.loop-done.invariant.1,
            one_more c.args.schema.now attrs d (length attrs) c.loop-done.done refl c.loop-done-test.true all None c.loop-done.invariant.2 pair,
          )
    ]

pub returns : goal.returns
returns c =
    let keys : c.in_ok-all.all.items ≡ c.loop-done.set.keys = search rules in
    ap (map pair_of) (keys ∙ c.loop-done.invariant.1)
    ∙ all_named c.args.schema.now c.args.attrs.now c.loop-done.done c.loop-done-test.false c.loop-done.invariant.0 c.loop-done.invariant.2
