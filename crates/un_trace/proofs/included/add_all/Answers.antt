use Rattle.std.proofs.Common.{get_or, ap, sym, ◌∙◌}
use Rattle.std.specs.Ordering.{nat_cmp}
use Rattle.std.specs.BTreeSet.{insert_key}
use Rattle.std.proofs.lemmas.List.Sums.{fold_more}
use Rattle.un_trace.proofs.included.add_all.Goals as goal

pub loop-id-preserved : goal.loop-id-preserved
loop-id-preserved c =
    c.in_ok-insert.ensures.keys
    ∙ ap (λ ks. insert_key nat_cmp ks (get_or c.args.ids.now c.loop-id.id-index 0)) c.loop-id.invariant
    ∙ sym (fold_more (insert_key nat_cmp) c.args.set.now.keys c.args.ids.now c.loop-id.id-index 0 c.loop-id-test.true)
