use Rattle.std.proofs.Common.{rules, ◌++◌, ◌∙◌, ap, subst}
use Rattle.un_pages.specs.Pairs.{IsOrdered, from_on}
use Rattle.un_subnet.proofs.Keys.{keys_alike, key_cmp}
use Rattle.un_subnet.proofs.Runs.{run_at, run_all, run_on}
use Rattle.un_subnet.proofs.row_index.push_numbers.Goals as goal

pub loop-key-init : goal.loop-key-init
loop-key-init c =
    ap (λ rest. c.args.numbers.now.items ++ run_at c.args.subject rest)
    (c.into_iter-key-iterator.ensures.into_iter_gives ∙ c.range-key-items.ensures.pairs
    ∙ ap (λ cmp. from_on cmp c.first_key.result c.args.keys.now) keys_alike ∙ ap (λ b. from_on key_cmp b c.args.keys.now) c.first_key.ensures)
    ∙ ap (λ l. c.args.numbers.now.items ++ l) (run_all c.args.subject c.args.keys.now (subst (λ cmp. IsOrdered cmp c.args.keys.now) keys_alike c.len-len.ensures.ordered))

pub loop-key-preserved : goal.loop-key-preserved
loop-key-preserved c =
    ap (λ l. l ++ run_at c.args.subject c.next.new.self) c.in_ok-push.ensures.items
    ∙ run_on c.args.subject c.loop-key.numbers.items c.loop-key.key-iterator c.next.new.self (c.in-Some.key, tt) _ c.in-Some.ensures.steps
    (search rules) c.loop-key.invariant
