use Rattle.std.proofs.Common.{◌∷◌, [], ◌++◌, ◌∙◌, ap, sym, subst, true, false, append_assoc}
use Rattle.un_pages.specs.Pairs.{IsOrdered, from_on}
use Rattle.un_subnet.specs.Outcome.{is_row_of}
use Rattle.un_subnet.specs.RowIndex.{numbers_at}
use Rattle.un_subnet.proofs.Keys.{keys_alike, key_cmp}
use Rattle.un_subnet.proofs.Runs.{run_at, run_all, run_more}
use Rattle.un_subnet.proofs.Found.{named_all, named_step}
use Rattle.un_subnet.proofs.Numbered.{named_in}
use Rattle.un_subnet.proofs.marking.push_rows_of.Goals as goal

pub loop-key-init : goal.loop-key-init
loop-key-init c =
    let p = is_row_of c.args.tier c.args.subnet.now in
    let rows = c.args.rows.now in
    let ordered = subst (λ cmp. IsOrdered cmp c.args.keys.now) keys_alike c.len-keys.ensures.ordered in
    ap (λ l. c.args.numbers.now.items ++ l)
    (ap (λ rest. named_in p rows (run_at c.of_subnet-subject.result rest))
    (c.into_iter-key-iterator.ensures.into_iter_gives ∙ c.range-key-items.ensures.pairs
    ∙ ap (λ cmp. from_on cmp c.first_key.result c.args.keys.now) keys_alike ∙ ap (λ b. from_on key_cmp b c.args.keys.now) c.first_key.ensures)
    ∙ ap (named_in p rows) (run_all c.of_subnet-subject.result c.args.keys.now ordered)
    ∙ ap (λ s. named_in p rows (numbers_at c.args.keys.now s)) c.of_subnet-subject.ensures
    ∙ named_all c.args.tier c.args.subnet.now rows c.args.keys.now c.requires c.len-rows.ensures.ordered ordered)

pub loop-key-preserved-then-not-is_of : goal.loop-key-preserved-then-not-is_of
loop-key-preserved-then-not-is_of c =
    let p = is_row_of c.args.tier c.args.subnet.now in
    let s = c.of_subnet-subject.result in
    ap (λ l. c.loop-key.numbers.items ++ l)
    (sym (named_step c.args.tier c.args.subnet.now c.args.rows.now c.in-Some.key.number (run_at s c.next.new.self) false (sym c.if-not-is_of.true ∙ c.is_of.ensures))
    ∙ sym (ap (λ rest. named_in p c.args.rows.now (run_at s rest)) c.in-Some.ensures.steps
    ∙ ap (named_in p c.args.rows.now) (run_more s (c.in-Some.key, tt) c.next.new.self (sym c.is_under.ensures ∙ c.if-not-is_under.false))))
    ∙ c.loop-key.invariant

pub loop-key-preserved : goal.loop-key-preserved
loop-key-preserved c =
    let p = is_row_of c.args.tier c.args.subnet.now in
    let s = c.of_subnet-subject.result in
    let more = named_in p c.args.rows.now (run_at s c.next.new.self) in
    ap (λ l. l ++ more) c.in_ok-push.ensures.items
    ∙ append_assoc c.loop-key.numbers.items (c.in-Some.key.number ∷ []) more
    ∙ ap (λ l. c.loop-key.numbers.items ++ l)
    (sym (named_step c.args.tier c.args.subnet.now c.args.rows.now c.in-Some.key.number (run_at s c.next.new.self) true (sym c.if-not-is_of.false ∙ c.is_of.ensures))
    ∙ sym (ap (λ rest. named_in p c.args.rows.now (run_at s rest)) c.in-Some.ensures.steps
    ∙ ap (named_in p c.args.rows.now) (run_more s (c.in-Some.key, tt) c.next.new.self (sym c.is_under.ensures ∙ c.if-not-is_under.false))))
    ∙ c.loop-key.invariant
