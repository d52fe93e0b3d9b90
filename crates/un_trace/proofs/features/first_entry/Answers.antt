use Rattle.std.proofs.Common.{sym, ◌∙◌}
use Rattle.un_trace.proofs.Firsts.{first_at, none_more}
use Rattle.un_trace.proofs.features.first_entry.Goals as goal

pub returns-then-is_some : goal.returns-then-is_some
returns-then-is_some c =
    first_at c.args.run.now c.loop-one.one-index c.one-item.result c.loop-one-test.true c.one-item.is c.loop-one.invariant (sym c.is_some.ensures ∙ c.if-is_some.true)

pub loop-one-preserved : goal.loop-one-preserved
loop-one-preserved c =
    none_more c.args.run.now c.loop-one.one-index c.one-item.result c.loop-one-test.true c.one-item.is c.loop-one.invariant (sym c.is_some.ensures ∙ c.if-is_some.false)
