use Rattle.std.proofs.Common.{arith}
use Rattle.std.specs.BTreeMap.{is_at}
use Rattle.un_pages.proofs.Changes.{branch_rest}
use Rattle.un_pages.proofs.parts.take.Goals as goal

pub returns-in_ok-row-in-Some-clause-kept : goal.returns-in_ok-row-in-Some-clause-kept
returns-in_ok-row-in-Some-clause-kept g c = branch_rest g.T.Level.pairs (is_at (g.K.Ord.cmp c.args.key.now)) c.args.row.now c.take_in.new.row c.in_ok-row-in-Some.field-0 c.requires.bound c.take_in.ensures.kept (omega arith) c.in_ok-row-in-Some.ensures.pairs c.in_ok-row-in-Some.ensures.changed
