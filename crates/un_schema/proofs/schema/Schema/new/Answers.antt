use Rattle.std.proofs.Common.{refl}
use Rattle.un_schema.proofs.schema.Schema.new.Goals as goal

pub with_list-requires-clause-fit : goal.with_list-requires-clause-fit
with_list-requires-clause-fit c = rw c.in_ok-bare.ensures.ok c.in_ok-rules.ensures.fit

pub returns-clause-ok : goal.returns-clause-ok
returns-clause-ok c = rw (c.with_list.ensures, c.in_ok-rules.ensures.ok, c.in_ok-bare.ensures.ok) refl
