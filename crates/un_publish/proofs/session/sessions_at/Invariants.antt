use Rattle.un_publish.specs.Models.{AreFresh}
use Rattle.un_publish.proofs.session.sessions_at.Given as goal

abbrev pub invariant-loop-number : goal.invariant-loop-number
invariant-loop-number g l = AreFresh l.number l.all.items
