use Rattle.un_json.proofs.Others.{LooksOn}
use Rattle.un_json.proofs.form.some_other.Given as goal

abbrev pub invariant-loop-name : goal.invariant-loop-name
invariant-loop-name l = LooksOn l.places l.name-iterator l.members.entries
