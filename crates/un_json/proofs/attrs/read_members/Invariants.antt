use Rattle.un_json.proofs.Attributes.{HasRead}
use Rattle.un_json.proofs.attrs.read_members.Given as goal

abbrev pub invariant-loop-name : goal.invariant-loop-name
invariant-loop-name l = HasRead l.pairs.items l.name-iterator l.members.entries
