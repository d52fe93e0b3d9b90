use Rattle.un_feed_json.proofs.Numbered.{HasRead}
use Rattle.un_feed_json.proofs.read.entry.read_numbered.Given as goal

abbrev pub invariant-loop-name : goal.invariant-loop-name
invariant-loop-name l = HasRead l.schema l.pairs.items l.name-iterator l.members.entries
