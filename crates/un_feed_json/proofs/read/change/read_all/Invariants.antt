use Rattle.std.proofs.Common.{drop}
use Rattle.un_feed_json.specs.Forms.{change_of}
use Rattle.un_feed_json.proofs.ReadChanges.{HasRead}
use Rattle.un_feed_json.proofs.read.change.read_all.Given as goal

abbrev pub invariant-loop-value : goal.invariant-loop-value
invariant-loop-value l = HasRead (change_of l.schema l.tiers) l.items.items (drop l.value-index l.values) l.values
