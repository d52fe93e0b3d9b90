use Rattle.std.proofs.Common.{drop}
use Rattle.un_json.proofs.Items.{HasRead}
use Rattle.un_feed_json.specs.Forms.{entry_of}
use Rattle.un_feed_json.proofs.read.entry.read_entries.Given as goal

abbrev pub invariant-loop-value : goal.invariant-loop-value
invariant-loop-value l = HasRead (entry_of l.schema l.tiers) l.items.items (drop l.value-index l.values) l.values
