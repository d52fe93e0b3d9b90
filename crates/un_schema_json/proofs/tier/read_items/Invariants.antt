use Rattle.std.proofs.Common.{drop}
use Rattle.un_schema_json.proofs.TierLists.{ReadTiers}
use Rattle.un_schema_json.proofs.tier.read_items.Given as goal

abbrev pub invariant-loop-value : goal.invariant-loop-value
invariant-loop-value l = ReadTiers l.tiers.items (drop l.value-index l.values) l.values
