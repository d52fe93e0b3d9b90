use Rattle.std.proofs.Common.{rules}
use Rattle.un_schema.proofs.RuleLookups.{set_alike}
use Rattle.un_schema.proofs.rule_list.RuleList.new.Goals as goal

pub invariant_of-result : goal.invariant_of-result
invariant_of-result c = set_alike c.in_ok-index.index.keys c.args.list.items (search rules)
