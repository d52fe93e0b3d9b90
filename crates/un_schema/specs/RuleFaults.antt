-- When a rule is not added, and for what.
use Rattle.std.specs.Prelude.{◌≡◌, ◌≤◌, ◌<◌, ⊤, length, position, Some, None}
use Rattle.un_schema.specs.declared.rule.Rule.{Rule}
use Rattle.un_schema.specs.declared.rule_fault.RuleFault.{RuleFault}
use Rattle.un_schema.specs.declared.rule_fault.RuleFault.TheVariants.{BadRuleTerminal, RuleExists, Full, Memory}
use Rattle.un_schema.specs.Catalog.{Catalog}
use Rattle.un_schema.specs.Fits.{bad_terminal}
use Rattle.un_schema.specs.RuleTests.{same_rule}

-- the rule can be added: its terminals exist, no equal rule is in force, and there is room
pub record CanAdd (catalog : Catalog) (rule : Rule) : Type 0 where
  pub terminals : bad_terminal catalog rule ≡ None
  pub other : position (same_rule rule) catalog.rules ≡ None
  pub room : length catalog.rules < 4096

-- the fault is the first of the three that comes; want of memory says nothing
abbrev pub IsFirstFault : Catalog → Rule → RuleFault → Type 0
IsFirstFault catalog rule (BadRuleTerminal place) = bad_terminal catalog rule ≡ Some place
IsFirstFault catalog rule (RuleExists place) = (bad_terminal catalog rule ≡ None) × (position (same_rule rule) catalog.rules ≡ Some place)
IsFirstFault catalog rule Full =
    (bad_terminal catalog rule ≡ None) × (position (same_rule rule) catalog.rules ≡ None) × (4096 ≤ length catalog.rules)
IsFirstFault catalog rule Memory = ⊤
