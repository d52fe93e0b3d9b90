-- When a rule is not put in force, and for what; and the points that it may change, by what the code looks up.
use Rattle.std.specs.Prelude.{ℕ, ◌==◌, nat_le, Bool, false, ◌&&◌, ◌||◌, if◌then◌else◌, List, [], ◌∷◌, length, position, Option}
use Rattle.std.specs.Option.{option_map, option_map_or}
use Rattle.un_geom.specs.declared.point.Point.{Point}
use Rattle.un_schema.specs.declared.rule.Rule.{Rule}
use Rattle.un_schema.specs.declared.rule_fault.RuleFault.{RuleFault}
use Rattle.un_schema.specs.declared.rule_fault.RuleFault.TheVariants.{BadRuleTerminal, RuleExists, Full, Memory}
use Rattle.un_schema.specs.Catalog.{Catalog}
use Rattle.un_schema.specs.Fits.{bad_terminal}
use Rattle.un_schema.specs.RuleTests.{same_rule}
use Rattle.un_defs.specs.declared.assoc.Assoc.{Assoc}
use Rattle.un_defs.specs.declared.assoc.AssocKind.{AssocKind}
use Rattle.un_defs.specs.declared.assoc.AssocKind.TheVariants.{Connectivity, Containment, Attachment}
use Rattle.un_defs.specs.declared.refusal.Refusal.{Refusal}
use Rattle.un_defs.specs.declared.refusal.Refusal.TheVariants as refusal
use Rattle.un_defs.specs.declared.refusal.Limit.TheVariants as limit
use Rattle.un_defs.specs.Refusing.{first_refusal, refused_if}
use Rattle.un_defs.specs.Features.{Features, row, is_joint}
use Rattle.un_defs.specs.Dirtied.{is_between, points_of_ends}

-- the first refusal of a rule: a terminal that its kind has not, an equal rule that is in force, no room for a rule
abbrev pub rule_refusal : Catalog → Rule → Option Refusal
rule_refusal C rule = first_refusal (
    option_map refusal.BadRuleTerminal (bad_terminal C rule)
    ∷ option_map refusal.RuleExists (position (same_rule rule) C.rules)
    ∷ refused_if (nat_le 4096 (length C.rules)) (refusal.Full limit.Rules)
    ∷ [])

-- the refusal of a fault
abbrev pub refusal_by : RuleFault → Refusal
refusal_by (BadRuleTerminal place) = refusal.BadRuleTerminal place
refusal_by (RuleExists place) = refusal.RuleExists place
refusal_by Full = refusal.Full limit.Rules
refusal_by Memory = refusal.Memory

-- the row with this id is a device or junction of the kind
abbrev pub is_joint_of : Features → ℕ → ℕ → Bool
is_joint_of F kind id = option_map_or (λ r. is_joint r.class && (r.kind == kind)) (row F id) false

-- An association between rows of two kinds. One that connects may go either way.
abbrev pub is_of_kinds : Features → AssocKind → ℕ → ℕ → Assoc → Bool
is_of_kinds F Connectivity first second a = is_between F first second a || is_between F second first a
is_of_kinds F Containment first second a = is_between F first second a
is_of_kinds F Attachment first second a = is_between F first second a

-- all points of both rows of an association that is between rows of two kinds
abbrev pub points_between : Features → AssocKind → ℕ → ℕ → Assoc → List Point
points_between F sort first second a = if is_of_kinds F sort first second a then points_of_ends F a else []
