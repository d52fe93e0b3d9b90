-- When two rules are one.
use Rattle.std.specs.Prelude.{Bool, false, ◌==◌, ◌&&◌}
use Rattle.un_schema.specs.declared.rule.Rule.{Rule}
use Rattle.un_schema.specs.declared.rule.Rule.TheVariants.{JunctionEdge, JunctionJunction, Containment, Attachment, EdgeJunctionEdge}

-- two rules have the same form, kinds and terminals
abbrev pub same_rule : Rule → Rule → Bool
same_rule (JunctionEdge junction terminal line) (JunctionEdge junction' terminal' line') =
    (junction == junction') && (terminal == terminal') && (line == line')
same_rule (JunctionJunction first first_terminal second second_terminal) (JunctionJunction first' first_terminal' second' second_terminal') =
    (first == first') && (first_terminal == first_terminal') && (second == second') && (second_terminal == second_terminal')
same_rule (Containment container content) (Containment container' content') = (container == container') && (content == content')
same_rule (Attachment structure content) (Attachment structure' content') = (structure == structure') && (content == content')
same_rule (EdgeJunctionEdge line terminal junction other other_terminal) (EdgeJunctionEdge line' terminal' junction' other' other_terminal') =
    (line == line') && (terminal == terminal') && (junction == junction') && (other == other') && (other_terminal == other_terminal')
same_rule rule other = false
