-- Which rules may stand over kinds.
use Rattle.std.specs.Prelude.{ℕ, nat_le, Bool, true, false, not, ◌&&◌, if◌then◌else◌, Option, Some, None, is_none}
use Rattle.std.specs.Option.{option_map_or}
use Rattle.un_schema.specs.declared.kind.Class.{Class}
use Rattle.un_schema.specs.declared.rule.Rule.{Rule}
use Rattle.un_schema.specs.declared.rule.Rule.TheVariants.{JunctionEdge, JunctionJunction, Containment, Attachment, EdgeJunctionEdge}
use Rattle.un_schema.specs.Catalog.{Catalog, kind_at, config_of}
use Rattle.un_schema.specs.Classes.{is_joint, is_line, is_container, is_structure, terminals_by_class}

-- the terminals of a kind: those of its configuration, and one for a device without
abbrev pub terminals_of_kind : Catalog → ℕ → ℕ
terminals_of_kind catalog kind =
    option_map_or (λ k. terminals_by_class k.class (option_map_or (λ c. c.config.terminals) (config_of catalog kind) 1)) (kind_at catalog kind) 0

-- there is such a kind, and its class passes the test
abbrev pub is_of : Catalog → (Class → Bool) → ℕ → Bool
is_of catalog test kind = option_map_or (λ k. test k.class) (kind_at catalog kind) false

-- the kinds exist and have the classes that the form of the rule asks for
abbrev pub has_classes : Catalog → Rule → Bool
has_classes S (JunctionEdge junction terminal edge) = is_of S is_joint junction && is_of S is_line edge
has_classes S (JunctionJunction first first_terminal second second_terminal) = is_of S is_joint first && is_of S is_joint second
has_classes S (Containment container content) = is_of S is_container container && is_of S (λ _. true) content
has_classes S (Attachment structure content) = is_of S is_structure structure && is_of S (λ class. not (is_structure class)) content
has_classes S (EdgeJunctionEdge edge terminal junction other other_terminal) =
    is_of S is_line edge && is_of S is_joint junction && is_of S is_line other

-- 0, which stands for each terminal, or one that the kind has
abbrev pub is_terminal_of : Catalog → ℕ → ℕ → Bool
is_terminal_of S kind terminal = nat_le terminal (terminals_of_kind S kind)

-- a rule as a list has its word at place 0, and then kinds and terminals: the place of the first terminal that its kind has not
abbrev pub bad_terminal : Catalog → Rule → Option ℕ
bad_terminal S (JunctionEdge junction terminal edge) = if is_terminal_of S junction terminal then None else Some 2
bad_terminal S (JunctionJunction first first_terminal second second_terminal) =
    if is_terminal_of S first first_terminal then (if is_terminal_of S second second_terminal then None else Some 4) else Some 2
bad_terminal S (Containment container content) = None
bad_terminal S (Attachment structure content) = None
bad_terminal S (EdgeJunctionEdge edge terminal junction other other_terminal) =
    if is_terminal_of S junction terminal then (if is_terminal_of S junction other_terminal then None else Some 5) else Some 2

-- the rule may stand: its kinds and its terminals exist
abbrev pub fits : Catalog → Rule → Bool
fits S rule = has_classes S rule && is_none (bad_terminal S rule)
