-- A rule's kinds looked up.
use Rattle.std.specs.Prelude.{ℕ, not, List, [], ◌∷◌, map, Option, Some, None, option_and_then}
use Rattle.std.specs.Option.{option_map, option_map_or}
use Rattle.un_schema.specs.declared.rule.Rule.{Rule}
use Rattle.un_schema.specs.declared.rule.Rule.TheVariants as rule
use Rattle.un_schema.specs.Catalog.{Catalog, kind_named}
use Rattle.un_schema.specs.Fits.{has_classes}
use Rattle.un_ask.specs.declared.rule.NamedRule.{NamedRule}
use Rattle.un_ask.specs.declared.rule.NamedRule.TheVariants.{JunctionEdge, JunctionJunction, Containment, Attachment, EdgeJunctionEdge}
use Rattle.un_defs.specs.declared.refusal.Refusal.{Refusal}
use Rattle.un_defs.specs.declared.refusal.Refusal.TheVariants.{NoSuchKind, WrongKind}
use Rattle.un_defs.specs.Refusing.{first_refusal, refused_if}

-- the numbers of two kinds with these names
abbrev pub both : Catalog → List ℕ → List ℕ → Option (ℕ × ℕ)
both S first second = option_and_then (λ a. option_map (λ b. (a, b)) (kind_named S second)) (kind_named S first)

-- the rule with its kinds by number, where all kinds are known
abbrev pub numbered : Catalog → NamedRule → Option Rule
numbered S (JunctionEdge junction terminal edge) = option_map (λ k. rule.JunctionEdge k.0 terminal k.1) (both S junction edge)
numbered S (JunctionJunction first first_terminal second second_terminal) =
    option_map (λ k. rule.JunctionJunction k.0 first_terminal k.1 second_terminal) (both S first second)
numbered S (Containment container content) = option_map (λ k. rule.Containment k.0 k.1) (both S container content)
numbered S (Attachment structure content) = option_map (λ k. rule.Attachment k.0 k.1) (both S structure content)
numbered S (EdgeJunctionEdge edge terminal junction other other_terminal) =
    option_and_then (λ e. option_map (λ k. rule.EdgeJunctionEdge e terminal k.0 k.1 other_terminal) (both S junction other)) (kind_named S edge)

-- no kind has the name
abbrev pub no_kind : Catalog → List ℕ → Option Refusal
no_kind S name = option_map_or (λ k. None) (kind_named S name) (Some (NoSuchKind name))

-- the names of a rule's kinds, in the order of its list
abbrev pub kinds_of : NamedRule → List (List ℕ)
kinds_of (JunctionEdge junction terminal edge) = junction ∷ edge ∷ []
kinds_of (JunctionJunction first first_terminal second second_terminal) = first ∷ second ∷ []
kinds_of (Containment container content) = container ∷ content ∷ []
kinds_of (Attachment structure content) = structure ∷ content ∷ []
kinds_of (EdgeJunctionEdge edge terminal junction other other_terminal) = edge ∷ junction ∷ other ∷ []

-- the first name that no kind has
abbrev pub unknown_kind : Catalog → NamedRule → Option Refusal
unknown_kind S named = first_refusal (map (no_kind S) (kinds_of named))

-- a kind is of another class than the form of the rule needs
abbrev pub wrong_class : Catalog → NamedRule → Option Refusal
wrong_class S named = option_map_or (λ r. refused_if (not (has_classes S r)) WrongKind) (numbered S named) None

-- the first refusal of a rule by its names
abbrev pub naming_refusal : Catalog → NamedRule → Option Refusal
naming_refusal S named = first_refusal (unknown_kind S named ∷ wrong_class S named ∷ [])
