-- What is looked at before an edit of associations or controllers is made, in order, and the refusal that is due.
pub use Rattle.un_defs.specs.Refusing.{first_refusal, refused_if}
use Rattle.std.specs.Prelude.{ℕ, nat_lt, ◌==◌, Bool, false, not, ◌&&◌, ◌||◌, List, [], ◌∷◌, length, Option, Some, None, is_none, is_some, option_and_then}
use Rattle.std.specs.List.{list_any}
use Rattle.std.specs.Option.{option_map, option_map_or}
use Rattle.un_schema.specs.Catalog.{Catalog, kind_at, place_of}
use Rattle.un_schema.specs.Classes.{is_container as may_contain, is_structure}
use Rattle.un_defs.specs.declared.port.Port.{Port}
use Rattle.un_defs.specs.declared.row.Row.{Row}
use Rattle.un_defs.specs.declared.edit.Edit.{Edit}
use Rattle.un_defs.specs.declared.edit.Edit.TheVariants as edit
use Rattle.un_defs.specs.declared.refusal.Refusal.{Refusal}
use Rattle.un_defs.specs.declared.refusal.Refusal.TheVariants as refusal
use Rattle.un_defs.specs.declared.refusal.Limit.TheVariants as limit
use Rattle.un_defs.specs.declared.assoc.Assoc.{Assoc}
use Rattle.un_defs.specs.declared.assoc.Controller.{Controller}
use Rattle.un_defs.specs.Features.{Features, row, association, is_joint, has_terminal}
use Rattle.un_defs.specs.Star.{controller_at}
use Rattle.un_defs.specs.Change.{Setting}
use Rattle.un_assoc.specs.Containing.{container_of, contents_count, containers_above}

-- ---- of rows

-- no row has the id
abbrev pub no_feature : Features → ℕ → Option Refusal
no_feature F id = option_map_or (λ r. None) (row F id) (Some (refusal.NoSuchFeature id))

-- what is due of the row with this id
abbrev pub of_feature : Features → ℕ → (Row → Option Refusal) → Option Refusal
of_feature F id cause = option_and_then cause (row F id)

-- what is due of two rows
abbrev pub of_both : Features → ℕ → ℕ → (Row → Row → Option Refusal) → Option Refusal
of_both F first second cause = of_feature F first (λ r. of_feature F second (cause r))

-- only two devices or junctions connect
abbrev pub not_joints : Port → Port → Row → Row → Option Refusal
not_joints from to r s = refused_if (not (is_joint r.class && is_joint s.class) || (from.feature == to.feature)) refusal.WrongKind

-- the row has no such terminal
abbrev pub no_terminal : Port → Row → Option Refusal
no_terminal q r = refused_if (not (has_terminal r q.number)) (refusal.BadTerminal q.feature)

-- only an assembly or a structure contains others
abbrev pub not_containing : Row → Option Refusal
not_containing r = refused_if (not (may_contain r.class)) refusal.WrongKind

-- only to a structure is something attached, and never another structure
abbrev pub not_attaching : Row → Row → Option Refusal
not_attaching r s = refused_if (not (is_structure r.class) || is_structure s.class) refusal.WrongKind

-- the kind of the row may be a controller
abbrev pub may_control : Catalog → Row → Bool
may_control S r = option_map_or (λ k. k.controller) (kind_at S r.kind) false

abbrev pub not_controlling : Catalog → Row → Option Refusal
not_controlling S r = refused_if (not (may_control S r)) refusal.NotController

-- ---- of associations

-- the content is the container, or one of those above it
abbrev pub in_itself : List Assoc → ℕ → ℕ → Option Refusal
in_itself associations container content =
    refused_if ((container == content) || list_any (λ c. c == content) (containers_above associations container)) refusal.ContainsItself

-- the content has a container
abbrev pub in_another : List Assoc → ℕ → Option Refusal
in_another associations content = option_map (λ c. refusal.AlreadyContained c) (container_of associations content)

-- the most live associations, and the most contents of one container
abbrev pub most_associations : ℕ
most_associations = 200000

abbrev pub most_contents : ℕ
most_contents = 4096

-- another association would pass the greatest count
abbrev pub no_room : List Assoc → Option Refusal
no_room associations = refused_if (not (nat_lt (length associations) most_associations)) (refusal.Full limit.Associations)

-- another content would pass the greatest count
abbrev pub no_room_in : List Assoc → ℕ → Option Refusal
no_room_in associations container = refused_if (not (nat_lt (contents_count associations container) most_contents)) (refusal.Full limit.Contents)

-- no association has the id
abbrev pub no_association : Features → ℕ → Option Refusal
no_association F id = refused_if (is_none (association F id)) refusal.NoSuchAssociation

-- ---- of controllers

-- no tier has the name
abbrev pub no_tier : List (List ℕ) → List ℕ → Option Refusal
no_tier tiers name = refused_if (is_none (place_of name tiers)) refusal.NoSuchTier

-- the port has a controller, or has none
abbrev pub is_controlled : Features → Port → Option Refusal
is_controlled F q = refused_if (is_some (controller_at F q)) refusal.ControllerExists

abbrev pub no_controller : Features → Port → Option Refusal
no_controller F q = refused_if (is_none (controller_at F q)) refusal.NoSuchController

-- the most live controllers
abbrev pub most_controllers : ℕ
most_controllers = 4096

-- another controller would pass the greatest count
abbrev pub no_room_to_control : List Controller → Option Refusal
no_room_to_control controllers = refused_if (not (nat_lt (length controllers) most_controllers)) (refusal.Full limit.Controllers)

-- ---- all

-- a terminal as the port of a feature
abbrev pub port_at : ℕ → ℕ → Port
port_at id terminal = record { feature = id; number = terminal }

-- the refusal of an edit of associations or controllers, by its word: the first in the order in which these are looked at
abbrev pub refusal_of : Setting → Features → Edit → Option Refusal
refusal_of T F (edit.Connect from to) = first_refusal (
    no_feature F from.feature
    ∷ no_feature F to.feature
    ∷ of_both F from.feature to.feature (not_joints from to)
    ∷ of_feature F from.feature (no_terminal from)
    ∷ of_feature F to.feature (no_terminal to)
    ∷ no_room F.associations
    ∷ [])
refusal_of T F (edit.Contain container content) = first_refusal (
    no_feature F container
    ∷ no_feature F content
    ∷ of_feature F container not_containing
    ∷ in_itself F.associations container content
    ∷ in_another F.associations content
    ∷ no_room F.associations
    ∷ no_room_in F.associations container
    ∷ [])
refusal_of T F (edit.Attach structure content) = first_refusal (
    no_feature F structure
    ∷ no_feature F content
    ∷ of_both F structure content not_attaching
    ∷ no_room F.associations
    ∷ [])
refusal_of T F (edit.Detach assoc) = no_association F assoc
refusal_of T F (edit.Controller id terminal tier subnet) = first_refusal (
    no_feature F id
    ∷ of_feature F id (not_controlling T.catalog)
    ∷ of_feature F id (no_terminal (port_at id terminal))
    ∷ no_tier T.tiers tier
    ∷ is_controlled F (port_at id terminal)
    ∷ no_room_to_control F.controllers
    ∷ [])
refusal_of T F (edit.Uncontroller id terminal) = first_refusal (no_feature F id ∷ no_controller F (port_at id terminal) ∷ [])
refusal_of T F _ = None
