-- The errors at a point, from what meets there and the associations of the rows there.
use Rattle.std.specs.Prelude.{ℕ, nat_le, Bool, false, if◌then◌else◌, List, [], ◌∷◌, ◌++◌, map, flat_map, option_to_list, length, Option, Some, None}
use Rattle.std.specs.Option.{option_map, option_map_or}
use Rattle.un_geom.specs.declared.point.Point.{Point}
use Rattle.un_geom.specs.Places.{same_point}
use Rattle.un_schema.specs.declared.rule.Rule.{Rule}
use Rattle.un_schema.specs.Catalog.{Catalog}
use Rattle.un_defs.specs.declared.row.Row.{Row}
use Rattle.un_defs.specs.declared.assoc.Assoc.{Assoc}
use Rattle.un_defs.specs.declared.star.ErrorKind.{ErrorKind}
use Rattle.un_defs.specs.declared.star.ErrorKind.TheVariants.{Stacked, MissingJunction, NoRule, BadTerminal, MidspanTerminal}
use Rattle.un_defs.specs.declared.star.TopoError.{TopoError}
use Rattle.un_defs.specs.Orders.{rising, error_cmp}
use Rattle.un_defs.specs.Features.{Features, associations_of}
use Rattle.un_defs.specs.Ports.{ports, point_of_port}
use Rattle.un_defs.specs.Permit.{permitted}
use Rattle.un_defs.specs.Errors.{error_of, error_at_end}
use Rattle.un_star.specs.declared.meet.Joint.{Joint}
use Rattle.un_star.specs.declared.meet.End.{End}
use Rattle.un_star.specs.Meet.{has_chosen_by, joins_by, joints_here, ends_here}

-- what is wrong with an end at the only device or junction, if anything is
abbrev pub end_error_kind : List Rule → Joint → List End → End → Option ErrorKind
end_error_kind rules j ends e =
    if has_chosen_by j e
    then (if joins_by rules j ends e then None else Some NoRule)
    else (if e.outer then Some BadTerminal else (if nat_le 2 j.terminals then Some MidspanTerminal else None))

abbrev pub end_error_of : End → ErrorKind → TopoError
end_error_of e kind = error_of kind e.port.feature e.port.number

-- what is wrong with the ends where there is no device or junction
abbrev pub loose_errors : List End → List TopoError
loose_errors ends = if nat_le 2 (length ends) then map (λ e. end_error_of e MissingJunction) ends else []

-- what is wrong with the ends at the only device or junction
abbrev pub joint_errors_here : List Rule → Joint → List End → List TopoError
joint_errors_here rules j ends = flat_map (λ e. option_to_list (option_map (end_error_of e) (end_error_kind rules j ends e))) ends

-- of each device or junction that is not alone
abbrev pub stacked : Joint → TopoError
stacked j = error_of Stacked j.id 1

abbrev pub meeting_errors_of : List Rule → List Joint → List End → List TopoError
meeting_errors_of rules [] ends = loose_errors ends
meeting_errors_of rules (j ∷ []) ends = joint_errors_here rules j ends
meeting_errors_of rules (j ∷ k ∷ more) ends = map stacked (j ∷ k ∷ more)

-- the errors of an association at both its ends, unless it is permitted
abbrev pub errors_of_association : Features → Point → Assoc → List TopoError
errors_of_association F p a = if permitted F a then [] else error_at_end F p a a.from ++ error_at_end F p a a.to

-- the errors of the associations of a row that are not permitted
abbrev pub association_errors_of : Features → Point → ℕ → List TopoError
association_errors_of F p id = flat_map (errors_of_association F p) (associations_of F id)

abbrev pub association_errors_here : Features → Point → List TopoError
association_errors_here F p = flat_map (λ q. association_errors_of F p q.feature) (ports F p)

abbrev pub errors_here : Catalog → Features → Point → List TopoError
errors_here S F p = rising error_cmp (meeting_errors_of S.rules (joints_here F p) (ends_here S F p) ++ association_errors_here F p)

-- ---- the least port of a row at a point

-- the row's port with this number stands at the point
abbrev pub stands_as : Point → Row → ℕ → Bool
stands_as p r number = option_map_or (λ q. same_point q p) (point_of_port r number) false
