use Rattle.std.proofs.Common.{◌≡◌, flat_map, option_to_list, take}
use Rattle.std.specs.Option.{option_map}
use Rattle.un_star.specs.Errors.{end_error_kind, end_error_of}
use Rattle.un_star.proofs.errors.joint_errors_here.Given as goal

-- the errors of the ends so far
abbrev pub invariant-loop-end : goal.invariant-loop-end
invariant-loop-end l =
    l.errors.items ≡ flat_map (λ e. option_to_list (option_map (end_error_of e) (end_error_kind l.schema.rules l.joint l.meeting.ends.items e))) (take l.end-index l.end-items)
