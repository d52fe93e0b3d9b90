use Rattle.std.proofs.Common.{◌≡◌, ◌++◌, flat_map, take}
use Rattle.un_star.specs.Links.{coin_ties_by}
use Rattle.un_star.proofs.links.add_all_coins.Given as goal

-- the links between the ends so far are added
abbrev pub invariant-loop-end : goal.invariant-loop-end
invariant-loop-end l =
    l.ties.items ≡ l.fn.ties.items ++ flat_map (coin_ties_by l.schema.rules l.node l.joint l.meeting.ends.items) (take l.end-index l.end-items)
