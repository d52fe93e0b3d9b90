use Rattle.std.proofs.Common.{◌≡◌, ◌++◌, flat_map, take}
use Rattle.un_defs.specs.Links.{ties_by, association_link}
use Rattle.un_star.proofs.links.add_associations.Given as goal

-- the links by the associations so far are added
abbrev pub invariant-loop-assoc : goal.invariant-loop-assoc
invariant-loop-assoc g l =
    l.ties.items ≡ l.fn.ties.items ++ flat_map (λ a. flat_map (ties_by l.node) (association_link (g.R.Rows.features l.rows) a)) (take l.assoc-index l.assocs)
