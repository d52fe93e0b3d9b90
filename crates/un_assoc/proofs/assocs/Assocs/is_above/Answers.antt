use Rattle.std.proofs.Common.{◌==◌, ◌∙◌, ap, sym, length}
use Rattle.std.specs.Ordering.{nat_cmp}
use Rattle.std.specs.List.{list_any}
use Rattle.std.specs.Map.{lookup}
use Rattle.std.specs.BTreeMap.{is_at}
use Rattle.un_assoc.specs.Containing.{containers_above}
use Rattle.un_assoc.proofs.Chains.{is_among}
use Rattle.un_assoc.proofs.Holding.{container_is}
use Rattle.un_assoc.proofs.assocs.Assocs.is_above.Goals as goal

pub returns : goal.returns
returns c =
    c.is_above.ensures ∙ ap (λ n. is_among n (λ q. lookup (is_at (nat_cmp q)) c.self.inside.containers.containers) c.args.id c.args.sought) c.len.ensures.count
    ∙ ap (λ up. is_among (length c.self.inside.by_id) up c.args.id c.args.sought)
    (λ i q. sym (container_is c.self.inside.containers.containers c.self.inside.containers.counts c.self.inside.by_id c.self.invariant.contained q) i)
    ∙ ap (λ l. list_any (λ x. x == c.args.sought) (containers_above l.associations c.args.id)) c.self.view_is
