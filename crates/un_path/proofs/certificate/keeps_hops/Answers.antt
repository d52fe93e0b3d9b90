use Rattle.std.proofs.Common.{rules, ◌<◌, length, get_or, take_all, subst}
use Rattle.un_walk.proofs.Growing.{contains_at}
use Rattle.un_path.specs.declared.hops.Hop.{Hop}
use Rattle.un_path.specs.Checking.{KeepsHops}
use Rattle.un_path.proofs.certificate.keeps_hops.Goals as goal

abbrev no_hop : Hop
no_hop = record { to = 0; cost = 0 }

pub bounds-costs-hop : goal.bounds-costs-hop
bounds-costs-hop c = c.requires (get_or c.args.hops.now c.loop-hop.hop-index no_hop) (contains_at c.args.hops.now c.loop-hop.hop-index no_hop c.loop-hop-test.true)

pub offset_bounds-costs-hop : goal.offset_bounds-costs-hop
offset_bounds-costs-hop c =
    let below : (get_or c.args.hops.now c.loop-hop.hop-index no_hop).to < length c.args.costs.now =
    c.requires (get_or c.args.hops.now c.loop-hop.hop-index no_hop) (contains_at c.args.hops.now c.loop-hop.hop-index no_hop c.loop-hop-test.true) in
    search rules

pub returns : goal.returns
returns c = subst (KeepsHops c.args.costs.now c.args.cost) (take_all c.loop-hop.hop-index c.args.hops.now c.loop-hop-test.false) c.loop-hop.invariant
