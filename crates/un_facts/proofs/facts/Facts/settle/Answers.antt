use Rattle.std.proofs.Common.{sym, subst, ap, ◌∙◌}
use Rattle.std.specs.Arc.{arc_value}
use Rattle.un_defs.specs.Ports.{ports}
use Rattle.un_grid.specs.Grids.{ports_in}
use Rattle.un_facts.specs.Known.{known_of, features_of, settled_at}
use Rattle.un_facts.specs.Standing.{IsKnown}
use Rattle.un_facts.proofs.Settled.{settled_known, settled_grid}
use Rattle.un_facts.proofs.facts.Facts.settle.Goals as goal

pub of-requires-clause-known : goal.of-requires-clause-known
of-requires-clause-known c =
    let P = c.parts-parts.result.now in
    subst IsKnown
    (λ i. known_of (sym c.in_ok-clone.ensures.cases i) (sym c.in_ok-settle.ensures i) (sym c.in_ok-share.ensures i))
    (settled_known (known_of (arc_value P.frame) P.rows P.assocs) c.args.ids.now c.args.moment c.parts-parts.ensures.known)

pub of-requires-clause-grid : goal.of-requires-clause-grid
of-requires-clause-grid c =
    let P = c.parts-parts.result.now in
    let F = features_of (arc_value P.frame).rules P.rows P.assocs in
    λ p. ap (λ g. ports_in g p) c.in_ok-share-2.ensures.same ∙ settled_grid P.grid F c.args.moment c.args.ids.now c.parts-parts.ensures.grid p
    ∙ (λ i. ports (features_of (sym c.in_ok-clone.ensures.cases i).rules (sym c.in_ok-settle.ensures i) (sym c.in_ok-share.ensures i)) p)

pub returns : goal.returns
returns c =
    c.in_ok-facts.ensures
    ∙ (λ i. known_of (c.in_ok-clone.ensures.cases i) (c.in_ok-settle.ensures i) (c.in_ok-share.ensures i))
    ∙ ap (λ K. settled_at K c.args.ids.now c.args.moment) c.parts-parts.ensures.value
