use Rattle.std.proofs.Common.{◌≤◌, ◌+◌, ◌∙◌, ap, sym, subst, length}
use Rattle.un_pages.specs.Pairs.{flat, IsGrown}
use Rattle.un_pages.proofs.Rows.{rises}
use Rattle.un_pages.proofs.Splices.{on_ok, with_flat, with_grown, with_bound}
use Rattle.un_pages.proofs.parts.with.Goals as goal

pub place-at-requires-clause-ordered : goal.place-at-requires-clause-ordered
place-at-requires-clause-ordered g c = rises g.met.K.Ord.total _ _ c.requires

pub returns-clause-pairs : goal.returns-clause-pairs
returns-clause-pairs g c =
    let seat = rw (c.in_ok-with.ensures, c.deref.ensures) at c.in_ok-new.ensures in
    on_ok c.spliced.result (λ r e. ap (flat g.T.Level.pairs) e ∙ with_flat g.met.K.Ord.total g.T.Level.pairs c.args.row.now c.args.key _ _ c.requires c.place-at.ensures c.entry.ensures _ _ seat) c.spliced.ensures

pub returns-clause-grown : goal.returns-clause-grown
returns-clause-grown g c =
    let seat = rw (c.in_ok-with.ensures, c.deref.ensures) at c.in_ok-new.ensures in
    on_ok c.spliced.result (λ r e. subst (IsGrown g.K.Ord.cmp g.T.Level.pairs) (sym e) (with_grown g.met.K.Ord.total g.T.Level.pairs c.args.row.now c.args.key _ _ c.requires c.place-at.ensures c.entry.ensures _ _ seat)) c.spliced.ensures

pub returns-clause-bound : goal.returns-clause-bound
returns-clause-bound g c =
    let seat = rw (c.in_ok-with.ensures, c.deref.ensures) at c.in_ok-new.ensures in
    on_ok c.spliced.result (λ r e. subst (λ l. length l ≤ length c.args.row.now + 1) (sym e) (with_bound g.met.K.Ord.total g.T.Level.pairs c.args.row.now c.args.key _ _ c.requires c.place-at.ensures c.entry.ensures _ _ seat)) c.spliced.ensures
