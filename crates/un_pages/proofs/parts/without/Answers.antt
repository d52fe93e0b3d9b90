use Rattle.std.proofs.Common.{◌∙◌, ap, sym, subst, length}
use Rattle.un_pages.specs.Pairs.{flat, IsChanged}
use Rattle.un_pages.proofs.Rows.{rises}
use Rattle.un_pages.proofs.Splices.{on_ok, gone_flat, gone_changed, rest_flat, rest_ordered, changed}
use Rattle.un_pages.proofs.parts.without.Goals as goal

pub place-at-requires-clause-ordered : goal.place-at-requires-clause-ordered
place-at-requires-clause-ordered g c = rises g.met.K.Ord.total _ _ c.requires

-- no pair of the part is left
pub returns-in-None-clause-pairs : goal.returns-in-None-clause-pairs
returns-in-None-clause-pairs g c =
    let gone = rw c.deref.ensures at (rw c.in-None.is at c.in_ok-without.ensures) in
    on_ok c.spliced.result (λ r e. ap (flat g.T.Level.pairs) (rw c.empty.ensures at e) ∙ gone_flat g.met.K.Ord.total g.T.Level.pairs c.args.row.now c.args.key.now _ _ c.requires c.place-at.ensures c.entry.ensures gone) c.spliced.ensures

pub returns-in-None-clause-changed : goal.returns-in-None-clause-changed
returns-in-None-clause-changed g c =
    let gone = rw c.deref.ensures at (rw c.in-None.is at c.in_ok-without.ensures) in
    on_ok c.spliced.result (λ r e. subst (IsChanged g.K.Ord.cmp g.T.Level.pairs (length c.args.row.now)) (sym (rw c.empty.ensures at e)) (gone_changed g.met.K.Ord.total g.T.Level.pairs c.args.row.now c.args.key.now _ _ c.requires c.place-at.ensures c.entry.ensures gone)) c.spliced.ensures

-- some are
pub replaced-requires-clause-ordered : goal.replaced-requires-clause-ordered
replaced-requires-clause-ordered g c =
    let rest = rw c.deref.ensures at (rw c.in-Some.is at c.in_ok-without.ensures) in
    rest_ordered g.met.K.Ord.total g.T.Level.pairs c.args.row.now c.args.key.now _ _ c.requires c.place-at.ensures c.entry.ensures (g.T.Level.pairs c.in-Some.rest) rest

pub returns-in-Some-clause-pairs : goal.returns-in-Some-clause-pairs
returns-in-Some-clause-pairs g c =
    let rest = rw c.deref.ensures at (rw c.in-Some.is at c.in_ok-without.ensures) in
    on_ok c.replaced.result (λ r e. e ∙ rest_flat g.met.K.Ord.total g.T.Level.pairs c.args.row.now c.args.key.now _ _ c.requires c.place-at.ensures c.entry.ensures (g.T.Level.pairs c.in-Some.rest) rest) c.replaced.ensures.pairs

pub returns-in-Some-clause-changed : goal.returns-in-Some-clause-changed
returns-in-Some-clause-changed g c =
    let rest = rw c.deref.ensures at (rw c.in-Some.is at c.in_ok-without.ensures) in
    let ordered = rest_ordered g.met.K.Ord.total g.T.Level.pairs c.args.row.now c.args.key.now _ _ c.requires c.place-at.ensures c.entry.ensures (g.T.Level.pairs c.in-Some.rest) rest in
    changed g.K.Ord.cmp g.T.Level.pairs c.replaced.result _ (length c.args.row.now) ordered c.replaced.ensures.pairs c.replaced.ensures.leads c.replaced.ensures.bound
