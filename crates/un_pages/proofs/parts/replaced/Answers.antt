use Rattle.std.proofs.Common.{◌≤◌, ◌+◌, ◌-◌, length, take, drop, suc, arith, ap, sym, subst, ◌∙◌}
use Rattle.un_pages.specs.Pairs.{flat, HasFirstKeys}
use Rattle.un_pages.proofs.Splices.{on_ok, put_leads, put_bound, flat_high, flat_low, high_flat, low_flat, joins_high, joins_low}
use Rattle.un_pages.proofs.parts.replaced.Goals as goal

-- the part after it
pub joined-requires : goal.joined-requires
joined-requires g c =
    let high = rw (← c.deref.ensures) at (flat_high g.T.Level.pairs c.args.row.now c.args.at _ c.entry.ensures) in
    joins_high g.met.K.Ord.total _ _ _ _ _ high c.requires.ordered

pub returns-then-at-len-clause-pairs : goal.returns-then-at-len-clause-pairs
returns-then-at-len-clause-pairs g c =
    let seat = rw (c.in_ok-joined.ensures, c.deref.ensures) at c.in_ok-new.ensures in
    on_ok c.spliced.result (λ r e. ap (flat g.T.Level.pairs) e ∙ high_flat g.T.Level.pairs c.args.row.now c.in_ok-new.new c.args.at (g.T.Level.pairs c.args.rest) _ c.entry.ensures seat) c.spliced.ensures

pub returns-then-at-len-clause-leads : goal.returns-then-at-len-clause-leads
returns-then-at-len-clause-leads g c = on_ok c.spliced.result (λ r e. subst (HasFirstKeys g.T.Level.pairs) (sym e) (put_leads g.T.Level.pairs c.args.row.now c.in_ok-new.new c.args.at 2 _ c.in_ok-new.ensures c.requires.leads)) c.spliced.ensures

pub returns-then-at-len-clause-bound : goal.returns-then-at-len-clause-bound
returns-then-at-len-clause-bound g c =
    let within : c.args.at + 2 ≤ length c.args.row.now = omega arith in
    on_ok c.spliced.result (λ r e. subst (λ l. length l ≤ length c.args.row.now) (sym e) (put_bound g.T.Level.pairs c.args.row.now c.in_ok-new.new c.args.at 2 c.in_ok-new.ensures.bound within)) c.spliced.ensures

-- the part before it
pub joined-requires-then-at-gt0 : goal.joined-requires-then-at-gt0
joined-requires-then-at-gt0 g c =
    let low = rw (← c.deref-then-at-gt0.ensures) at (flat_low g.T.Level.pairs c.args.row.now c.args.at _ c.if-at-gt0.true c.entry-then-at-gt0.ensures) in
    joins_low g.met.K.Ord.total (flat g.T.Level.pairs (take (c.args.at - 1) c.args.row.now)) (g.T.Level.pairs c.deref-then-at-gt0.result.now) (flat g.T.Level.pairs (take c.args.at c.args.row.now)) (g.T.Level.pairs c.args.rest) (flat g.T.Level.pairs (drop (suc c.args.at) c.args.row.now)) low c.requires.ordered

pub returns-then-at-gt0-clause-pairs : goal.returns-then-at-gt0-clause-pairs
returns-then-at-gt0-clause-pairs g c =
    let seat = rw (c.in_ok-joined-2.ensures, c.deref-then-at-gt0.ensures) at c.in_ok-new-2.ensures in
    on_ok c.spliced-then-at-gt0.result (λ r e. ap (flat g.T.Level.pairs) e ∙ low_flat g.T.Level.pairs c.args.row.now c.in_ok-new-2.new c.args.at (g.T.Level.pairs c.args.rest) _ c.if-at-gt0.true c.entry-then-at-gt0.ensures seat) c.spliced-then-at-gt0.ensures

pub returns-then-at-gt0-clause-leads : goal.returns-then-at-gt0-clause-leads
returns-then-at-gt0-clause-leads g c = on_ok c.spliced-then-at-gt0.result (λ r e. subst (HasFirstKeys g.T.Level.pairs) (sym e) (put_leads g.T.Level.pairs c.args.row.now c.in_ok-new-2.new (c.args.at - 1) 2 _ c.in_ok-new-2.ensures c.requires.leads)) c.spliced-then-at-gt0.ensures

pub returns-then-at-gt0-clause-bound : goal.returns-then-at-gt0-clause-bound
returns-then-at-gt0-clause-bound g c =
    let within : c.args.at - 1 + 2 ≤ length c.args.row.now = omega (arith, c.if-at-gt0.true, c.requires.within) in
    on_ok c.spliced-then-at-gt0.result (λ r e. subst (λ l. length l ≤ length c.args.row.now) (sym e) (put_bound g.T.Level.pairs c.args.row.now c.in_ok-new-2.new (c.args.at - 1) 2 c.in_ok-new-2.ensures.bound within)) c.spliced-then-at-gt0.ensures

-- alone
pub returns-clause-leads : goal.returns-clause-leads
returns-clause-leads g c = on_ok c.spliced-2.result (λ r e. subst (HasFirstKeys g.T.Level.pairs) (sym e) (put_leads g.T.Level.pairs c.args.row.now c.in_ok-new-3.new c.args.at 1 _ c.in_ok-new-3.ensures.seated c.requires.leads)) c.spliced-2.ensures
