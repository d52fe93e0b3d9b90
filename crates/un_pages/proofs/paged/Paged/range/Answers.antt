use Rattle.std.proofs.Common.{◌≡◌, length, ap, arith, rules}
use Rattle.std.proofs.iter.runs.Sources.{from_front}
use Rattle.std.specs.Map.Iter.{TakesFirst}
use Rattle.un_pages.specs.Pairs.{from_on, pair_held}
use Rattle.un_pages.proofs.Reached.{few_from}
use Rattle.un_pages.proofs.paged.Paged.range.Goals as goal

pub returns-in-Some-clause-fits : goal.returns-in-Some-clause-fits
returns-in-Some-clause-fits g c =
    let e : c.range.result ≡ from_on g.K.Ord.cmp c.args.from c.args.self.now = search rules in
    few_from g.K.Ord.cmp c.args.from c.args.self.now c.range.result c.len-len.result e c.len-len.ensures.len (omega arith)

pub returns-in-Some-clause-runs : goal.returns-in-Some-clause-runs
returns-in-Some-clause-runs g c = from_front (TakesFirst pair_held) pair_held (λ s. s) (λ s t h. ap length h.0) (λ s x t h. h)

pub returns-in-None-clause-runs : goal.returns-in-None-clause-runs
returns-in-None-clause-runs g c = from_front (TakesFirst pair_held) pair_held (λ s. s) (λ s t h. ap length h.0) (λ s x t h. h)
