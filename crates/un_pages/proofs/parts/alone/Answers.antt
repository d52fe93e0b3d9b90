use Rattle.un_pages.specs.Pairs.{pair_held}
use Rattle.un_pages.proofs.Splices.{seated_single}
use Rattle.un_pages.proofs.parts.alone.Goals as goal

pub returns-clause-seated : goal.returns-clause-seated
returns-clause-seated g c = rw (c.in_ok-row.ensures, c.in_ok-new.ensures.ok) (seated_single g.T.Level.pairs c.args.part (pair_held c.first-key.result) c.first-key.ensures)
