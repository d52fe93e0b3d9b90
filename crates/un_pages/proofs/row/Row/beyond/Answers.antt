use Rattle.un_pages.proofs.Nodes.{past_from, past_found}
use Rattle.un_pages.proofs.Reached.{after_found, after_gap}
use Rattle.un_pages.proofs.row.Row.beyond.Goals as goal

pub returns-in-Ok-clause-first : goal.returns-in-Ok-clause-first
returns-in-Ok-clause-first g c = past_found g.met.K.Ord.total c.args.key.now c.args.self.now c.in-Ok.at c.in-Ok.ensures.found

pub returns-in-Ok-clause-rest : goal.returns-in-Ok-clause-rest
returns-in-Ok-clause-rest g c = after_found g.met.K.Ord.total c.args.key.now c.args.self.now c.in-Ok.at c.in-Ok.ensures.found

pub returns-in-Err-clause-first : goal.returns-in-Err-clause-first
returns-in-Err-clause-first g c = past_from g.met.K.Ord.total c.args.key.now c.args.self.now c.in-Err.at c.in-Err.ensures.gap.before c.in-Err.ensures.gap.after

pub returns-in-Err-clause-rest : goal.returns-in-Err-clause-rest
returns-in-Err-clause-rest g c = after_gap g.met.K.Ord.total c.args.key.now c.args.self.now c.in-Err.at c.in-Err.ensures.gap
