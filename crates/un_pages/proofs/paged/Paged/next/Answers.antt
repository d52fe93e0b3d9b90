use Rattle.un_pages.proofs.Steps.{held_step, held_last}
use Rattle.un_pages.proofs.paged.Paged.next.Goals as goal

pub returns-clause-rest : goal.returns-clause-rest
returns-clause-rest g c = held_step g.met.K.Ord.total c.args.after c.args.self.now c.first_past.result c.len-len.ensures.ordered c.first_past.ensures

pub returns-clause-last : goal.returns-clause-last
returns-clause-last g c = held_last g.met.K.Ord.total c.args.after c.args.self.now c.first_past.result c.first_past.ensures
