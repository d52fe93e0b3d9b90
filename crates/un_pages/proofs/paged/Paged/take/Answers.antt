use Rattle.un_pages.proofs.Changes.{taken_done}
use Rattle.un_pages.proofs.paged.Paged.take.Goals as goal

pub returns-in_default : goal.returns-in_default
returns-in_default g c = record { ok = taken_done g.K.Ord.cmp c.args.key.now c.args.self.now c.take_here.new.self c.in_ok-take_here.field-0 c.in_default.not-Kept c.in_ok-take_here.ensures.taken; err = tt }
