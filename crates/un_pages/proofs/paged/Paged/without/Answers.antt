use Rattle.std.proofs.Common.{◌∙◌, sym, refl}
use Rattle.un_pages.proofs.Splices.{on_ok}
use Rattle.un_pages.proofs.Nodes.{remove_none}
use Rattle.un_pages.proofs.paged.Paged.without.Goals as goal

pub returns-in-None : goal.returns-in-None
returns-in-None g c = on_ok c.share.result (λ m e. e ∙ sym (remove_none _ c.args.self.now c.in-None.ensures)) c.share.ensures

pub without_found-requires : goal.without_found-requires
without_found-requires g c = rw (← c.in-Some.ensures) refl
