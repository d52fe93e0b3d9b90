use Rattle.std.proofs.Common.{◌∙◌, sym, arith}
use Rattle.un_pages.proofs.Nodes.{none_beyond}
use Rattle.un_pages.proofs.page.PageLevel.next.Goals as goal

pub returns-else-at-len : goal.returns-else-at-len
returns-else-at-len g c = rw (← c.self.view_is) (sym (c.beyond-at.ensures.first ∙ none_beyond c.self.inside.row c.beyond-at.result (omega arith)))
