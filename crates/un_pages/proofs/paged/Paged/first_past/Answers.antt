use Rattle.std.proofs.Common.{◌≡◌, ◌∙◌, ap, sym}
use Rattle.un_pages.specs.Pairs.{all_of}
use Rattle.un_pages.proofs.Nodes.{past_none}
use Rattle.un_pages.proofs.paged.Paged.first_past.Goals as goal

pub returns-in-None : goal.returns-in-None
returns-in-None g c =
    let all : c.in_ok-root.root.now.value ≡ c.args.self.now = ap all_of c.in_ok-root.ensures.value ∙ c.self.view_is in
    rw (c.in-None.is, past_none g.K.Ord.cmp c.args.self.now) (sym (rw (c.deref.ensures, all) at c.first.ensures))
