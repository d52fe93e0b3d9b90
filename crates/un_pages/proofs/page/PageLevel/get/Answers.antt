use Rattle.std.proofs.Common.{sym, ◌∙◌, rules}
use Rattle.std.specs.BTreeMap.{is_at}
use Rattle.un_pages.proofs.Nodes.{lookup_here, lookup_next}
use Rattle.un_pages.proofs.page.PageLevel.get.Goals as goal

pub loop-at-preserved : goal.loop-at-preserved
loop-at-preserved g c =
    lookup_next (is_at (g.K.Ord.cmp c.args.key.now)) c.self.inside.row c.loop-at.at _ c.entry-here.ensures (search rules) ∙ c.loop-at.invariant

pub returns-then-is_eq : goal.returns-then-is_eq
returns-then-is_eq g c =
    rw (← c.self.view_is) (sym (sym c.loop-at.invariant ∙ lookup_here (is_at (g.K.Ord.cmp c.args.key.now)) c.self.inside.row c.loop-at.at _ c.entry-here.ensures (search rules)))
