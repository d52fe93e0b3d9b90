use Rattle.std.proofs.Common.{take, slice_index, map, ◌∙◌, ap, sym}
use Rattle.std.proofs.lemmas.List.{take_more}
use Rattle.un_store.specs.Edits.{at_moment, settled}
use Rattle.un_store.proofs.Held.{touched, settled_none, settled_more}
use Rattle.un_store.proofs.store.Store.settle.Goals as goal

pub loop-id-init : goal.loop-id-init
loop-id-init c = c.in_ok-store.ensures ∙ sym (settled_none c.args.moment c.args.self.now)

pub loop-id-preserved : goal.loop-id-preserved
loop-id-preserved c =
    let ids = c.args.ids.now in
    let i = c.loop-id.id-index in
    let id = slice_index ids i in
    c.in_ok-settle_one.ensures ∙ ap (map (touched id (at_moment c.args.moment))) c.loop-id.invariant ∙ settled_more id c.args.moment (take i ids) c.args.self.now
    ∙ ap (λ l. settled l c.args.moment c.args.self.now) (sym (take_more ids i 0 c.loop-id-test.true))
