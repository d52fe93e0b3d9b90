use Rattle.std.proofs.Common.{◌<◌, ◌∙◌, ap, subst, length, get_or}
use Rattle.un_feed.specs.Differences.{change_shown}
use Rattle.un_feed.proofs.Paging.{applied_more}
use Rattle.un_feed.proofs.putting.put_in.Goals as goal

pub loop-change-preserved : goal.loop-change-preserved
loop-change-preserved c =
    let same = c.as_slice-change-items.ensures in
    let i = c.loop-change.change-index in
    applied_more change_shown c.args.map.now c.loop-change.changed c.put_change.new.map c.args.page.now.pairs i c.change-item.result c.loop-change.invariant
    (subst (λ l. i < length l) same c.loop-change-test.true)
    (c.change-item.is ∙ ap (λ l. get_or l i c.change-item.result) same)
    c.in_ok-put_change.ensures.ok
