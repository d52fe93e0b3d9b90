use Rattle.std.proofs.Common.{◌<◌, arith}
use Rattle.std.proofs.lemmas.List.Elements.{at_read}
use Rattle.un_publish.specs.declared.session.View.{View}
use Rattle.un_asof.proofs.Keeping.{counted}
use Rattle.un_asof.proofs.past.count_up_to.Goals as goal

pub returns-then-view-version-clause-count : goal.returns-then-view-version-clause-count
returns-then-view-version-clause-count g c =
    let over = λ (w : View g.row.M.Denot). c.args.version < w.version in
    counted c.args.views.now c.args.version c.loop-i.i (omega arith) c.loop-i.invariant
    (λ d lt. at_read c.args.views.now over c.loop-i.i c.index-views-i.result lt c.index-views-i.is c.if-view-version.true d)

pub returns-clause-count : goal.returns-clause-count
returns-clause-count g c =
    counted c.args.views.now c.args.version _ (omega arith) (λ k d lt. c.loop-i.invariant k d (omega arith)) (λ d lt. absurd (omega arith))
