use Rattle.std.proofs.Common.{subst}
use Rattle.un_core.specs.Changes.{HasKept}
use Rattle.un_core.proofs.Collecting.{has_changed}
use Rattle.un_core.proofs.net.Net.changed_points.Goals as goal

pub returns-clause-whole : goal.returns-clause-whole
returns-clause-whole c =
    let s = c.args.older.now in
    let t = c.args.self.now in
    let rects = c.in_ok-rects.rects.items in
    let points = c.in_ok-points.points.items in
    let kept = subst (λ l. HasKept s.kept t.kept l points) c.deref.ensures.value
    (subst (λ l. HasKept s.kept l c.deref.result.now points) c.kept-2.ensures
    (subst (λ l. HasKept l c.kept-2.result.now c.deref.result.now points) c.kept.ensures c.in_ok-points.ensures.whole)) in
    has_changed s t c.version-older.ensures.state c.schema-catalog.ensures.catalog c.version-newer.ensures.state c.args.marks.now rects points c.in_ok-rects.ensures kept
