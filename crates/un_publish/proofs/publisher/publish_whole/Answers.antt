use Rattle.std.proofs.Common.{◌≡◌, sym, ◌∙◌}
use Rattle.un_publish.proofs.Handed.{at_ok, from_ok, last_shown}
use Rattle.un_publish.proofs.publisher.publish_whole.Goals as goal

pub publish_as-requires : goal.publish_as-requires
publish_as-requires g c next is =
    let w = c.append.new.self in
    let desk = c.append.ensures.desk in
    let pending = (at_ok c.append.result _ _ (sym c.is_err.ensures.value ∙ c.if-is_err.false) c.append.ensures.pending).1 in
    let same : next ≡ c.args.next = last_shown g.T.Absorb.state g.T.Absorb.applied g.met.T.Snapshot.last_counts g.met.T.Snapshot.tells_apart _ _ _ _ next pending is in
    rw (same, desk) c.requires

pub returns-in_default-Ok : goal.returns-in_default-Ok
returns-in_default-Ok g c =
    let desk = c.append.ensures.desk in
    let pending = (at_ok c.append.result _ _ (sym c.is_err.ensures.value ∙ c.if-is_err.false) c.append.ensures.pending).1 in
    let values = from_ok c.publish_as.result.1 _ _ _ c.in_default-Ok.is-1 c.publish_as.ensures.values in
    let rule = from_ok c.publish_as.result.1 _ _ _ c.in_default-Ok.is-1 c.publish_as.ensures.rule in
    let same : c.publish_as.result.0.desk.shown.value ≡ c.args.next = last_shown g.T.Absorb.state g.T.Absorb.applied g.met.T.Snapshot.last_counts g.met.T.Snapshot.tells_apart _ _ _ _ _ pending values.0 in
    (same, rw (same, desk) at rule)
