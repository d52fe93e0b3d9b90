use Rattle.std.proofs.Common.{◌∙◌, ap, sym}
use Rattle.std.specs.Arc.{arc_value}
use Rattle.std.specs.Map.{remove_entry}
use Rattle.std.specs.BTreeMap.{is_at, insert_entry}
use Rattle.un_geom.specs.Places.{point_cmp}
use Rattle.un_index.specs.Kept.{is_empty_star}
use Rattle.un_index.proofs.Stars.{stars_put, stars_cut, kept_after}
use Rattle.un_index.proofs.index.put_star.Goals as goal

pub returns-then-is_empty-clause-kept : goal.returns-then-is_empty-clause-kept
returns-then-is_empty-clause-kept c =
    kept_after c.take.result c.args.stars.now c.take.new.self (remove_entry (is_at (point_cmp c.args.p)) c.args.stars.now) c.requires
    (stars_cut c.args.stars.now c.args.p c.requires) c.take.ensures.list c.take.ensures.err

pub returns-clause-kept : goal.returns-clause-kept
returns-clause-kept c =
    kept_after c.put.result c.args.stars.now c.put.new.self (insert_entry point_cmp c.args.stars.now c.args.p (arc_value c.args.star)) c.requires
    (stars_put c.args.stars.now c.args.p (arc_value c.args.star) c.requires (ap is_empty_star (sym c.deref.ensures) ∙ sym c.is_empty.ensures ∙ c.if-is_empty.false))
    c.put.ensures.list c.put.ensures.err
