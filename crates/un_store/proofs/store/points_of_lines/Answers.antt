use Rattle.std.proofs.Common.{◌++◌, All, sym, ap, subst, ◌∙◌}
use Rattle.std.proofs.lemmas.List.Elements.{All-append, All-nil}
use Rattle.std.specs.Map.{values_of}
use Rattle.un_defs.specs.declared.row.Row.{Row}
use Rattle.un_geom.specs.Places.{IsPlace, IsShape}
use Rattle.un_store.specs.Keyed.{is_line_of, line_points}
use Rattle.un_store.proofs.Lines.{from_all, line_next}
use Rattle.un_store.proofs.store.points_of_lines.Goals as goal

pub loop-row-init : goal.loop-row-init
loop-row-init c = (
  ap (λ l. l ++ line_points c.args.kind (values_of c.into_iter-row-iterator.result)) c.new-points.ensures.items
      ∙ ap (λ pairs. line_points c.args.kind (values_of pairs))
      (c.into_iter-row-iterator.ensures.into_iter_gives ∙ c.range-row-items.ensures.pairs ∙ from_all c.args.rows.now),
  subst (All IsPlace) (sym c.new-points.ensures.items) (All-nil IsPlace),
)

pub loop-row-preserved-in-Continue-1 : goal.loop-row-preserved-in-Continue-1
loop-row-preserved-in-Continue-1 c =
    let row = c.in-Some.row.now.value in
    let added = c.in_ok-extend_from_slice.ensures.items ∙ ap (λ ps. c.loop-row.points.items ++ ps) (c.points.ensures.points ∙ ap (λ r. r.shape) c.deref-then-is_line_of.ensures) in (
      ap (λ l. l ++ line_points c.args.kind (values_of c.next.new.self)) added
          ∙ line_next c.args.kind c.loop-row.points.items _ c.loop-row.row-iterator c.next.new.self (c.in-Some.field-0-0, row) c.in-Some.ensures.steps
          (sym (c.is_line_of.ensures ∙ ap (is_line_of c.args.kind) c.deref.ensures) ∙ c.if-is_line_of.true) c.loop-row.invariant.0,
      subst (All IsPlace) (sym added) (All-append IsPlace c.loop-row.points.items row.shape c.loop-row.invariant.1 (subst (λ (r : Row). IsShape r.shape) c.deref-then-is_line_of.ensures c.points.ensures.shape).placed),
    )
