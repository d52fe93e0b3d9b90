use Rattle.std.proofs.Common.{◌≡◌, Bool, true, false, ◌==◌, ◌&&◌, ◌||◌, not, map, take, get_or, pos, ◌∙◌, refl, ap}
use Rattle.std.specs.List.{list_any}
use Rattle.un_geom.specs.declared.point.Point.{Point}
use Rattle.un_subnet.specs.declared.row_index.Subject.TheVariants.{At}
use Rattle.un_subnet.specs.RowIndex.{has_key, same_subject, subnet_subject}
use Rattle.un_subnet.proofs.Points.{point_more}
use Rattle.un_subnet.proofs.row_index.take_keys.Goals as goal

less : (t n a s h : Bool) → (not (t && n) && (not (n && a) && not (n && s) && h)) ≡ (not (n && (a || t)) && not (n && s) && h)
less true true true s h = refl
less true true false s h = refl
less true false a s h = refl
less false true true s h = refl
less false true false s h = refl
less false false a s h = refl

pub loop-point-preserved : goal.loop-point-preserved
loop-point-preserved c = λ q.
    let points = c.as_slice-point-items.result.now in
    let i = c.loop-point.point-index in
    let p : Point = record { x = pos 0; y = pos 0; z = pos 0 } in
    let t = same_subject q.subject (At (get_or points i p)) in
    let n = q.number == c.args.number in
    let s = same_subject q.subject (subnet_subject c.args.row.now.tier c.args.row.now.subnet) in
    c.in_ok-take_key-2.ensures q ∙ ap (λ b. not (t && n) && b) (c.loop-point.invariant q)
    ∙ less t n (list_any (same_subject q.subject) (map At (take i points))) s (has_key q c.args.keys.now)
    ∙ ap (λ b. not (n && b) && not (n && s) && has_key q c.args.keys.now) (point_more q.subject points i p c.loop-point-test.true)
