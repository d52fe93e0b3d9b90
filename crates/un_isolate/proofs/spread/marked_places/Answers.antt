use Rattle.std.proofs.Common.{◌+◌, ℕ, Bool, List, refl, sym, subst, Vec, Global}
use Rattle.un_isolate.proofs.Finding.{AreMarkedBelow, marked_with, marked_without, marked_all}
use Rattle.un_isolate.proofs.spread.marked_places.Goals as goal
use Rattle.un_isolate.proofs.spread.marked_places.Goals.{then-marks-place+in_ok-push, else-marks-place}

pub loop-place-preserved : goal.loop-place-preserved
loop-place-preserved c =
    let marks : List Bool = c.args.marks.now in
    let k = c.loop-place.place in
    elim c.if-marks-place.branch [
      | then-marks-place+in_ok-push w ↦
          subst (λ (v : Vec ℕ Global). AreMarkedBelow marks (k + 1) v.items) (sym w.places-is)
          (subst (AreMarkedBelow marks (k + 1)) (sym w.in_ok-push.ensures.items) (marked_with marks c.loop-place.places.items k (k + 1) refl w.if-marks-place.true c.loop-place.invariant))
      | else-marks-place w ↦
          subst (λ (v : Vec ℕ Global). AreMarkedBelow marks (k + 1) v.items) (sym w.places-is)
          (marked_without marks c.loop-place.places.items k (k + 1) refl w.if-marks-place.false c.loop-place.invariant)
    ]

pub returns : goal.returns
returns c = marked_all c.args.marks.now c.loop-place.places.items c.loop-place.place c.loop-place-test.false c.loop-place.invariant
