use Rattle.std.proofs.Common.{◌<◌, length, map, refl, sym, ap, subst, arith}
use Rattle.std.proofs.lemmas.Option.{slice_get_within}
use Rattle.un_walk.specs.Visits.{place_of, port_of, IsMarkedAt}
use Rattle.un_walk.proofs.Visiting.{seen_within, kept_set, put_new, put_old}
use Rattle.un_walk.proofs.visits.Visits.put_mark.Goals as goal
use Rattle.un_walk.proofs.visits.Visits.put_mark.Goals.{then-old-eq0, else-old-eq0}

pub invariant_of-self : goal.invariant_of-self
invariant_of-self c = kept_set c.self.inside.visits.items c.self.inside.marks.items _ _ c.index_mut.result.now c.self.invariant (ap port_of c.index_mut.ensures.value)

pub returns-clause-new : goal.returns-clause-new
returns-clause-new c = λ off.
    let vs = c.self.inside.visits.items in
    let ms = c.self.inside.marks.items in
    let inside : c.args.number < length vs = seen_within vs (map place_of ms) c.args.self.now c.args.number c.self.view_is (slice_get_within c.args.self.now c.args.number (c.requires.0) (c.requires.1)) in
    elim c.if-old-eq0.branch [
      | then-old-eq0 w ↦ subst (λ new. IsMarkedAt c.args.self.now new c.args.number c.args.place c.args.mark) (sym w.self-is)
          (put_new vs ms c.args.self.now c.args.number c.args.place c.index.result.now c.self.view_is c.self.invariant inside c.index.ensures c.requires c.args.mark c.index-2.result.now _ c.index-2.ensures off refl)
      | else-old-eq0 w ↦ absurd (omega (arith, off, w.if-old-eq0.false))
    ]

pub returns-clause-old : goal.returns-clause-old
returns-clause-old c = λ on.
    let vs = c.self.inside.visits.items in
    let ms = c.self.inside.marks.items in
    let inside : c.args.number < length vs = seen_within vs (map place_of ms) c.args.self.now c.args.number c.self.view_is (slice_get_within c.args.self.now c.args.number (c.requires.0) (c.requires.1)) in
    let was = put_old vs ms c.args.self.now c.args.number c.args.place c.index.result.now c.self.view_is c.self.invariant inside c.index.ensures c.requires c.index-2.result.now c.index-2.ensures in
    elim c.if-old-eq0.branch [
      | then-old-eq0 w ↦ absurd (omega (arith, on, w.if-old-eq0.true))
      | else-old-eq0 w ↦ (w.self-is, was)
    ]
