use Rattle.std.proofs.Common.{◌∙◌, sym, ap, refl, arith, length}
use Rattle.un_pages.specs.Pairs.{pair_held}
use Rattle.un_points.specs.PointMaps.{covered}
use Rattle.un_points.proofs.Covering.{run_on, ranged, covered_here, covered_later, covered_no_more, sought_covered, sought_fewer}
use Rattle.un_points.proofs.walk.next_covered.Goals as goal

pub loop-point-init : goal.loop-point-init
loop-point-init g c = record { run = c.requires; same = refl }

pub returns-then-covers-clause-run : goal.returns-then-covers-clause-run
returns-then-covers-clause-run g c = run_on c.args.pairs.now c.loop-point.rest c.next.new.self c.loop-point.passed (pair_held (c.in-Some.point, c.in-Some.value)) c.loop-point.invariant.run c.in-Some.ensures.steps

pub returns-then-covers-clause-taken : goal.returns-then-covers-clause-taken
returns-then-covers-clause-taken g c =
    sym c.loop-point.invariant.same ∙ covered_here c.args.extent.now c.loop-point.rest c.next.new.self (pair_held (c.in-Some.point, c.in-Some.value)) c.in-Some.ensures.steps (sym c.covers.ensures ∙ c.if-covers.true)

pub returns-then-is_beyond-clause-run : goal.returns-then-is_beyond-clause-run
returns-then-is_beyond-clause-run g c = run_on c.args.pairs.now c.loop-point.rest c.next.new.self c.loop-point.passed (pair_held (c.in-Some.point, c.in-Some.value)) c.loop-point.invariant.run c.in-Some.ensures.steps

pub returns-then-is_beyond-clause-taken : goal.returns-then-is_beyond-clause-taken
returns-then-is_beyond-clause-taken g c =
    let run = run_on c.args.pairs.now c.loop-point.rest c.next.new.self c.loop-point.passed (pair_held (c.in-Some.point, c.in-Some.value)) c.loop-point.invariant.run c.in-Some.ensures.steps in
    let none = covered_no_more c.args.extent.now c.args.pairs.now c.next.new.self c.in-Some.point run (λ q h. c.is_beyond.ensures.all q c.if-is_beyond.true h) in
    let same = covered_later c.args.extent.now c.loop-point.rest c.next.new.self (pair_held (c.in-Some.point, c.in-Some.value)) c.in-Some.ensures.steps (sym c.covers.ensures ∙ c.if-covers.false) in
    (sym c.loop-point.invariant.same ∙ sym same ∙ none, none)

pub loop-point-preserved-then-misses-lt-MOST_MISSES : goal.loop-point-preserved-then-misses-lt-MOST_MISSES
loop-point-preserved-then-misses-lt-MOST_MISSES g c = record {
  run = run_on c.args.pairs.now c.loop-point.rest c.next.new.self c.loop-point.passed (pair_held (c.in-Some.point, c.in-Some.value)) c.loop-point.invariant.run c.in-Some.ensures.steps;
  same = covered_later c.args.extent.now c.loop-point.rest c.next.new.self (pair_held (c.in-Some.point, c.in-Some.value)) c.in-Some.ensures.steps (sym c.covers.ensures ∙ c.if-covers.false) ∙ c.loop-point.invariant.same;
}

pub loop-point-smaller : goal.loop-point-smaller
loop-point-smaller g c =
    let run = run_on c.args.pairs.now c.loop-point.rest c.next.new.self c.loop-point.passed (pair_held (c.in-Some.point, c.in-Some.value)) c.loop-point.invariant.run c.in-Some.ensures.steps in
    let fewer = sought_fewer c.args.pairs.now c.next.new.self c.in-Some.point c.skip-last.result run c.skip-last.ensures.later in
    omega (arith, fewer, ap length c.in-Some.ensures.steps, ap length (ranged c.skip-last.result c.args.pairs.now c.range.result c.range.ensures.pairs))

pub loop-point-preserved : goal.loop-point-preserved
loop-point-preserved g c =
    let run = run_on c.args.pairs.now c.loop-point.rest c.next.new.self c.loop-point.passed (pair_held (c.in-Some.point, c.in-Some.value)) c.loop-point.invariant.run c.in-Some.ensures.steps in
    let rest = ranged c.skip-last.result c.args.pairs.now c.range.result c.range.ensures.pairs in
    let later = covered_later c.args.extent.now c.loop-point.rest c.next.new.self (pair_held (c.in-Some.point, c.in-Some.value)) c.in-Some.ensures.steps (sym c.covers.ensures ∙ c.if-covers.false) in
    record {
      run = record { ordered = c.loop-point.invariant.run.ordered; rest_is = rest };
      same = ap (covered c.args.extent.now) rest ∙ sought_covered c.args.pairs.now c.next.new.self c.in-Some.point c.skip-last.result run c.args.extent.now c.skip-last.ensures.same ∙ later ∙ c.loop-point.invariant.same;
    }

pub returns-clause-run : goal.returns-clause-run
returns-clause-run g c = record {
  ordered = c.loop-point.invariant.run.ordered;
  rest_is = c.in_default.ensures.steps.1 ∙ sym c.in_default.ensures.steps.0 ∙ c.loop-point.invariant.run.rest_is;
}

pub returns-clause-taken : goal.returns-clause-taken
returns-clause-taken g c =
    (sym c.loop-point.invariant.same ∙ ap (covered c.args.extent.now) c.in_default.ensures.steps.0, ap (covered c.args.extent.now) c.in_default.ensures.steps.1)
