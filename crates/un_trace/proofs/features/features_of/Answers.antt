use Rattle.std.proofs.Common.{List, [], ◌∷◌, ◌++◌, map, take, take_all, sym, ap, subst, ◌∙◌, arith, IsSorted}
use Rattle.std.specs.Ordering.{nat_cmp}
use Rattle.std.specs.List.{cons_option}
use Rattle.un_walk.specs.declared.seen.Seen.{Seen}
use Rattle.un_trace.proofs.Rise.{feature_of, number_of, rise_from}
use Rattle.un_trace.proofs.SeenParts.{seen_parts, seen_firsts, parts_are, firsts_are, parts_more, firsts_more, read_part, read_first}
use Rattle.un_trace.proofs.Turn.{turn, counted}
use Rattle.un_trace.proofs.features.features_of.Goals as goal

pub add-requires : goal.add-requires
add-requires c =
    let seen : List Seen = c.args.seen.now in
    let t = turn feature_of number_of seen c.loop-begin.begin c.run_len.result c.index-seen-begin.result (rise_from seen c.requires) c.loop-begin-test.true c.index-seen-begin.is (counted feature_of number_of seen c.loop-begin.begin c.run_len.result c.index-seen-begin.result c.index-seen-begin.is c.run_len.ensures) in
    subst (λ l. IsSorted nat_cmp (map number_of l)) (sym t.is_run) t.sorted

pub loop-begin-preserved : goal.loop-begin-preserved
loop-begin-preserved c =
    let seen : List Seen = c.args.seen.now in
    let k = c.loop-begin.begin in
    let s : Seen = c.index-seen-begin.result in
    let t = turn feature_of number_of seen k c.run_len.result s (rise_from seen c.requires) c.loop-begin-test.true c.index-seen-begin.is (counted feature_of number_of seen c.loop-begin.begin c.run_len.result c.index-seen-begin.result c.index-seen-begin.is c.run_len.ensures) in
    let more = t.after c.loop-begin.invariant.apart in
    record {
      within = t.within;
      apart = t.later c.loop-begin.invariant.apart;
      parts = c.in_ok-add.ensures.parts
          ∙ (λ i. c.loop-begin.invariant.parts i ++ read_part (feature_of (sym c.index-seen-begin.is i)) (t.is_run i) ∷ [])
          ∙ sym (parts_more (take k seen) t.run (feature_of s) more)
          ∙ ap seen_parts (sym t.so_far);
      firsts = c.in_ok-add.ensures.firsts
          ∙ (λ i. c.loop-begin.invariant.firsts i ++ cons_option (read_first (t.is_run i)) [])
          ∙ sym (firsts_more (take k seen) t.run (feature_of s) more)
          ∙ ap seen_firsts (sym t.so_far);
    }

pub loop-begin-smaller : goal.loop-begin-smaller
loop-begin-smaller c =
    let seen : List Seen = c.args.seen.now in
    let t = turn feature_of number_of seen c.loop-begin.begin c.run_len.result c.index-seen-begin.result (rise_from seen c.requires) c.loop-begin-test.true c.index-seen-begin.is (counted feature_of number_of seen c.loop-begin.begin c.run_len.result c.index-seen-begin.result c.index-seen-begin.is c.run_len.ensures) in
    omega (arith, t.some, t.within)

pub returns-clause-parts : goal.returns-clause-parts
returns-clause-parts c =
    c.loop-begin.invariant.parts ∙ ap seen_parts (take_all c.loop-begin.begin c.args.seen.now c.loop-begin-test.false) ∙ sym (parts_are c.args.seen.now)

pub returns-clause-firsts : goal.returns-clause-firsts
returns-clause-firsts c =
    c.loop-begin.invariant.firsts ∙ ap seen_firsts (take_all c.loop-begin.begin c.args.seen.now c.loop-begin-test.false) ∙ sym (firsts_are c.args.seen.now)
