use Rattle.std.proofs.Common.{ℕ, List, [], ◌∷◌, ◌++◌, map, take, take_all, get_or, sym, ap, subst, ◌∙◌, arith, IsSorted}
use Rattle.std.specs.Ordering.{nat_cmp}
use Rattle.un_trace.specs.Ports.{key_feature, key_number, part_with, parts_by}
use Rattle.un_trace.proofs.PartsBy.{parts_by_more}
use Rattle.un_trace.proofs.PortKeys.{key_turn}
use Rattle.un_trace.proofs.ports.parts_of.Goals as goal

pub numbers_of-requires : goal.numbers_of-requires
numbers_of-requires c =
    let t = key_turn c.args.keys.now c.loop-begin.begin c.run_len.result c.requires c.loop-begin-test.true c.run_len.ensures in
    subst (λ l. IsSorted nat_cmp (map key_number l)) (sym t.is_run) t.sorted

pub loop-begin-preserved : goal.loop-begin-preserved
loop-begin-preserved c =
    let keys : List ℕ = c.args.keys.now in
    let k = c.loop-begin.begin in
    let t = key_turn keys k c.run_len.result c.requires c.loop-begin-test.true c.run_len.ensures in
    record {
      within = t.within;
      apart = t.later c.loop-begin.invariant.apart;
      parts = c.in_ok-push.ensures.items
          ∙ (λ i. c.loop-begin.invariant.parts i ++ record { feature = key_feature (get_or keys k 0); numbers = c.in_ok-numbers.ensures i } ∷ [])
          ∙ ap (λ run. parts_by key_feature key_number (take k keys) ++ part_with (key_feature (get_or keys k 0)) (map key_number run) ∷ []) t.is_run
          ∙ sym (parts_by_more key_feature key_number (take k keys) t.run (key_feature (get_or keys k 0)) (t.after c.loop-begin.invariant.apart))
          ∙ ap (parts_by key_feature key_number) (sym t.so_far);
    }

pub loop-begin-smaller : goal.loop-begin-smaller
loop-begin-smaller c =
    let t = key_turn c.args.keys.now c.loop-begin.begin c.run_len.result c.requires c.loop-begin-test.true c.run_len.ensures in
    omega (arith, t.some, t.within)

pub returns : goal.returns
returns c =
    c.loop-begin.invariant.parts ∙ ap (parts_by key_feature key_number) (take_all c.loop-begin.begin c.args.keys.now c.loop-begin-test.false)
