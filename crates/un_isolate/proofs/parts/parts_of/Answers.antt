use Rattle.std.proofs.Common.{pos, List, [], ◌∷◌, ◌++◌, map, get_or, take, take_all, sym, ap, subst, ◌∙◌, arith, IsSorted}
use Rattle.std.specs.Ordering.{nat_cmp}
use Rattle.un_defs.specs.declared.port.Node.{Node}
use Rattle.un_isolate.proofs.Rise.{feature_of, number_of, rise_from}
use Rattle.un_isolate.proofs.FeatureParts.{read_parts, read_part, as_part, parts_are, parts_more}
use Rattle.un_isolate.proofs.Turn.{turn, counted, read_again}
use Rattle.un_isolate.proofs.parts.parts_of.Goals as goal

-- what a read past the end would give
abbrev no_node : Node
no_node = record { port = record { feature = 0; number = 0 }; at = record { x = pos 0; y = pos 0; z = pos 0 } }

pub numbers_of-requires : goal.numbers_of-requires
numbers_of-requires c =
    let nodes : List Node = c.args.nodes.now in
    let k = c.loop-begin.begin in
    let s : Node = get_or nodes k no_node in
    let t = turn nodes k c.run_len.result s (rise_from nodes c.requires) c.loop-begin-test.true (read_again nodes k no_node c.loop-begin-test.true) (counted nodes k c.run_len.result s c.run_len.ensures) in
    subst (λ l. IsSorted nat_cmp (map number_of l)) (sym t.is_run) t.sorted

pub loop-begin-preserved : goal.loop-begin-preserved
loop-begin-preserved c =
    let nodes : List Node = c.args.nodes.now in
    let k = c.loop-begin.begin in
    let s : Node = get_or nodes k no_node in
    let t = turn nodes k c.run_len.result s (rise_from nodes c.requires) c.loop-begin-test.true (read_again nodes k no_node c.loop-begin-test.true) (counted nodes k c.run_len.result s c.run_len.ensures) in
    record {
      within = t.within;
      apart = t.later c.loop-begin.invariant.apart;
      parts = c.in_ok-push.ensures.items
          ∙ (λ i. c.loop-begin.invariant.parts i ++ as_part (feature_of s) (c.in_ok-numbers.ensures i) ∷ [])
          ∙ ap (λ run. read_parts (take k nodes) ++ read_part (feature_of s) run ∷ []) t.is_run
          ∙ sym (parts_more (take k nodes) t.run (feature_of s) (t.after c.loop-begin.invariant.apart))
          ∙ ap read_parts (sym t.so_far);
    }

pub loop-begin-smaller : goal.loop-begin-smaller
loop-begin-smaller c =
    let nodes : List Node = c.args.nodes.now in
    let k = c.loop-begin.begin in
    let s : Node = get_or nodes k no_node in
    let t = turn nodes k c.run_len.result s (rise_from nodes c.requires) c.loop-begin-test.true (read_again nodes k no_node c.loop-begin-test.true) (counted nodes k c.run_len.result s c.run_len.ensures) in
    omega (arith, t.some, t.within)

pub returns : goal.returns
returns c =
    c.loop-begin.invariant.parts ∙ ap read_parts (take_all c.loop-begin.begin c.args.nodes.now c.loop-begin-test.false) ∙ sym (parts_are c.args.nodes.now)
