use Rattle.std.proofs.Common.{◌≡◌, ◌++◌, ◌∙◌, filter_map, option_to_list, ap, arith}
use Rattle.std.specs.List.{range_with_len}
use Rattle.un_defs.specs.Ports.{node_of}
use Rattle.un_defs.proofs.Numbered.{one_more}
use Rattle.un_defs.proofs.row.Row.nodes.Goals as goal

pub loop-place-init : goal.loop-place-init
loop-place-init c = c.new-nodes.ensures.items

pub loop-place-preserved : goal.loop-place-preserved
loop-place-preserved c =
    c.in_ok-add.ensures
    ∙ (λ i. c.loop-place.invariant i ++ option_to_list (c.node.ensures i))
    ∙ one_more (node_of c.args.self.now) c.first_number-first.result c.loop-place.place

pub returns : goal.returns
returns c =
    let end : c.loop-place.place ≡ c.port_count-place-end.result = omega (arith, c.loop-place-test.false, c.loop-place.auto.place-end) in
    c.loop-place.invariant
    ∙ ap (filter_map (node_of c.args.self.now)) ((λ i. range_with_len (c.first_number-first.ensures i) (end i)) ∙ c.port_count-place-end.ensures)
