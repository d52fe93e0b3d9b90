use Rattle.std.proofs.Common.{[], Some, None, sym, ap, ◌∙◌}
use Rattle.std.proofs.lemmas.List.{append-nil}
use Rattle.un_defs.specs.declared.port.Port.{Port}
use Rattle.un_defs.specs.Links.{node_at}
use Rattle.un_subnet.proofs.Growing.{one_gathered}
use Rattle.un_subnet.proofs.ask.nodes_at.Goals as goal
use Rattle.un_subnet.proofs.ask.nodes_at.Goals.{in-Some+in_ok-push, in_default}

pub loop-port-preserved : goal.loop-port-preserved
loop-port-preserved g c =
    let F = g.D.Directory.features c.args.features.now in
    let ports = c.args.ports.now in
    let k = c.loop-port.port-index in
    let d : Port = record { feature = 0; number = 0 } in
    let gathered = one_gathered (node_at F) ports k d c.loop-port.nodes.items [] in
    elim c.match-node_at.branch [
      | in-Some+in_ok-push w ↦
          ap (λ v. v.items) w.nodes-is ∙ w.in_ok-push.ensures.items
          ∙ gathered (Some w.in-Some.node) c.loop-port-test.true c.loop-port.invariant (sym c.node_at.ensures ∙ w.in-Some.is)
      | in_default w ↦
          ap (λ v. v.items) w.nodes-is ∙ sym (append-nil c.loop-port.nodes.items)
          ∙ gathered None c.loop-port-test.true c.loop-port.invariant (sym c.node_at.ensures ∙ w.in_default.is)
    ]
