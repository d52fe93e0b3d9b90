use Rattle.std.proofs.Common.{◌++◌, ◌∷◌, [], sym, ap, ◌∙◌}
use Rattle.un_defs.specs.declared.port.Port.{Port}
use Rattle.un_resolve.proofs.Checking.{one_port_more, no_port_more}
use Rattle.un_resolve.proofs.starts.nodes_of.Goals as goal
use Rattle.un_resolve.proofs.starts.nodes_of.Goals.{in-Some+in_ok-push, in_default}

pub loop-port-preserved : goal.loop-port-preserved
loop-port-preserved g c =
    let F = g.D.Directory.features c.args.features.now in
    let ports = c.args.ports.now in
    let k = c.loop-port.port-index in
    let d : Port = record { feature = 0; number = 0 } in
    let l = c.loop-port-test.true in
    elim c.match-start_node.branch [
      | in-Some+in_ok-push w ↦ ap (λ v. v.items) w.nodes-is ∙ w.in_ok-push.ensures.items ∙ ap (λ nodes. nodes ++ w.in-Some.node ∷ []) c.loop-port.invariant
          ∙ one_port_more F ports k d w.in-Some.node l (sym c.start_node.ensures ∙ w.in-Some.is)
      | in_default w ↦ ap (λ v. v.items) w.nodes-is ∙ c.loop-port.invariant ∙ no_port_more F ports k d l (sym c.start_node.ensures ∙ w.in_default.is)
    ]
