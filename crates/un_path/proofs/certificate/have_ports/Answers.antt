use Rattle.std.proofs.Common.{◌≡◌, ℕ, pos, true, not, List, get_or, sym, ap, ◌∙◌, true≢false}
use Rattle.std.proofs.Math.ListN.{get_or-map}
use Rattle.un_defs.specs.declared.port.Port.{Port}
use Rattle.un_defs.specs.declared.port.Node.{Node}
use Rattle.un_defs.specs.Orders.{same_port}
use Rattle.un_defs.proofs.Unique.{port_itself}
use Rattle.un_ask.specs.declared.results.Label.{Label}
use Rattle.un_path.proofs.certificate.have_ports.Goals as goal

abbrev no_port : Port
no_port = record { feature = 0; number = 0 }

abbrev no_label : Label
no_label = record { port = no_port; cost = 0 }

abbrev no_node : Node
no_node = record { port = no_port; at = record { x = pos 0; y = pos 0; z = pos 0 } }

pub returns-then-ne : goal.returns-then-ne
returns-then-ne c = λ same.
    let labels : List Label = c.args.labels.now in
    let nodes : List Node = c.args.nodes.now in
    let i : ℕ = c.loop-i.i in
    let one : Port = (get_or labels i no_label).port in
    let other : Port = (get_or nodes i no_node).port in
    let differ : not (same_port one other) ≡ true = sym c.ne.ensures ∙ c.if-ne.true in
    let alike : one ≡ other = sym (get_or-map (λ (l : Label). l.port) labels i no_label) ∙ ap (λ ports. get_or ports i no_port) same ∙ get_or-map (λ (n : Node). n.port) nodes i no_node in
    absurd (true≢false (sym differ ∙ ap not (ap (same_port one) (sym alike) ∙ port_itself one)))
