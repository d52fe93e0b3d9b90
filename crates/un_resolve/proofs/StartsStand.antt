-- Each node at which a trace starts is one of the features.
use Rattle.std.proofs.Common.{◌≡◌, ℕ, ◌==◌, Bool, true, false, Option, Some, None, refl, subst, eqb-true}
use Rattle.std.specs.Prelude.{Contains, option_and_then, if◌then◌else◌}
use Rattle.un_defs.specs.declared.port.Port.{Port}
use Rattle.un_defs.specs.declared.port.Node.{Node}
use Rattle.un_defs.specs.declared.row.Row.{Row}
use Rattle.un_defs.specs.Features.{Features, row}
use Rattle.un_defs.specs.Ports.{node_of, has_port, port_node, port_numbers_of, nodes_of as nodes_of_row, nodes}
use Rattle.un_defs.proofs.Rising.{Among}
use Rattle.un_defs.proofs.Members.{contains_from_among, among_from_contains, among_from-filter_map, among-filter_map, among-flat_map, among_from_list_any}
use Rattle.un_defs.proofs.Unique.{from_find}
use Rattle.un_tiers.specs.declared.setup.Setup.{Setup}
use Rattle.un_ask.specs.declared.trace.TraceAsk.{TraceAsk}
use Rattle.un_resolve.specs.Starts.{start_node, start_ports, start_nodes}

none_some : {A : Type 0} {x : A} → None ≡ Some x → ⊥
none_some e = cc

-- a port of a row that has a node is one of the row's nodes
of_row : (r : Row) (number : ℕ) (n : Node) → port_node r number ≡ Some n → Among (nodes_of_row r) n
of_row r number n e = go (has_port r number) refl e
  where
    go : (b : Bool) → has_port r number ≡ b → (if b then node_of r number else None) ≡ Some n → Among (nodes_of_row r) n
    go true has e =
        let k = among_from_list_any (λ k. k == number) (port_numbers_of r) has in
        among-filter_map (node_of r) (port_numbers_of r) number n (subst (Among (port_numbers_of r)) (eqb-true k.0 number k.2) k.1) e
    go false has e = absurd (none_some e)

pub node_stands : (F : Features) (q : Port) (n : Node) → start_node F q ≡ Some n → Among (nodes F) n
node_stands F q n e = go (row F q.feature) refl e
  where
    go : (o : Option Row) → row F q.feature ≡ o → option_and_then (λ r. port_node r q.number) o ≡ Some n → Among (nodes F) n
    go None found e = absurd (none_some e)
    go (Some r) found e = among-flat_map nodes_of_row F.rows r n (from_find (λ r. r.id == q.feature) F.rows r found).0 (of_row r q.number n e)

pub starts_stand : (S : Setup) (F : Features) (ask : TraceAsk) (n : Node) → Contains (start_nodes S F ask) n → Contains (nodes F) n
starts_stand S F ask n h =
    let q = among_from-filter_map (start_node F) (start_ports S F ask) n (among_from_contains (start_nodes S F ask) n h) in
    contains_from_among (nodes F) n (node_stands F q.0 n q.2)
