-- A node of a row isolates over all features exactly where the row does.
use Rattle.std.proofs.Common.{◌≡◌, false, find, sym, ap, ◌∙◌}
use Rattle.std.specs.Option.{option_map_or}
use Rattle.un_defs.specs.Ground.{entry, fresh_ground}
use Rattle.un_defs.specs.Orders.{same_port}
use Rattle.un_defs.specs.Ports.{nodes}
use Rattle.un_defs.proofs.LinkCases.{some_same}
use Rattle.un_defs.proofs.Members.{among_from_contains}
use Rattle.un_defs.proofs.Standing.{entry_of, from_entry}
use Rattle.un_isolate.specs.Isolation.{isolates, row_isolates}
use Rattle.un_isolate.specs.Laws.{IsolatingRowsLaw, ClearStartsLaw}

pub isolating_rows : IsolatingRowsLaw
isolating_rows S F areas B isolators starts sound n h r e =
    let s = entry_of S F sound areas n (among_from_contains (nodes F) n h) in
    let is = from_entry S F areas n s.0 s.1 in
    let rows : is.row ≡ r = some_same is.row r (sym is.found ∙ e) in
    ap (λ o. option_map_or (isolates isolators) o false) s.1
    ∙ ap (isolates isolators) is.is
    ∙ ap (row_isolates S isolators) rows

pub clear_starts : ClearStartsLaw
clear_starts S F G B isolators starts sound covered standing clean rows n h =
    let same : entry G n ≡ entry (fresh_ground S F G.areas) n = ap (λ star. find (λ s. same_port s.port n.port) star.spots) (covered n.at (clean n h)) in
    let s = entry_of S F sound G.areas n (among_from_contains (nodes F) n (standing n h)) in
    let is = from_entry S F G.areas n s.0 s.1 in
    ap (λ o. option_map_or (isolates isolators) o false) (same ∙ s.1)
    ∙ ap (isolates isolators) is.is
    ∙ rows n h is.row is.found
