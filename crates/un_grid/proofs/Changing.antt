-- The grid of the features with a row taken out, and with a row changed.
use Rattle.std.proofs.Common.{◌≡◌, ◌==◌, ℕ, Bool, true, false, not, List, [], ◌∷◌, ◌++◌, map, filter, flat_map, refl, sym, ap, subst, ◌∙◌, inl, inr, eqb-true, eq-eqb, if◌then◌else◌}
use Rattle.std.specs.List.{list_any}
use Rattle.std.proofs.lemmas.List.Kept.{IsStrictlySortedBy-filter}
use Rattle.un_geom.specs.Places.{same_point}
use Rattle.un_defs.specs.declared.port.Port.{Port}
use Rattle.un_defs.specs.declared.row.Row.{Row}
use Rattle.un_defs.specs.Orders.{rising, port_cmp, same_port}
use Rattle.un_defs.specs.Ports.{nodes_of, nodes, ports, standing_at}
use Rattle.un_defs.specs.Change.{change_row}
use Rattle.un_defs.proofs.Rising.{Among, sorted-rising, rising_unique}
use Rattle.un_defs.proofs.Members.{among_left, among_right, among_cases, among_from-filter, among-filter, among_from-map, among-map}
use Rattle.un_defs.proofs.OrderLaws.{port_total}
use Rattle.un_defs.proofs.Unique.{unique_by, from_find}
use Rattle.un_grid.specs.Grids.{standing, without_ports, without_row, RemoveLaw, ReplaceLaw, StayLaw}
use Rattle.un_grid.proofs.Inserting.{same}
use Rattle.un_grid.proofs.Rows.{Owned, owned, ties, stands_there, stands_of, not_true, from_rest, to_rest}

-- ---- a row is taken out

pub removed : RemoveLaw
removed old new F r apart e is lacks p =
    lacks p
    ∙ ap (λ l. without_ports l (standing (nodes_of r) p)) (is p)
    ∙ rising_unique port_total (standing (nodes (without_row F r.id)) p) (without_ports (ports F p) (standing (nodes_of r) p)) (ties (standing (nodes (without_row F r.id)) p))
    (IsStrictlySortedBy-filter port_cmp (λ q. not (list_any (same_port q) (standing (nodes_of r) p))) (ports F p) (sorted-rising port_total (standing (nodes F) p)))
    to from
  where
    lives : Among F.rows r
    lives = (from_find (λ s. s.id == r.id) F.rows r e).0

    to : (q : Port) → Among (without_ports (ports F p) (standing (nodes_of r) p)) q → Among (standing (nodes (without_row F r.id)) p) q
    to q h =
        let rest = from_rest F r lives apart p q h in
        stands_there (filter (λ s. not (s.id == r.id)) F.rows) p q (record {
          node = rest.0.node;
          row = rest.0.row;
          lives = among-filter (λ s. not (s.id == r.id)) F.rows rest.0.row rest.0.lives (ap not rest.1);
          own = rest.0.own;
          here = rest.0.here;
          is = rest.0.is;
        })

    from : (q : Port) → Among (standing (nodes (without_row F r.id)) p) q → Among (without_ports (ports F p) (standing (nodes_of r) p)) q
    from q h =
        let o = owned (filter (λ s. not (s.id == r.id)) F.rows) p q h in
        let k = among_from-filter (λ s. not (s.id == r.id)) F.rows o.row o.lives in
        to_rest F r lives apart p q (record { node = o.node; row = o.row; lives = k.0; own = o.own; here = o.here; is = o.is }) (not_true k.1)

-- ---- a row is changed

pub replaced : ReplaceLaw
replaced old new F r change apart e keeps is has p =
    has p
    ∙ ap (λ l. rising port_cmp (without_ports l (standing (nodes_of r) p) ++ standing (nodes_of (change r)) p)) (is p)
    ∙ same (without_ports (ports F p) (standing (nodes_of r) p) ++ standing (nodes_of (change r)) p) (standing (nodes (change_row F r.id change)) p) to from
  where
    lives : Among F.rows r
    lives = (from_find (λ s. s.id == r.id) F.rows r e).0

    changed : Row → Row
    changed s = if s.id == r.id then change s else s

    to : (q : Port) → Among (without_ports (ports F p) (standing (nodes_of r) p) ++ standing (nodes_of (change r)) p) q → Among (standing (nodes (change_row F r.id change)) p) q
    to q h = elim (among_cases (without_ports (ports F p) (standing (nodes_of r) p)) (standing (nodes_of (change r)) p) q h) [ inl i ↦ other i | inr i ↦ own i ]
      where
        other : Among (without_ports (ports F p) (standing (nodes_of r) p)) q → Among (standing (nodes (change_row F r.id change)) p) q
        other i =
            let rest = from_rest F r lives apart p q i in
            stands_there (map (λ s. if s.id == r.id then change s else s) F.rows) p q (record {
              node = rest.0.node;
              row = rest.0.row;
              lives = subst (Among (map (λ s. if s.id == r.id then change s else s) F.rows)) (ap (λ b. if b then change rest.0.row else rest.0.row) rest.1)
                  (among-map (λ s. if s.id == r.id then change s else s) F.rows rest.0.row rest.0.lives);
              own = rest.0.own;
              here = rest.0.here;
              is = rest.0.is;
            })

        own : Among (standing (nodes_of (change r)) p) q → Among (standing (nodes (change_row F r.id change)) p) q
        own i =
            let n = among_from-map (λ n. n.port) (standing_at p (nodes_of (change r))) q i in
            let at = among_from-filter (λ n. same_point n.at p) (nodes_of (change r)) n.0 n.1 in
            stands_there (map (λ s. if s.id == r.id then change s else s) F.rows) p q (record {
              node = n.0;
              row = change r;
              lives = subst (Among (map (λ s. if s.id == r.id then change s else s) F.rows)) (ap (λ b. if b then change r else r) (eq-eqb r.id r.id refl))
                  (among-map (λ s. if s.id == r.id then change s else s) F.rows r lives);
              own = at.0;
              here = at.1;
              is = n.2;
            })

    from : (q : Port) → Among (standing (nodes (change_row F r.id change)) p) q → Among (without_ports (ports F p) (standing (nodes_of r) p) ++ standing (nodes_of (change r)) p) q
    from q h =
        let o = owned (map (λ s. if s.id == r.id then change s else s) F.rows) p q h in
        let x = among_from-map (λ s. if s.id == r.id then change s else s) F.rows o.row o.lives in
        by o x.0 x.1 x.2 (x.0.id == r.id) refl
      where
        by : (o : Owned (map (λ s. if s.id == r.id then change s else s) F.rows) p q) (x : Row) → Among F.rows x → (if x.id == r.id then change x else x) ≡ o.row → (b : Bool) → (x.id == r.id) ≡ b
            → Among (without_ports (ports F p) (standing (nodes_of r) p) ++ standing (nodes_of (change r)) p) q
        by o x among is_row true t =
            let one : x ≡ r = unique_by (λ s. s.id) F.rows apart x r among lives (eqb-true x.id r.id t) in
            let row_is : o.row ≡ change r = sym is_row ∙ ap (λ b. if b then change x else x) t ∙ ap change one in
            among_right (without_ports (ports F p) (standing (nodes_of r) p)) (standing (nodes_of (change r)) p) q
            (stands_of (change r) p q o.node (subst (λ s. Among (nodes_of s) o.node) row_is o.own) o.here o.is)
        by o x among is_row false t =
            let row_is : o.row ≡ x = sym is_row ∙ ap (λ b. if b then change x else x) t in
            among_left (without_ports (ports F p) (standing (nodes_of r) p)) (standing (nodes_of (change r)) p) q
            (to_rest F r lives apart p q (record { node = o.node; row = x; lives = among; own = subst (λ s. Among (nodes_of s) o.node) row_is o.own; here = o.here; is = o.is }) t)

-- ---- a change that moves no port

same_nodes : (id : ℕ) (change : Row → Row) → ((r : Row) → nodes_of (change r) ≡ nodes_of r) → (rows : List Row)
    → flat_map nodes_of rows ≡ flat_map nodes_of (map (λ r. if r.id == id then change r else r) rows)
same_nodes id change keeps [] = refl
same_nodes id change keeps (r ∷ rows) = λ i. one (r.id == id) i ++ same_nodes id change keeps rows i
  where
    one : (b : Bool) → nodes_of r ≡ nodes_of (if b then change r else r)
    one true = sym (keeps r)
    one false = refl

pub stayed : StayLaw
stayed grid F id change keeps is p = is p ∙ ap (λ ns. rising port_cmp (standing ns p)) (same_nodes id change keeps F.rows)
