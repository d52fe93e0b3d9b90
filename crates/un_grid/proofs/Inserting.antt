-- One port more at a point, and the ports of a row.
use Rattle.std.proofs.Common.{◌≡◌, List, [], ◌∷◌, ◌++◌, map, flat_map, refl, sym, ap, ◌∙◌, inl, inr}
use Rattle.std.specs.BTreeSet.{insert_key}
use Rattle.std.proofs.lemmas.List.{append_assoc}
use Rattle.un_geom.specs.Places.{same_point}
use Rattle.un_defs.specs.declared.port.Port.{Port}
use Rattle.un_defs.specs.declared.port.Node.{Node}
use Rattle.un_defs.specs.declared.row.Row.{Row}
use Rattle.un_defs.specs.Orders.{rising, port_cmp}
use Rattle.un_defs.specs.Ports.{nodes, nodes_of, standing_at}
use Rattle.un_defs.proofs.Rising.{Among, rising_same, among-rising, among_from-rising}
use Rattle.un_defs.proofs.Members.{among_left, among_right, among_cases}
use Rattle.un_defs.proofs.OrderLaws.{port_total, port_ties}
use Rattle.un_defs.proofs.ListLemmas.{filter-append}
use Rattle.un_grid.specs.Grids.{InsertLaw}

-- two lists with the same ports are one when sorted
pub same : (xs ys : List Port) → ((q : Port) → Among xs q → Among ys q) → ((q : Port) → Among ys q → Among xs q) → rising port_cmp xs ≡ rising port_cmp ys
same xs ys = rising_same port_total xs ys (λ a b _ _ e. port_ties a b e) (λ a b _ _ e. port_ties a b e)

-- one port more in a sorted list
pub insert_rising : (xs : List Port) (q : Port) → insert_key port_cmp (rising port_cmp xs) q ≡ rising port_cmp (xs ++ q ∷ [])
insert_rising xs q = same (q ∷ xs) (xs ++ q ∷ [])
    (λ r h. elim h [ inl e ↦ among_right xs (q ∷ []) r (inl e) | inr i ↦ among_left xs (q ∷ []) r i ])
    (λ r h. elim (among_cases xs (q ∷ []) r h) [ inl i ↦ inr i | inr i ↦ elim i [ inl e ↦ inl e | inr n ↦ absurd n ] ])

-- sorting what is sorted and more sorts all
pub rising_twice : (xs ys : List Port) → rising port_cmp (rising port_cmp xs ++ ys) ≡ rising port_cmp (xs ++ ys)
rising_twice xs ys = same (rising port_cmp xs ++ ys) (xs ++ ys)
    (λ r h. elim (among_cases (rising port_cmp xs) ys r h) [ inl i ↦ among_left xs ys r (among_from-rising port_cmp xs r i) | inr i ↦ among_right xs ys r i ])
    (λ r h. elim (among_cases xs ys r h) [ inl i ↦ among_left (rising port_cmp xs) ys r (among-rising port_cmp xs (λ a b _ _ e. port_ties a b e) r i) | inr i ↦ among_right (rising port_cmp xs) ys r i ])

nodes-append : (rows : List Row) (r : Row) → flat_map nodes_of (rows ++ r ∷ []) ≡ flat_map nodes_of rows ++ nodes_of r
nodes-append [] r = append-nil-nodes (nodes_of r)
  where
    append-nil-nodes : (ns : List Node) → ns ++ [] ≡ ns
    append-nil-nodes [] = refl
    append-nil-nodes (n ∷ ns) = ap (λ l. n ∷ l) (append-nil-nodes ns)
nodes-append (s ∷ rows) r = ap (λ l. nodes_of s ++ l) (nodes-append rows r) ∙ sym (append_assoc (nodes_of s) (flat_map nodes_of rows) (nodes_of r))

pub map-append : {A B : Type 0} (f : A → B) (xs ys : List A) → map f (xs ++ ys) ≡ map f xs ++ map f ys
map-append f [] ys = refl
map-append f (x ∷ xs) ys = ap (λ l. f x ∷ l) (map-append f xs ys)

pub inserted : InsertLaw
inserted old new F r is has p =
    has p
    ∙ ap (λ l. rising port_cmp (l ++ map (λ n. n.port) (standing_at p (nodes_of r)))) (is p)
    ∙ rising_twice (map (λ n. n.port) (standing_at p (nodes F))) (map (λ n. n.port) (standing_at p (nodes_of r)))
    ∙ ap (rising port_cmp) (sym (map-append (λ n. n.port) (standing_at p (nodes F)) (standing_at p (nodes_of r))))
    ∙ ap (λ ns. rising port_cmp (map (λ n. n.port) ns)) (sym (filter-append (λ n. same_point n.at p) (nodes F) (nodes_of r)) ∙ ap (standing_at p) (sym (nodes-append F.rows r)))
