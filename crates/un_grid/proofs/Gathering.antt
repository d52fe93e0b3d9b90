-- One node after another is put in.
use Rattle.std.proofs.Common.{◌≡◌, Bool, true, false, cond, List, [], ◌∷◌, ◌++◌, map, refl, sym, ap, ◌∙◌, if◌then◌else◌}
use Rattle.std.specs.BTreeSet.{insert_key}
use Rattle.std.specs.List.Sorted.{IsStrictlySortedBy}
use Rattle.std.specs.Map.{values_of}
use Rattle.std.proofs.lemmas.List.{append-nil, append_assoc}
use Rattle.un_geom.specs.declared.point.Point.{Point}
use Rattle.un_geom.specs.Places.{same_point}
use Rattle.un_defs.specs.declared.port.Node.{Node}
use Rattle.un_defs.specs.Orders.{rising, port_cmp}
use Rattle.un_defs.specs.Ports.{standing_at}
use Rattle.un_defs.proofs.Rising.{rising_unique}
use Rattle.un_defs.proofs.Unique.{from_all, point_same, point_itself}
use Rattle.un_defs.proofs.Near.{false_unless}
use Rattle.un_defs.proofs.OrderLaws.{port_total, port_ties}
use Rattle.un_defs.proofs.ListLemmas.{filter-append}
use Rattle.un_grid.specs.Grids.{ports_in, IsGrid, HasNodes}
use Rattle.un_grid.proofs.Putting.{Entries, at_point, sorted_nil}
use Rattle.un_grid.proofs.Inserting.{insert_rising, map-append}

-- no node yet
pub none_yet : (old : Entries) → IsGrid old → HasNodes old [] old
none_yet old is p =
    rising_unique port_total (ports_in old p) (ports_in old p) (λ a b _ _ e. port_ties a b e)
    (at_point (IsStrictlySortedBy port_cmp) sorted_nil old (λ l i. from_all (IsStrictlySortedBy port_cmp) (values_of old) is.rising l i) p) (λ x h. h) (λ x h. h)
    ∙ ap (rising port_cmp) (sym (append-nil (ports_in old p)))

-- one node more
pub one_more : (old grid new : Entries) (before : List Node) (n : Node) → HasNodes old before grid
    → ((r : Point) → ports_in new r ≡ (if same_point r n.at then insert_key port_cmp (ports_in grid n.at) n.port else ports_in grid r))
    → HasNodes old (before ++ n ∷ []) new
one_more old grid new before n has put r = put r ∙ go (same_point r n.at) refl
  where
    go : (b : Bool) → same_point r n.at ≡ b → (if b then insert_key port_cmp (ports_in grid n.at) n.port else ports_in grid r) ≡ rising port_cmp (ports_in old r ++ map (λ n. n.port) (standing_at r (before ++ n ∷ [])))
    go true e =
        let at : r ≡ n.at = point_same r n.at e in
        ap (λ l. insert_key port_cmp l n.port) (ap (ports_in grid) (sym at) ∙ has r)
        ∙ insert_rising (ports_in old r ++ map (λ n. n.port) (standing_at r before)) n.port
        ∙ ap (rising port_cmp) (
        append_assoc (ports_in old r) (map (λ n. n.port) (standing_at r before)) (n.port ∷ [])
        ∙ ap (λ l. ports_in old r ++ l) (
        sym (map-append (λ n. n.port) (standing_at r before) (n ∷ []))
        ∙ ap (map (λ n. n.port)) (
        ap (λ b. standing_at r before ++ cond b (n ∷ []) []) (sym (ap (λ q. same_point n.at q) at ∙ point_itself n.at))
        ∙ sym (filter-append (λ m. same_point m.at r) before (n ∷ [])))))
    go false e =
        has r
        ∙ ap (λ l. rising port_cmp (ports_in old r ++ map (λ n. n.port) l)) (
        sym (append-nil (standing_at r before))
        ∙ ap (λ b. standing_at r before ++ cond b (n ∷ []) []) (sym (false_unless (same_point n.at r) (λ h. apart (sym e ∙ ap (λ q. same_point q n.at) (sym (point_same n.at r h)) ∙ point_itself n.at))))
        ∙ sym (filter-append (λ m. same_point m.at r) before (n ∷ [])))
      where
        apart : false ≡ true → ⊥
        apart h = cc
