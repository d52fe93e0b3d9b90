-- The map with one port more at a point is a grid with it.
use Rattle.std.proofs.Common.{◌≡◌, ◌≢◌, Bool, true, false, cond, List, [], ◌∷◌, Option, Some, refl, sym, ap, subst, ◌∙◌, inl, inr, if◌then◌else◌, unwrap_or}
use Rattle.std.specs.declared.cmp.Ordering.{Ordering}
use Rattle.std.specs.declared.cmp.Ordering.TheVariants.{Less, Equal, Greater}
use Rattle.std.specs.Ordering.{match_ordering}
use Rattle.std.specs.Map.{lookup, values_of}
use Rattle.std.specs.BTreeSet.{insert_key}
use Rattle.std.specs.BTreeMap.{insert_entry}
use Rattle.std.specs.List.Sorted.{IsStrictlySortedBy}
use Rattle.std.proofs.lemmas.Map.Views.{All-values-insert_entry}
use Rattle.un_geom.specs.declared.point.Point.{Point}
use Rattle.un_geom.specs.Places.{point_cmp, same_point}
use Rattle.un_points.specs.PointMaps.{value_at}
use Rattle.un_defs.specs.declared.port.Port.{Port}
use Rattle.un_defs.specs.Orders.{port_cmp}
use Rattle.un_defs.proofs.Rising.{Among, sorted-insert_key}
use Rattle.un_defs.proofs.Unique.{from_all}
use Rattle.un_defs.proofs.OrderLaws.{port_total}
use Rattle.un_grid.specs.Grids.{ports_in, IsGrid}

abbrev pub Entries : Type 0
Entries = List (Point × List Port)

-- what all lists of the grid have, and the empty one, the list at a point has
pub at_point : (P : List Port → Type 0) → P [] → (grid : Entries) → ((ports : List Port) → Among (values_of grid) ports → P ports) → (p : Point) → P (ports_in grid p)
at_point P none [] h p = none
at_point P none (e ∷ es) h p = go (same_point p e.0) (at_point P none es (λ ports i. h ports (inr i)) p)
  where
    go : (b : Bool) → P (ports_in es p) → P (unwrap_or (cond b (Some e.1) (lookup (same_point p) es)) [])
    go true rest = h e.1 (inl refl)
    go false rest = rest

pub sorted_nil : IsStrictlySortedBy port_cmp []
unfolding IsStrictlySortedBy
sorted_nil = tt

some_key : (ports : List Port) (q : Port) → insert_key port_cmp ports q ≢ []
some_key [] q e = let f : q ∷ [] ≡ [] = e in cc
some_key (x ∷ xs) q e = go (port_cmp q x) e
  where
    go : (k : Ordering) → match_ordering k (q ∷ x ∷ xs) (x ∷ xs) (x ∷ insert_key port_cmp xs q) ≢ []
    go Less e = let f : q ∷ x ∷ xs ≡ [] = e in cc
    go Equal e = let f : x ∷ xs ≡ [] = e in cc
    go Greater e = let f : x ∷ insert_key port_cmp xs q ≡ [] = e in cc

chosen : (b : Bool) (x : List Port) (o : Option (List Port)) → unwrap_or (if b then Some x else o) [] ≡ (if b then x else unwrap_or o [])
chosen true x o = refl
chosen false x o = refl

module _ (old grid new : Entries) (view : grid ≡ old) (p : Point) (q : Port) (ports : List Port) (ports_are : ports ≡ insert_key port_cmp (ports_in old p) q) where
  pub put_port : ((r : Point) → value_at r new ≡ (if same_point r p then Some ports else value_at r grid))
      → (r : Point) → ports_in new r ≡ (if same_point r p then insert_key port_cmp (ports_in old p) q else ports_in old r)
  put_port values r =
      ap (λ o. unwrap_or o []) (values r)
      ∙ chosen (same_point r p) ports (value_at r grid)
      ∙ (λ i. if same_point r p then ports_are i else ports_in (view i) r)

  pub put_grid : new ≡ insert_entry point_cmp grid p ports → IsGrid old → IsGrid new
  put_grid new_is is = subst IsGrid (sym (new_is ∙ ap (λ g. insert_entry point_cmp g p ports) view)) (record {
    standing = All-values-insert_entry point_cmp p ports (λ l. l ≢ []) old is.standing (λ e. some_key (ports_in old p) q (sym ports_are ∙ e));
    rising = All-values-insert_entry point_cmp p ports (IsStrictlySortedBy port_cmp) old is.rising
        (subst (IsStrictlySortedBy port_cmp) (sym ports_are) (sorted-insert_key port_total (ports_in old p) q
        (at_point (IsStrictlySortedBy port_cmp) sorted_nil old (λ l i. from_all (IsStrictlySortedBy port_cmp) (values_of old) is.rising l i) p)));
  })
