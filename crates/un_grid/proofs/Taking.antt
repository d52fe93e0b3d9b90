-- The map with one port less at a point is a grid without it.
use Rattle.std.proofs.Common.{◌≡◌, ◌≢◌, ℕ, ◌==◌, length, ◌∷◌, arith, eqb-true, true≢false, Bool, true, false, not, filter, List, [], Some, None, refl, sym, ap, subst, ◌∙◌, if◌then◌else◌, unwrap_or}
use Rattle.std.specs.Map.{values_of, remove_entry}
use Rattle.std.specs.BTreeMap.{is_at, insert_entry}
use Rattle.std.specs.List.Sorted.{IsStrictlySortedBy}
use Rattle.std.proofs.lemmas.List.Kept.{IsStrictlySortedBy-filter}
use Rattle.std.proofs.lemmas.Map.Views.{All-values-insert_entry, All-map-remove_entry}
use Rattle.un_geom.specs.declared.point.Point.{Point}
use Rattle.un_geom.specs.Places.{point_cmp, same_point}
use Rattle.un_points.specs.PointMaps.{value_at}
use Rattle.un_defs.specs.declared.port.Port.{Port}
use Rattle.un_defs.specs.Orders.{port_cmp, same_port}
use Rattle.un_defs.proofs.Unique.{from_all, point_same}
use Rattle.un_grid.specs.Grids.{ports_in, IsGrid}
use Rattle.un_grid.proofs.Putting.{Entries, at_point, sorted_nil}

-- whether no port is left, by their count
pub none_left : (ports : List Port) (count : ℕ) → count ≡ length ports → (count == 0) ≡ true → ports ≡ []
none_left [] count is e = refl
none_left (q ∷ ports) count is e = absurd (let none : count ≡ 0 = eqb-true count 0 e in omega (arith, is, none))

pub some_left : (ports : List Port) (count : ℕ) → count ≡ length ports → (count == 0) ≡ false → ports ≢ []
some_left ports count is e none = true≢false (sym (ap (λ n. n == 0) (is ∙ ap length none)) ∙ e)

-- the ports without one of them
abbrev pub others : Port → List Port → List Port
others q ports = filter (λ s. not (same_port s q)) ports

module _ (old grid new : Entries) (view : grid ≡ old) (p : Point) (q : Port) where
  -- no other port stands at the point, which goes
  pub take_last : others q (ports_in old p) ≡ [] → ((r : Point) → value_at r new ≡ (if same_point r p then None else value_at r grid))
      → (r : Point) → ports_in new r ≡ (if same_point r p then others q (ports_in old r) else ports_in old r)
  take_last none values r = ap (λ o. unwrap_or o []) (values r) ∙ go (same_point r p) refl
    where
      go : (b : Bool) → same_point r p ≡ b → unwrap_or (if b then None else value_at r grid) [] ≡ (if b then others q (ports_in old r) else ports_in old r)
      go true e = sym (ap (λ s. others q (ports_in old s)) (point_same r p e) ∙ none)
      go false e = ap (λ g. ports_in g r) view

  pub last_grid : new ≡ remove_entry (is_at (point_cmp p)) grid → IsGrid old → IsGrid new
  last_grid new_is is = subst IsGrid (sym (new_is ∙ ap (remove_entry (is_at (point_cmp p))) view)) (record {
    standing = All-map-remove_entry (is_at (point_cmp p)) (λ e. e.1) (λ l. l ≢ []) old is.standing;
    rising = All-map-remove_entry (is_at (point_cmp p)) (λ e. e.1) (IsStrictlySortedBy port_cmp) old is.rising;
  })

  module _ (ports : List Port) (ports_are : ports ≡ others q (ports_in old p)) where
    -- other ports stay at the point
    pub take_one : ((r : Point) → value_at r new ≡ (if same_point r p then Some ports else value_at r grid))
        → (r : Point) → ports_in new r ≡ (if same_point r p then others q (ports_in old r) else ports_in old r)
    take_one values r = ap (λ o. unwrap_or o []) (values r) ∙ go (same_point r p) refl
      where
        go : (b : Bool) → same_point r p ≡ b → unwrap_or (if b then Some ports else value_at r grid) [] ≡ (if b then others q (ports_in old r) else ports_in old r)
        go true e = ports_are ∙ ap (λ s. others q (ports_in old s)) (sym (point_same r p e))
        go false e = ap (λ g. ports_in g r) view

    pub one_grid : ports ≢ [] → new ≡ insert_entry point_cmp grid p ports → IsGrid old → IsGrid new
    one_grid some new_is is = subst IsGrid (sym (new_is ∙ ap (λ g. insert_entry point_cmp g p ports) view)) (record {
      standing = All-values-insert_entry point_cmp p ports (λ l. l ≢ []) old is.standing some;
      rising = All-values-insert_entry point_cmp p ports (IsStrictlySortedBy port_cmp) old is.rising
          (subst (IsStrictlySortedBy port_cmp) (sym ports_are) (IsStrictlySortedBy-filter port_cmp (λ s. not (same_port s q)) (ports_in old p)
          (at_point (IsStrictlySortedBy port_cmp) sorted_nil old (λ l i. from_all (IsStrictlySortedBy port_cmp) (values_of old) is.rising l i) p)));
    })
