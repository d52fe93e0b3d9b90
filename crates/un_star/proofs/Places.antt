-- Ports of rows: the least that stands at a point, and a segment past the last vertex.
use Rattle.std.proofs.Common.{◌≡◌, ℕ, zero, suc, ◌+◌, ◌-◌, ◌<◌, ◌≤◌, Bool, true, false, cond, List, [], ◌∷◌, length, filter_map, find, refl, ap, ◌∙◌, Option, Some, None, slice_get, arith}
use Rattle.std.specs.List.{range_with_len, cons_option}
use Rattle.std.specs.Option.{option_map, option_map_or}
use Rattle.un_geom.specs.declared.point.Point.{Point}
use Rattle.un_geom.specs.Places.{same_point}
use Rattle.un_defs.specs.declared.link.LinkName.TheVariants.{Seg}
use Rattle.un_defs.specs.declared.port.Node.{Node}
use Rattle.un_defs.specs.declared.row.Row.{Row}
use Rattle.un_defs.specs.Features.{is_line}
use Rattle.un_defs.specs.Ports.{node_of, port_numbers_of, point_of_port, shape_place, standing_at}
use Rattle.un_defs.specs.Links.{link_of, segment, goes_along, goes_against}
use Rattle.un_defs.specs.Errors.{least_port_at}
use Rattle.un_defs.proofs.LinkCases.{line_class}
use Rattle.un_star.specs.Errors.{stands_as}

-- the next of so many ports
pub find_next : (p : ℕ → Bool) (from before count : ℕ) → before < count → p (from + before) ≡ false
    → find p (range_with_len (from + before) (count - before)) ≡ find p (range_with_len (from + (before + 1)) (count - (before + 1)))
find_next p from before count below fails =
    ap (λ n. find p (range_with_len (from + before) n)) (left_over before count below)
    ∙ (λ i. cond (fails i) (Some (from + before)) (find p (range_with_len (from + before + 1) (count - (before + 1)))))
    ∙ ap (λ a. find p (range_with_len a (count - (before + 1)))) (omega arith)
  where
    left_over : (b c : ℕ) → b < c → c - b ≡ suc (c - (b + 1))
    left_over b c h = omega arith

module _ (p : Point) (r : Row) where
  least_among : (ns : List ℕ) → option_map (λ n. n.port.number) (slice_get (standing_at p (filter_map (node_of r) ns)) 0) ≡ find (stands_as p r) ns
  least_among [] = refl
  least_among (k ∷ ks) = go (point_of_port r k) (least_among ks)
    where
      go : (o : Option Point) → option_map (λ n. n.port.number) (slice_get (standing_at p (filter_map (node_of r) ks)) 0) ≡ find (stands_as p r) ks
          → option_map (λ n. n.port.number) (slice_get (standing_at p (cons_option (option_map (λ q. record { port = record { feature = r.id; number = k }; at = q }) o) (filter_map (node_of r) ks))) 0)
          ≡ cond (option_map_or (λ q. same_point q p) o false) (Some k) (find (stands_as p r) ks)
      go None h = h
      go (Some q) h =
          elim (same_point q p) as (λ b. option_map (λ n. n.port.number) (slice_get (cond b (record { port = record { feature = r.id; number = k }; at = q } ∷ standing_at p (filter_map (node_of r) ks)) (standing_at p (filter_map (node_of r) ks))) 0)
          ≡ cond b (Some k) (find (stands_as p r) ks)) [ true ↦ refl | false ↦ h ]

  pub least_is : least_port_at p r ≡ find (stands_as p r) (port_numbers_of r)
  least_is = least_among (port_numbers_of r)

past : {A : Type 0} (xs : List A) (i : ℕ) → length xs ≤ i → slice_get xs i ≡ None
past [] i h = refl
past (x ∷ xs) zero h = absurd (omega arith)
past (x ∷ xs) (suc i) h = past xs i (omega arith)

-- a line has no segment from its last vertex on
pub no_segment : (r : Row) (i : ℕ) → is_line r.class ≡ true → length r.shape ≤ i + 1 → segment r i ≡ []
no_segment r i c h = ap (λ o. link_of (Seg r.id i) (goes_along r.flow) (goes_against r.flow) (node_of r i) o) none ∙ go (node_of r i)
  where
    none : node_of r (i + 1) ≡ None
    none = ap (option_map (λ q. record { port = record { feature = r.id; number = i + 1 }; at = q }))
        (ap (λ c. slice_get r.shape (shape_place c (i + 1))) (line_class r.class c) ∙ past r.shape (i + 1) h)

    go : (o : Option Node) → link_of (Seg r.id i) (goes_along r.flow) (goes_against r.flow) o None ≡ []
    go None = refl
    go (Some n) = refl
