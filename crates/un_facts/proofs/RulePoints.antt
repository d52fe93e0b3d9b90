-- The points that a rule may change, by the lines and associations that are looked up.
use Rattle.std.proofs.Common.{◌≡◌, ℕ, ◌+◌, Bool, true, false, cond, ◌&&◌, ◌==◌, List, [], ◌∷◌, map, filter, flat_map, All, refl, sym, ap, ◌∙◌}
use Rattle.std.specs.Prelude.{if◌then◌else◌}
use Rattle.std.specs.List.{enumerate_from}
use Rattle.un_geom.specs.declared.point.Point.{Point}
use Rattle.un_defs.specs.declared.row.Row.{Row}
use Rattle.un_defs.specs.declared.assoc.AssocKind.{AssocKind}
use Rattle.un_defs.specs.Features.{Features, is_line}
use Rattle.un_defs.specs.Links.{Vertex, vertices_of}
use Rattle.un_defs.specs.Dirtied.{joint_points, has_joint_of, points_of_ends}
use Rattle.un_defs.proofs.ListLemmas.{filter-flat_map, flat_map-filter, map-flat_map}
use Rattle.un_defs.proofs.Members.{among_from-filter}
use Rattle.un_defs.proofs.Unique.{from_all}
use Rattle.un_defs.proofs.KeepsSound.{all_from}
use Rattle.un_store.specs.Keyed.{is_line_of, line_points}
use Rattle.un_assoc.specs.Links.{is_sort, is_of_sort}
use Rattle.un_facts.specs.Ruling.{is_of_kinds, points_between}

-- what holds of all holds of those that a filter leaves
pub all_left : {A : Type 0} (P : A → Type 0) (test : A → Bool) (xs : List A) → All P xs → All P (filter test xs)
all_left P test xs all = all_from P (filter test xs) (λ x h. from_all P xs all x (among_from-filter test xs x h).0)

-- ---- vertices

module _ (test : Point → Bool) (line : ℕ) where
  abbrev is_taken : Vertex → Bool
  is_taken v = (v.line.kind == line) && test v.at

  abbrev vertex : Row → ℕ × Point → Vertex
  vertex r entry = record { line = r; index = entry.0; at = entry.1 }

  when : (b : Bool) (p : Point) (v : Vertex) (ps : List Point) (vs : List Vertex) → p ≡ v.at → ps ≡ map (λ v. v.at) vs → cond b (p ∷ ps) ps ≡ map (λ v. v.at) (cond b (v ∷ vs) vs)
  when true p v ps vs e f = λ i. e i ∷ f i
  when false p v ps vs e f = f

  of_line : (r : Row) (b : Bool) → (r.kind == line) ≡ b → (n : ℕ) (ps : List Point)
      → cond b (filter test ps) [] ≡ map (λ v. v.at) (filter is_taken (map (vertex r) (enumerate_from n ps)))
  of_line r true e n [] = refl
  of_line r false e n [] = refl
  of_line r true e n (p ∷ ps) =
      let rest = filter is_taken (map (vertex r) (enumerate_from (n + 1) ps)) in
      when (test p) p (vertex r (n, p)) (filter test ps) rest refl (of_line r true e (n + 1) ps)
      ∙ ap (λ k. map (λ v. v.at) (cond (k && test p) (vertex r (n, p) ∷ rest) rest)) (sym e)
  of_line r false e n (p ∷ ps) =
      let rest = filter is_taken (map (vertex r) (enumerate_from (n + 1) ps)) in
      of_line r false e (n + 1) ps
      ∙ ap (λ k. map (λ v. v.at) (cond (k && test p) (vertex r (n, p) ∷ rest) rest)) (sym e)

  of_row : (r : Row) (b : Bool) → cond (b && (r.kind == line)) (filter test r.shape) [] ≡ cond b (map (λ v. v.at) (filter is_taken (vertices_of r))) []
  of_row r true = of_line r (r.kind == line) refl 0 r.shape
  of_row r false = refl

  of_rows : (rows : List Row) → filter test (line_points line rows) ≡ map (λ v. v.at) (filter is_taken (flat_map vertices_of (filter (λ r. is_line r.class) rows)))
  of_rows rows =
      filter-flat_map test (λ r. r.shape) (filter (is_line_of line) rows)
      ∙ flat_map-filter (λ r. filter test r.shape) (is_line_of line) rows
      ∙ (λ i. flat_map (λ r. of_row r (is_line r.class) i) rows)
      ∙ sym (flat_map-filter (λ r. map (λ v. v.at) (filter is_taken (vertices_of r))) (λ r. is_line r.class) rows)
      ∙ sym (map-flat_map (λ v. v.at) (λ r. filter is_taken (vertices_of r)) (filter (λ r. is_line r.class) rows))
      ∙ ap (map (λ v. v.at)) (sym (filter-flat_map is_taken vertices_of (filter (λ r. is_line r.class) rows)))

-- of the points of the lines of a kind those at which a device or junction of a kind stands
pub joint_points_are : (F : Features) (junction line : ℕ) → filter (has_joint_of F junction) (line_points line F.rows) ≡ joint_points F junction line
joint_points_are F junction line = of_rows (has_joint_of F junction) line F.rows

-- ---- associations

two_tests : {A B : Type 0} (f : A → List B) (p q : A → Bool) (xs : List A) → flat_map (λ x. if q x then f x else []) (filter p xs) ≡ flat_map f (filter (λ x. p x && q x) xs)
two_tests f p q xs =
    flat_map-filter (λ x. if q x then f x else []) p xs
    ∙ (λ i. flat_map (λ x. each (f x) (p x) (q x) i) xs)
    ∙ sym (flat_map-filter f (λ x. p x && q x) xs)
  where
    each : {B : Type 0} (ys : List B) (a b : Bool) → cond a (if b then ys else []) [] ≡ cond (a && b) ys []
    each ys true true = refl
    each ys true false = refl
    each ys false b = refl

pub points_between_are : (F : Features) (sort : AssocKind) (first second : ℕ) → flat_map (points_between F sort first second) (filter (is_of_sort sort) F.associations)
    ≡ flat_map (points_of_ends F) (filter (λ a. is_sort sort a.sort && is_of_kinds F sort first second a) F.associations)
points_between_are F sort first second = two_tests (points_of_ends F) (is_of_sort sort) (is_of_kinds F sort first second) F.associations
