-- Elements of lists and of options, and the ports and nodes of rows in range.
use Rattle.std.proofs.Common.{◌≡◌, ℕ, zero, suc, ◌<◌, ◌≤◌, ◌&&◌, true, List, [], ◌∷◌, length, slice_get, nat_le, Option, Some, None, IfSome, inl, inr, refl, sym, subst, arith, leb→le}
use Rattle.std.specs.Bool.{passes}
use Rattle.std.specs.Option.{option_map}
use Rattle.un_geom.specs.Places.{IsPlace}
use Rattle.un_schema.specs.declared.kind.Class.{Class}
use Rattle.un_schema.specs.declared.kind.Class.TheVariants.{Device, Junction, Line, Assembly, Structure}
use Rattle.un_schema.specs.Catalog.{Catalog}
use Rattle.un_tiers.specs.declared.tier.Tier.{Tier}
use Rattle.un_defs.specs.declared.port.Node.{Node}
use Rattle.un_defs.specs.declared.row.Row.{Row}
use Rattle.un_defs.specs.Features.{Features, row as row_with, is_joint, has_terminal}
use Rattle.un_defs.specs.Ports.{node_of, port_numbers_of, numbers_by_class, shape_place}
use Rattle.un_defs.specs.Sound.{IsSound, FitsKind, most_points}
use Rattle.un_defs.proofs.Rising.{Among}
use Rattle.un_defs.proofs.LinkCases.{both_true, from_range, from-node_of, some_same}
use Rattle.un_defs.proofs.Unique.{from_all}
use Rattle.un_defs.proofs.Standing.{from_row}
use Rattle.un_feed_json.specs.Sound.{IsId, IsPort}
use Rattle.un_feed_laws.specs.Ranges.{IsRowInRange, AreInRange}

-- ---- lists and options

module _ {A : Type 0} where
  -- what stands at a place is an element
  pub among_got : (xs : List A) (i : ℕ) (x : A) → slice_get xs i ≡ Some x → Among xs x
  among_got [] i x e = cc
  among_got (y ∷ ys) zero x e = inl (some_same y x e)
  among_got (y ∷ ys) (suc i) x e = inr (among_got ys i x e)

-- what a mapped option has
pub map_some : {A B : Type 0} (f : A → B) (o : Option A) (y : B) → option_map f o ≡ Some y → (x : A) × (o ≡ Some x) × (f x ≡ y)
map_some f None y e = cc
map_some f (Some x) y e = (x, refl, some_same (f x) y e)

-- what holds of whatever an option has
pub if_some : {A : Type 0} (P : A → Type 0) (o : Option A) → ((x : A) → o ≡ Some x → P x) → IfSome o P
if_some P None h = tt
if_some P (Some x) h = h x refl

-- ---- rows

most_few : (c : Class) → most_points c ≤ 64
most_few Device = omega arith
most_few Junction = omega arith
most_few Line = omega arith
most_few Assembly = omega arith
most_few Structure = omega arith

-- a row has at most 64 points
few_points : (S : Catalog) (r : Row) → FitsKind S r → length r.shape ≤ 64
few_points S r fits = let most = most_few r.class in let few = fits.few in omega (arith, most, few)

number_few : (c : Class) (terminals points k : ℕ) → terminals ≤ 63 → points ≤ 64 → Among (numbers_by_class c terminals points) k → k ≤ 63
number_few Device terminals points k few short h = let r = from_range 1 terminals k h in omega (arith, r.1)
number_few Junction terminals points k few short h = elim h [ inl e ↦ omega (arith, e) | inr i ↦ absurd i ]
number_few Line terminals points k few short h = let r = from_range 0 points k h in omega (arith, r.1)
number_few Assembly terminals points k few short h = elim h [ inl e ↦ omega (arith, e) | inr i ↦ absurd i ]
number_few Structure terminals points k few short h = let r = from_range 0 points k h in omega (arith, r.1)

-- a node with a port and a point in range
pub record IsNode (n : Node) : Type 0 where
  pub port : IsPort n.port.feature n.port.number
  pub at : IsPlace n.at

pub node_in_range : (S : Catalog) (r : Row) (k : ℕ) (n : Node) → IsRowInRange S r → k ≤ 63 → node_of r k ≡ Some n → IsNode n
node_in_range S r k n range few e =
    let is = from-node_of r k n e in
    record {
      port = record { feature = subst IsId (sym is.feature) range.id; within = subst (λ m. m ≤ 63) (sym is.number) few };
      at = from_all IsPlace r.shape range.placed n.at (among_got r.shape (shape_place r.class k) n.at is.at);
    }

-- ---- rows of sound features in range

module _ (S : Catalog) (T : List Tier) (F : Features) (sound : IsSound S F) (range : AreInRange S T F) where
  pub row_in_range : (r : Row) → Among F.rows r → IsRowInRange S r
  row_in_range r h = from_all (IsRowInRange S) F.rows range.rows r h

  -- the id of a row that is looked up
  pub id_in_range : (id : ℕ) (r : Row) → row_with F id ≡ Some r → IsId id
  id_in_range id r e = let is = from_row F id r e in subst IsId is.1 (row_in_range r is.0).id

  few_of : (r : Row) → Among F.rows r → length r.shape ≤ 64
  few_of r h = few_points S r (from_all (FitsKind S) F.rows sound.kinds r h)

  pub number_in_range : (r : Row) (k : ℕ) → Among F.rows r → Among (port_numbers_of r) k → k ≤ 63
  number_in_range r k h g = number_few r.class r.terminals (length r.shape) k (row_in_range r h).terminals (few_of r h) g

  pub vertex_in_range : (r : Row) (i : ℕ) → Among F.rows r → i < length r.shape → i ≤ 63
  vertex_in_range r i h below = let few = few_of r h in omega (arith, below, few)

  pub terminal_in_range : (r : Row) (t : ℕ) → Among F.rows r → has_terminal r t ≡ true → t ≤ 63
  terminal_in_range r t h has =
      let below = leb→le t r.terminals (passes (nat_le t r.terminals) (both_true (is_joint r.class && nat_le 1 t) (nat_le t r.terminals) has).1) in
      let few = (row_in_range r h).terminals in
      omega (arith, below, few)
