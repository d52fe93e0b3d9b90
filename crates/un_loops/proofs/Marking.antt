-- The segments among names of which some are marked.
use Rattle.std.proofs.Common.{◌≡◌, ℕ, zero, suc, ◌↔◌, Bool, true, false, List, [], ◌∷◌, Some, Ordering, Less, Equal, Greater, nat_cmp, inl, inr, refl, ap, ◌∙◌}
use Rattle.std.specs.Prelude.{slice_get, Contains}
use Rattle.std.specs.List.{zip}
use Rattle.std.specs.Ordering.{ordering_then}
use Rattle.un_defs.specs.declared.link.LinkName.{LinkName}
use Rattle.un_defs.specs.declared.link.LinkName.TheVariants.{Seg, Path, Coin, Assoc}
use Rattle.un_defs.specs.Orders.{rising}
use Rattle.un_defs.proofs.Rising.{Among, among-rising, among_from-rising}
use Rattle.un_defs.proofs.Members.{contains_from_among, among_from_contains, among_from-filter_map, among-filter_map}
use Rattle.un_defs.proofs.LinkCases.{some_same}
use Rattle.un_ask.specs.contracts.results.SegmentOrd.TheImpl as by_segment
use Rattle.un_ask.specs.declared.results.Segment.{Segment}
use Rattle.un_loops.proofs.Listing.{segment_ties}
use Rattle.un_loops.specs.Loops.{segment_cmp}
use Rattle.un_loops.specs.Marked.{segment_if, marked_segments}

-- the name of a segment
abbrev pub name_of : Segment → LinkName
name_of s = Seg s.line s.index

-- a marked name of a segment
is_segment : (name : LinkName) (on : Bool) (s : Segment) → segment_if name on ≡ Some s → (name ≡ name_of s) × (on ≡ true)
is_segment name false s e = absurd (cc)
is_segment (Seg line index) true s e =
    let same : record { line = line; index = index } ≡ s = some_same (record { line = line; index = index }) s e in
    (ap name_of same, refl)
is_segment (Path a b c) true s e = absurd (cc)
is_segment (Coin a b c d) true s e = absurd (cc)
is_segment (Assoc a) true s e = absurd (cc)

-- a pair stands at a place of both lists
at_place : {A B : Type 0} (xs : List A) (ys : List B) (x : A) (y : B) → Among (zip xs ys) (x, y) → (i : ℕ) × (slice_get xs i ≡ Some x) × (slice_get ys i ≡ Some y)
at_place [] ys x y h = absurd h
at_place (k ∷ xs) [] x y h = absurd h
at_place {A} {B} (k ∷ xs) (b ∷ ys) x y h = elim h [
  | inl e ↦ (0, ap (λ (p : A × B). Some p.0) e, ap (λ (p : A × B). Some p.1) e)
  | inr more ↦ let rest = at_place xs ys x y more in (suc rest.0, rest.1, rest.2)
]

from_place : {A B : Type 0} (xs : List A) (ys : List B) (x : A) (y : B) (i : ℕ) → slice_get xs i ≡ Some x → slice_get ys i ≡ Some y → Among (zip xs ys) (x, y)
from_place [] ys x y i e f = absurd (cc)
from_place (k ∷ xs) [] x y i e f = absurd (cc)
from_place (k ∷ xs) (b ∷ ys) x y zero e f = let a = some_same k x e in let c = some_same b y f in inl (λ i. (a i, c i))
from_place (k ∷ xs) (b ∷ ys) x y (suc i) e f = inr (from_place xs ys x y i e f)

pub has_marked : (names : List LinkName) (marks : List Bool) (s : Segment)
    → Contains (marked_segments names marks) s ↔ ((i : ℕ) × (slice_get names i ≡ Some (name_of s)) × (slice_get marks i ≡ Some true))
has_marked names marks s = (
  λ has.
      let from = among_from-filter_map (λ (p : LinkName × Bool). segment_if p.0 p.1) (zip names marks) s (among_from_contains (marked_segments names marks) s has) in
      let is = is_segment (from.0).0 (from.0).1 s from.2 in
      let place = at_place names marks (from.0).0 (from.0).1 from.1 in
      (place.0, place.1 ∙ ap Some is.0, place.2 ∙ ap Some is.1),
  λ (i, named, on).
      contains_from_among (marked_segments names marks) s
      (among-filter_map (λ (p : LinkName × Bool). segment_if p.0 p.1) (zip names marks) (name_of s, true) s (from_place names marks (name_of s) true i named on) refl),
)

-- ---- their order

-- nothing after an order changes it
at_end : (k : Ordering) → k ≡ ordering_then k Equal
at_end Less = refl
at_end Equal = refl
at_end Greater = refl

-- the order of the code's segments is that of the definitions
pub rises_alike : (xs : List Segment) → rising by_segment.ghosts.cmp xs ≡ rising segment_cmp xs
rises_alike xs = λ i. rising (λ s t. ordering_then (nat_cmp s.line t.line) (at_end (nat_cmp s.index t.index) i)) xs

-- in rising order the list has the same segments
pub rising_has : (xs : List Segment) (s : Segment) → Contains (rising segment_cmp xs) s ↔ Contains xs s
rising_has xs s = (
  λ has. contains_from_among xs s (among_from-rising segment_cmp xs s (among_from_contains (rising segment_cmp xs) s has)),
  λ has. contains_from_among (rising segment_cmp xs) s (among-rising segment_cmp xs (λ a b _ _ e. segment_ties a b e) s (among_from_contains xs s has)),
)
