-- Numbers of points, and marks on the entries of stars.
use Rattle.std.proofs.Common.{◌≡◌, ℕ, zero, suc, ◌+◌, ◌<◌, ◌≤◌, Bool, true, false, cond, not, ◌&&◌, ◌||◌, eqb, nat_lt, List, [], ◌∷◌, ◌++◌, map, length, get_or, set, take, drop, slice_get, find, All, Option, Some, None, refl, sym, ap, subst, ◌∙◌, append-nil, take_all, length-append, arith, true≢false}
use Rattle.std.specs.List.{list_any, position, position_or_len, refill}
use Rattle.std.specs.Option.{option_map_or, option_or}
use Rattle.std.specs.Vec.{with_items}
use Rattle.std.specs.declared.vec.Vec.{Vec}
use Rattle.std.proofs.lemmas.Bool.Decides.{nat_tests}
use Rattle.std.proofs.lemmas.List.{get_or-set_same, get_or-set_other}
use Rattle.std.proofs.lemmas.Option.{get_or_from_slice_get, slice_get_within}
use Rattle.std.proofs.lemmas.List.Elements.{All-head, All-tail}
use Rattle.std.proofs.lemmas.List.Folds.{find_at, find-set, find_past, find-append, position_or_len_push}
use Rattle.un_geom.specs.declared.point.Point.{Point}
use Rattle.un_geom.specs.Places.{same_point}
use Rattle.un_defs.specs.declared.port.Port.{Port}
use Rattle.un_defs.specs.declared.port.Node.{Node}
use Rattle.un_defs.specs.declared.star.Spot.{Spot}
use Rattle.un_defs.specs.Orders.{same_port, same_node}
use Rattle.un_defs.proofs.Unique.{point_same, point_itself, port_same, port_itself}
use Rattle.un_walk.specs.Visits.{Visited}
use Rattle.un_walk.specs.Site.{star_of}
use Rattle.un_walk.specs.Found.{number_of, IsNumberOf, IsWithoutNumber, with_point, place_in, mark_of, mark_at}

-- ---- the first element that passes a test

-- one place further in a list that has one element more before it
next : {X : Type 0} (xs : List X) (x : X) (k : ℕ) → slice_get (x ∷ xs) (1 + k) ≡ slice_get xs k
next xs x k = ap (slice_get (x ∷ xs)) one_more
  where
    one_more : 1 + k ≡ suc k
    one_more = omega arith

module _ {X : Type 0} (p : X → Bool) where
  pub first_passes : (xs : List X) → position_or_len p xs < length xs → (x : X) × (slice_get xs (position_or_len p xs) ≡ Some x) × (p x ≡ true)
  first_passes [] l = absurd (omega (arith, l))
  first_passes (x ∷ xs) l = go (first_passes xs) (p x) refl l
    where
      go : (position_or_len p xs < length xs → (y : X) × (slice_get xs (position_or_len p xs) ≡ Some y) × (p y ≡ true))
          → (b : Bool) → p x ≡ b → cond (not b) (1 + position_or_len p xs) 0 < length (x ∷ xs)
          → (y : X) × (slice_get (x ∷ xs) (cond (not b) (1 + position_or_len p xs) 0) ≡ Some y) × (p y ≡ true)
      go rest true e l = (x, refl, e)
      go rest false e l = let r = rest (omega (arith, l)) in (r.0, next xs x (position_or_len p xs) ∙ r.1, r.2)

  pub some_passes : (xs : List X) → position_or_len p xs < length xs → list_any p xs ≡ true
  some_passes [] l = absurd (omega (arith, l))
  some_passes (x ∷ xs) l = go (some_passes xs) (p x) l
    where
      go : (position_or_len p xs < length xs → list_any p xs ≡ true) → (b : Bool) → cond (not b) (1 + position_or_len p xs) 0 < length (x ∷ xs) → (b || list_any p xs) ≡ true
      go rest true l = refl
      go rest false l = rest (omega (arith, l))

  pub none_passes : (xs : List X) → length xs ≤ position_or_len p xs → list_any p xs ≡ false
  none_passes [] l = refl
  none_passes (x ∷ xs) l = go (none_passes xs) (p x) l
    where
      go : (length xs ≤ position_or_len p xs → list_any p xs ≡ false) → (b : Bool) → length (x ∷ xs) ≤ cond (not b) (1 + position_or_len p xs) 0 → (b || list_any p xs) ≡ false
      go rest true l = absurd (omega (arith, l))
      go rest false l = rest (omega (arith, l))

  pub within_length : (xs : List X) → position_or_len p xs ≤ length xs
  within_length [] = omega arith
  within_length (x ∷ xs) = go (p x) (within_length xs)
    where
      go : (b : Bool) → position_or_len p xs ≤ length xs → cond (not b) (1 + position_or_len p xs) 0 ≤ length (x ∷ xs)
      go true l = omega arith
      go false l = omega (arith, l)

one_of : {X : Type 0} {x y : X} → Some x ≡ Some y → x ≡ y
one_of e = cc

not_some : {X : Type 0} {x : X} → None ≡ Some x → ⊥
not_some e = cc

pub position_some : {X : Type 0} (p : X → Bool) (xs : List X) (k : ℕ) → position p xs ≡ Some k → (k ≡ position_or_len p xs) × (k < length xs)
position_some p xs k e = go (nat_lt (position_or_len p xs) (length xs)) refl e
  where
    go : (b : Bool) → nat_lt (position_or_len p xs) (length xs) ≡ b → cond b (Some (position_or_len p xs)) None ≡ Some k → (k ≡ position_or_len p xs) × (k < length xs)
    go true t e = let same : position_or_len p xs ≡ k = one_of e in (sym same, grind (arith, nat_tests, t, same))
    go false t e = absurd (not_some e)

pub position_none : {X : Type 0} (p : X → Bool) (xs : List X) → position p xs ≡ None → length xs ≤ position_or_len p xs
position_none p xs e = go (nat_lt (position_or_len p xs) (length xs)) refl e
  where
    go : (b : Bool) → nat_lt (position_or_len p xs) (length xs) ≡ b → cond b (Some (position_or_len p xs)) None ≡ None → length xs ≤ position_or_len p xs
    go true t e = absurd (not_some (sym e))
    go false t e = grind (arith, nat_tests, t)

pub position_map : {X Y : Type 0} (f : X → Y) (p : Y → Bool) (xs : List X) → position_or_len p (map f xs) ≡ position_or_len (λ x. p (f x)) xs
position_map f p [] = refl
position_map f p (x ∷ xs) = ap (λ n. cond (not (p (f x))) (1 + n) 0) (position_map f p xs)

pub any_last : {X : Type 0} (p : X → Bool) (xs : List X) (x : X) → list_any p (xs ++ x ∷ []) ≡ (list_any p xs || p x)
any_last p [] x = last (p x)
  where
    last : (b : Bool) → (b || false) ≡ b
    last true = refl
    last false = refl
any_last p (y ∷ xs) x = ap (λ b. p y || b) (any_last p xs x) ∙ joined (p y) (list_any p xs) (p x)
  where
    joined : (a b c : Bool) → (a || (b || c)) ≡ ((a || b) || c)
    joined true b c = refl
    joined false b c = refl

-- a list of the same length in place of another
pub refill_all : {X : Type 0} (xs ws : List X) → length ws ≡ length xs → refill (length xs) xs ws ≡ ws
refill_all xs ws e = ap (λ n. take (length xs) (ws ++ drop n xs)) e ∙ ap (λ l. take (length xs) (ws ++ l)) (none xs) ∙ ap (take (length xs)) (append-nil ws) ∙ take_all (length xs) ws (omega (arith, e))
  where
    none : {X : Type 0} (xs : List X) → drop (length xs) xs ≡ []
    none [] = refl
    none (x ∷ xs) = none xs

pub with_items_all : {X Z : Type 0} (v : Vec X Z) (ws : List X) → length ws ≡ length v.items → (with_items v ws).items ≡ ws
with_items_all v ws e = ap (λ n. take n (ws ++ drop (length ws) v.items)) v.ok.0 ∙ refill_all v.items ws e

-- ---- numbers

less_not : (m n : ℕ) → m < n → eqb m n ≡ false
less_not m n l = grind (arith, nat_tests)

same_yes : (m n : ℕ) → m ≡ n → eqb m n ≡ true
same_yes m n e = grind (arith, nat_tests)

pub point_known : (ps : List Point) (p : Point) → number_of ps p < length ps → with_point ps p ≡ ps
point_known ps p l = ap (λ b. cond b ps (ps ++ p ∷ [])) (some_passes (same_point p) ps l)

pub point_new : (ps : List Point) (p : Point) → IsWithoutNumber ps p → with_point ps p ≡ ps ++ p ∷ []
point_new ps p l = ap (λ b. cond b ps (ps ++ p ∷ [])) (none_passes (same_point p) ps l)

pub number_stays : (ps : List Point) (p q : Point) (number : ℕ) → IsNumberOf ps p number → IsNumberOf (ps ++ q ∷ []) p number
number_stays ps p q number is = (
  is.0 ∙ sym (position_or_len_push (same_point p) ps q
      ∙ ap (λ b. cond b (length ps + cond (same_point p q) 0 1) (number_of ps p)) (less_not (number_of ps p) (length ps) (subst (λ k. k < length ps) is.0 is.1))),
  omega (arith, is.1, length-append ps (q ∷ [])),
)

pub number_new : (ps : List Point) (p : Point) (number : ℕ) → number ≡ number_of ps p → IsWithoutNumber ps p → IsNumberOf (ps ++ p ∷ []) p number
number_new ps p number is l =
    let all : number_of ps p ≡ length ps = omega (arith, l, within_length (same_point p) ps) in (
      is ∙ all ∙ sym (position_or_len_push (same_point p) ps p
          ∙ ap (λ b. cond b (length ps + cond (same_point p p) 0 1) (number_of ps p)) (same_yes (number_of ps p) (length ps) all)
          ∙ ap (λ b. length ps + cond b 0 1) (point_itself p) ∙ omega arith),
      omega (arith, is, all, length-append ps (p ∷ [])),
    )

-- ---- marks

abbrev is_at : Node → Visited → Bool
is_at n v = same_point n.at v.site.at

all_off : (ms : List ℕ) (k : ℕ) → All (λ m. m ≡ 0) ms → get_or ms k 0 ≡ 0
all_off [] k h = refl
all_off (m ∷ ms) zero h = All-head (λ m. m ≡ 0) m ms h
all_off (m ∷ ms) (suc k) h = all_off ms k (All-tail (λ m. m ≡ 0) m ms h)

pub marked_more : (vs : List Visited) (v : Visited) → All (λ m. m ≡ 0) v.marks → (n : Node) → mark_at (vs ++ v ∷ []) n ≡ mark_at vs n
marked_more vs v off n =
    ap (λ o. option_map_or (mark_of n.port) o 0) (find-append (is_at n) vs (v ∷ [])) ∙ go (find (is_at n) vs)
  where
    last : (b : Bool) → option_map_or (mark_of n.port) (cond b (Some v) None) 0 ≡ 0
    last true = all_off v.marks (place_in (star_of v.site) n.port) off
    last false = refl

    go : (o : Option Visited) → option_map_or (mark_of n.port) (option_or o (find (is_at n) (v ∷ []))) 0 ≡ option_map_or (mark_of n.port) o 0
    go (Some w) = refl
    go None = last (is_at n v)

pub marked_at : (vs : List Visited) (n : Node) (v : Visited) → slice_get vs (position_or_len (is_at n) vs) ≡ Some v → mark_at vs n ≡ mark_of n.port v
marked_at vs n v e = ap (λ o. option_map_or (mark_of n.port) o 0) (find_at (is_at n) vs ∙ e)

-- ports whose first entries have one place are the same
same_place : (spots : List Spot) (q r : Port) (j : ℕ) → j < length spots → j ≡ position_or_len (λ (s : Spot). same_port s.port q) spots → j ≡ position_or_len (λ (s : Spot). same_port s.port r) spots → q ≡ r
same_place spots q r j l e f =
    let a = first_passes (λ (s : Spot). same_port s.port q) spots (subst (λ k. k < length spots) e l) in
    let b = first_passes (λ (s : Spot). same_port s.port r) spots (subst (λ k. k < length spots) f l) in
    let one : Some a.0 ≡ Some b.0 = sym a.1 ∙ ap (slice_get spots) (sym e ∙ f) ∙ b.1 in
    let same : a.0 ≡ b.0 = one_of one in
    sym (port_same (a.0).port q a.2) ∙ ap (λ (s : Spot). s.port) same ∙ port_same (b.0).port r b.2

-- one mark more is one marked node more
pub marked_set : (vs : List Visited) (n : Node) (k : ℕ) (v w : Visited) → k ≡ position_or_len (is_at n) vs → slice_get vs k ≡ Some v → w.site ≡ v.site
    → (j : ℕ) → j ≡ place_in (star_of v.site) n.port → j < length (star_of v.site).spots → length v.marks ≡ length (star_of v.site).spots
    → (x : ℕ) → w.marks ≡ set v.marks j x → (m : Node) → mark_at (set vs k w) m ≡ cond (same_node m n) x (mark_at vs m)
marked_set vs n k v w at is site j place inside count x marks m = by_point (same_point m.at n.at) refl
  where
    here : is_at n v ≡ true
    here =
        let r = first_passes (is_at n) vs (subst (λ i. i < length vs) at (slice_get_within vs k v is)) in
        let one : Some v ≡ Some r.0 = sym is ∙ ap (slice_get vs) at ∙ r.1 in
        subst (λ x. is_at n x ≡ true) (sym (one_of one)) r.2

    point : n.at ≡ v.site.at
    point = point_same n.at v.site.at here

    by_port : m.at ≡ n.at → (b : Bool) → same_port m.port n.port ≡ b → mark_of m.port w ≡ cond (b && same_point m.at n.at) x (mark_of m.port v)
    by_port same true e =
        let q : m.port ≡ n.port = port_same m.port n.port e in
        (λ i. get_or (marks i) (place_in (star_of (site i)) (q i)) 0)
        ∙ ap (λ i. get_or (set v.marks j x) i 0) (sym place)
        ∙ get_or-set_same v.marks j x 0 (omega (arith, inside, count))
        ∙ sym (ap (λ b. cond b x (mark_of m.port v)) (ap (λ p. same_point p n.at) same ∙ point_itself n.at))
    by_port same false e =
        (λ i. get_or (marks i) (place_in (star_of (site i)) m.port) 0)
        ∙ get_or-set_other v.marks j (place_in (star_of v.site) m.port) x 0
        (λ f. true≢false (sym (port_itself n.port) ∙ ap (λ q. same_port q n.port) (same_place (star_of v.site).spots n.port m.port j inside place (sym f)) ∙ e))

    by_point : (b : Bool) → same_point m.at n.at ≡ b → mark_at (set vs k w) m ≡ cond (same_port m.port n.port && same_point m.at n.at) x (mark_at vs m)
    by_point true e =
        let p : m.at ≡ n.at = point_same m.at n.at e in
        let at_m : k ≡ position_or_len (is_at m) vs = at ∙ ap (λ q. position_or_len (λ (y : Visited). same_point q y.site.at) vs) (sym p) in
        let here_m : is_at m w ≡ true = (λ i. same_point (p i) (site i).at) ∙ here in
        ap (λ o. option_map_or (mark_of m.port) o 0) (find-set (is_at m) vs k w at_m (slice_get_within vs k v is) here_m)
        ∙ by_port p (same_port m.port n.port) refl
        ∙ ap (cond (same_port m.port n.port && same_point m.at n.at) x) (sym (marked_at vs m v (ap (slice_get vs) (sym at_m) ∙ is)))
    by_point false e =
        let away : is_at m v ≡ false = ap (same_point m.at) (sym point) ∙ e in
        ap (λ o. option_map_or (mark_of m.port) o 0)
        (find_past (is_at m) vs k w v (ap (is_at m) (get_or_from_slice_get vs k v v is) ∙ away) (ap (λ s. same_point m.at s.at) site ∙ away))
        ∙ sym (ap (λ b. cond b x (mark_at vs m)) (ap (λ b. same_port m.port n.port && b) e ∙ and_false (same_port m.port n.port)))
      where
        and_false : (b : Bool) → (b && false) ≡ false
        and_false true = refl
        and_false false = refl
