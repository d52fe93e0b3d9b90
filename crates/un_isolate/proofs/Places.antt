-- Lists by places, and marks on the elements of a list.
use Rattle.std.proofs.Common.{◌≡◌, ℕ, zero, suc, Bool, true, false, ◌&&◌, cond, List, [], ◌∷◌, map, filter, length, get_or, Some, None, inl, inr, refl, sym, ap, subst, ◌∙◌, Ordering, Less, Equal, Greater, arith, true≢false}
use Rattle.std.specs.Prelude.{slice_get}
use Rattle.std.specs.Ordering.{ordering_then, is_le}
use Rattle.un_geom.specs.Places.{point_cmp}
use Rattle.std.specs.List.{AllByRecursion}
use Rattle.std.specs.List.Sorted.{IsStrictlySortedBy}
use Rattle.std.proofs.lemmas.Cmp.{tied_itself}
use Rattle.un_defs.specs.declared.port.Node.{Node}
use Rattle.un_defs.specs.Orders.{port_cmp, node_cmp}
use Rattle.un_defs.proofs.Rising.{Among}
use Rattle.un_defs.proofs.OrderLaws.{port_total, node_total}
use Rattle.un_isolate.specs.Marks.{both_marks, marked_nodes}
use Rattle.un_isolate.proofs.Least.{all_among}

pub bool_same : (a b : Bool) → (a ≡ true → b ≡ true) → (b ≡ true → a ≡ true) → a ≡ b
bool_same true b f g = sym (f refl)
bool_same false true f g = g refl
bool_same false false f g = refl

some_is : {A : Type 0} (x y : A) → Some x ≡ Some y → x ≡ y
some_is x y e = cc

none_some : {A : Type 0} (x : A) → None ≡ Some x → ⊥
none_some x e = cc

module _ {A : Type 0} where
  pub place_of_among : (xs : List A) (x : A) → Among xs x → (i : ℕ) × (slice_get xs i ≡ Some x)
  place_of_among [] x h = absurd h
  place_of_among (y ∷ xs) x h = elim h [
    | inl e ↦ (zero, ap Some e)
    | inr g ↦ let r = place_of_among xs x g in (suc r.0, r.1)
  ]

  pub among_place : (xs : List A) (i : ℕ) (x : A) → slice_get xs i ≡ Some x → Among xs x
  among_place [] i x e = absurd (none_some x e)
  among_place (y ∷ xs) zero x e = inl (some_is y x e)
  among_place (y ∷ xs) (suc i) x e = inr (among_place xs i x e)

  module _ (f : A → Bool) where
    -- the mark on the place of an element
    pub mark_map : (xs : List A) (i : ℕ) (x : A) → slice_get xs i ≡ Some x → get_or (map f xs) i false ≡ f x
    mark_map [] i x e = absurd (none_some x e)
    mark_map (y ∷ xs) zero x e = ap f (some_is y x e)
    mark_map (y ∷ xs) (suc i) x e = mark_map xs i x e

    pub from_mark : (xs : List A) (i : ℕ) → get_or (map f xs) i false ≡ true → (x : A) × (slice_get xs i ≡ Some x) × (f x ≡ true)
    from_mark [] i e = absurd (true≢false (sym e))
    from_mark (y ∷ xs) zero e = (y, refl, e)
    from_mark (y ∷ xs) (suc i) e = from_mark xs i e

    pub marks_by_place : (xs : List A) (marks : List Bool) → length marks ≡ length xs → ((i : ℕ) (x : A) → slice_get xs i ≡ Some x → get_or marks i false ≡ f x) → marks ≡ map f xs
    marks_by_place [] [] count at = refl
    marks_by_place [] (m ∷ marks) count at = absurd (omega (arith, count))
    marks_by_place (x ∷ xs) [] count at = absurd (omega (arith, count))
    marks_by_place (x ∷ xs) (m ∷ marks) count at =
        let rest = marks_by_place xs marks (omega (arith, count)) (λ i y e. at (suc i) y e) in
        λ i. at zero x refl i ∷ rest i

    -- tests that agree make the same marks
    pub map-agree : (g : A → Bool) (xs : List A) → ((x : A) → Among xs x → f x ≡ g x) → map f xs ≡ map g xs
    map-agree g [] agree = refl
    map-agree g (x ∷ xs) agree = λ i. agree x (inl refl) i ∷ map-agree g xs (λ y h. agree y (inr h)) i

    pub both-map : (g : A → Bool) (xs : List A) → both_marks (map f xs) (map g xs) ≡ map (λ x. f x && g x) xs
    both-map g [] = refl
    both-map g (x ∷ xs) = ap (λ l. (f x && g x) ∷ l) (both-map g xs)

pub both_count : (a b : List Bool) → length a ≡ length b → length (both_marks a b) ≡ length b
both_count [] [] e = refl
both_count [] (y ∷ b) e = absurd (omega (arith, e))
both_count (x ∷ a) [] e = absurd (omega (arith, e))
both_count (x ∷ a) (y ∷ b) e = ap suc (both_count a b (omega (arith, e)))

-- ---- nodes

pub marked-map : (f : Node → Bool) (ns : List Node) → marked_nodes ns (map f ns) ≡ filter f ns
marked-map f [] = refl
marked-map f (n ∷ ns) =
    let rest = marked-map f ns in
    elim (f n) as (λ b. marked_nodes (n ∷ ns) (b ∷ map f ns) ≡ cond b (n ∷ filter f ns) (filter f ns)) [
      | true ↦ ap (λ l. n ∷ l) rest
      | false ↦ rest
    ]

all_marked : (P : Node → Type 0) (ns : List Node) (marks : List Bool) → AllByRecursion P ns → AllByRecursion P (marked_nodes ns marks)
all_marked P [] marks h = tt
all_marked P (n ∷ ns) [] h = tt
all_marked P (n ∷ ns) (true ∷ marks) h = (h.0, all_marked P ns marks h.1)
all_marked P (n ∷ ns) (false ∷ marks) h = all_marked P ns marks h.1

-- what is marked of nodes in order is in order
pub marked_sorted : (ns : List Node) (marks : List Bool) → IsStrictlySortedBy node_cmp ns → IsStrictlySortedBy node_cmp (marked_nodes ns marks)
unfolding IsStrictlySortedBy
marked_sorted [] marks h = tt
marked_sorted (n ∷ ns) [] h = tt
marked_sorted (n ∷ ns) (true ∷ marks) h = (all_marked (λ m. node_cmp n m ≡ Less) ns marks h.0, marked_sorted ns marks h.1)
marked_sorted (n ∷ ns) (false ∷ marks) h = marked_sorted ns marks h.1

not_after_itself : (n : Node) → node_cmp n n ≡ Less → ⊥
not_after_itself n e = let same : node_cmp n n ≡ Equal = tied_itself node_total n in let clash : Less ≡ Equal = sym e ∙ same in cc

-- a node of a list in order has one place
pub one_place : (ns : List Node) → IsStrictlySortedBy node_cmp ns → (n : Node) (i j : ℕ) → slice_get ns i ≡ Some n → slice_get ns j ≡ Some n → i ≡ j
unfolding IsStrictlySortedBy
one_place [] sorted n i j e f = absurd (none_some n e)
one_place (m ∷ ns) sorted n zero zero e f = refl
one_place (m ∷ ns) sorted n zero (suc j) e f =
    absurd (not_after_itself n (subst (λ k. node_cmp k n ≡ Less) (some_is m n e) (all_among (λ k. node_cmp m k ≡ Less) ns sorted.0 n (among_place ns j n f))))
one_place (m ∷ ns) sorted n (suc i) zero e f =
    absurd (not_after_itself n (subst (λ k. node_cmp k n ≡ Less) (some_is m n f) (all_among (λ k. node_cmp m k ≡ Less) ns sorted.0 n (among_place ns i n e))))
one_place (m ∷ ns) sorted n (suc i) (suc j) e f = ap suc (one_place ns sorted.1 n i j e f)

-- the first of some nodes in order has the least port
pub first_le : (ns : List Node) → IsStrictlySortedBy node_cmp ns → (n m : Node) → slice_get ns 0 ≡ Some n → Among ns m → is_le (port_cmp n.port m.port) ≡ true
unfolding IsStrictlySortedBy
first_le [] sorted n m e h = absurd h
first_le (k ∷ ns) sorted n m e h = subst (λ x. is_le (port_cmp x.port m.port) ≡ true) (some_is k n e) (elim h [
  | inl same ↦ ap is_le (subst (λ x. port_cmp k.port x.port ≡ Equal) same (tied_itself port_total k.port))
  | inr later ↦ go (port_cmp k.port m.port) refl (all_among (λ x. node_cmp k x ≡ Less) ns sorted.0 m later)
])
  where
    go : (o : Ordering) → port_cmp k.port m.port ≡ o → ordering_then o (point_cmp k.at m.at) ≡ Less → is_le o ≡ true
    go Less is f = refl
    go Equal is f = refl
    go Greater is f = let clash : Greater ≡ Less = f in cc

pub none_at : {A : Type 0} (xs : List A) → slice_get xs 0 ≡ None → (x : A) → Among xs x → ⊥
none_at [] e x h = h
none_at (y ∷ xs) e x h = none_some y (sym e)
