-- Places of nodes in order, and what a binary search finds among them.
use Rattle.std.proofs.Common.{◌≡◌, ◌↔◌, ℕ, zero, suc, ◌<◌, List, [], ◌∷◌, length, get_or, Some, None, Result, Ok, Err, inl, inr, refl, sym, ap, subst, subst₂, ◌∙◌, arith}
use Rattle.std.specs.Prelude.{Contains}
use Rattle.std.specs.Result.{result_ok}
use Rattle.std.specs.declared.cmp.Ordering.{Ordering}
use Rattle.std.specs.declared.cmp.Ordering.TheVariants.{Less, Equal, Greater}
use Rattle.std.specs.Ordering.{is_lt, ordering_then, ordering_reverse, nat_cmp, int_cmp}
use Rattle.std.specs.List.Sorted.{IsStrictlySortedBy, IsSortedBy, IsBinarySearchResult, IsSearchInRange}
use Rattle.std.proofs.lemmas.Bool.{cases_lt}
use Rattle.std.proofs.lemmas.Cmp.{tied_itself}
use Rattle.std.proofs.lemmas.List.Sorted.{searchable_from_sorted}
use Rattle.std.proofs.lemmas.Map.Keys.{Less-from_sorted}
use Rattle.std.proofs.lemmas.Option.{slice_get-get_or, get_or_from_slice_get, slice_get_within}
use native.Mathlib.Numerals.{unary_clauses}
use Rattle.un_defs.specs.contracts.port.NodeOrd.TheImpl as by_node
use Rattle.un_defs.specs.declared.port.Node.{Node}
use Rattle.un_defs.specs.Orders.{node_cmp}
use Rattle.un_defs.proofs.LinkCases.{some_same}
use Rattle.un_defs.proofs.OrderLaws.{node_total, node_ties}
use Rattle.un_diagram.specs.Places.{IsAt}

-- ---- the order that the code compares by is that of the definitions

at_end : (k : Ordering) → k ≡ ordering_then k Equal
at_end Less = refl
at_end Equal = refl
at_end Greater = refl

node_alike : (n m : Node) → by_node.ghosts.cmp n m ≡ node_cmp n m
node_alike n m = λ i. ordering_then
    (ordering_then (nat_cmp n.port.feature m.port.feature) (at_end (nat_cmp n.port.number m.port.number) i))
    (ordering_then (int_cmp n.at.x m.at.x) (ordering_then (int_cmp n.at.y m.at.y) (at_end (int_cmp n.at.z m.at.z) i)))

pub nodes_alike : by_node.ghosts.cmp ≡ node_cmp
nodes_alike = λ i n m. node_alike n m i

-- ---- places

adjacent : (nodes : List Node) → IsStrictlySortedBy node_cmp nodes → IsSortedBy (λ a b. is_lt (node_cmp a b)) nodes
unfolding IsStrictlySortedBy
adjacent [] s k d low high = absurd (omega arith)
adjacent (x ∷ []) s k d low high = absurd (omega arith)
adjacent (x ∷ y ∷ l) s zero d low high = ap is_lt (node_total.antisymm y x ∙ ap ordering_reverse s.0.0)
adjacent (x ∷ y ∷ l) s (suc k) d low high =
    let h = simp unary_clauses at (adjacent (y ∷ l) s.1 k d (omega arith) (omega arith)) in
    simp unary_clauses h

get_or_any : (nodes : List Node) (i : ℕ) → i < length nodes → (n : Node) × (n ≡ get_or nodes i n)
get_or_any [] i h = absurd (omega arith)
get_or_any (y ∷ l) zero h = (y, refl)
get_or_any (y ∷ l) (suc i) h = get_or_any l i (omega arith)

-- what stands at a place is among the nodes, and each of the nodes has a place
pub contains_at : (nodes : List Node) (i : ℕ) (n : Node) → IsAt nodes i n → Contains nodes n
contains_at nodes i n at = (i, slice_get_within nodes i n at, get_or_from_slice_get nodes i n n at)

pub place_from : (nodes : List Node) (n : Node) → Contains nodes n → (i : ℕ) × IsAt nodes i n
place_from nodes n h = (h.0, slice_get-get_or nodes h.0 n h.1 ∙ ap Some h.2)

module _ (nodes : List Node) (sorted : IsStrictlySortedBy node_cmp nodes) where
  -- the nodes rise
  pub less_at : (i j : ℕ) (n m : Node) → i < j → IsAt nodes i n → IsAt nodes j m → node_cmp n m ≡ Less
  less_at i j n m low at_i at_j =
      let less = Less-from_sorted node_cmp nodes i j n sorted low (slice_get_within nodes j m at_j) in
      let here : get_or nodes i n ≡ n = get_or_from_slice_get nodes i n n at_i in
      let there : get_or nodes j n ≡ m = get_or_from_slice_get nodes j m n at_j in
      subst₂ (λ x y. node_cmp x y ≡ Less) here there less

  apart : (i j : ℕ) (n : Node) → i < j → IsAt nodes i n → IsAt nodes j n → ⊥
  apart i j n low at_i at_j = let clash : Less ≡ Equal = sym (less_at i j n n low at_i at_j) ∙ tied_itself node_total n in cc

  -- a node has one place
  pub one_place : (n : Node) (i j : ℕ) → IsAt nodes i n → IsAt nodes j n → i ≡ j
  one_place n i j at_i at_j = elim (cases_lt i j) [
    | inl low ↦ absurd (apart i j n low at_i at_j)
    | inr rest ↦ elim (cases_lt j i) [
      | inl low ↦ absurd (apart j i n low at_j at_i)
      | inr last ↦ omega arith
    ]
  ]

  -- a binary search ends at the node's place, if it has one
  pub place_is : (n : Node) (r : Result ℕ ℕ) → IsSearchInRange r (length nodes) → IsBinarySearchResult (λ m. node_cmp m n) nodes r
      → (p : ℕ) → (result_ok r ≡ Some p) ↔ IsAt nodes p n
  place_is n (Ok i) range result p =
      let m = get_or_any nodes i range in
      let e : node_cmp m.0 n ≡ Equal = subst (λ w. node_cmp w n ≡ Equal) (sym m.1) (result m.0) in
      let here : IsAt nodes i n = slice_get-get_or nodes i m.0 range ∙ ap Some (sym m.1 ∙ node_ties m.0 n e) in
      (λ same. subst (λ q. IsAt nodes q n) (some_same i p same) here, λ there. ap Some (one_place n i p here there))
  place_is n (Err i) range result p = (
    λ none. (let clash : None ≡ Some p = none in absurd (cc)),
    λ at.
        let parts = result (searchable_from_sorted node_total (λ (x : Node). x) nodes n (adjacent nodes sorted)) in
        let here : get_or nodes p n ≡ n = get_or_from_slice_get nodes p n n at in
        let equal : node_cmp n n ≡ Equal = tied_itself node_total n in
        elim (cases_lt p i) [
          | inl low ↦
              let less : node_cmp n n ≡ Less = subst (λ q. node_cmp q n ≡ Less) here (parts.0 p n (omega arith) low) in
              let clash : Less ≡ Equal = sym less ∙ equal in absurd (cc)
          | inr high ↦
              let greater : node_cmp n n ≡ Greater = subst (λ q. node_cmp q n ≡ Greater) here (parts.1 p n (omega arith) (slice_get_within nodes p n at)) in
              let clash : Greater ≡ Equal = sym greater ∙ equal in absurd (cc)
        ],
  )
