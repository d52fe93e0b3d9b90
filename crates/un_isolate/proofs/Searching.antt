-- What a binary search finds among nodes in order, and where a link leads.
use Rattle.std.proofs.Common.{◌≡◌, ◌↔◌, ℕ, true, false, not, zero, suc, ◌<◌, List, [], ◌∷◌, ◌++◌, length, get_or, Option, Some, None, Result, Ok, Err, inl, inr, refl, sym, ap, subst, ◌∙◌, arith, true≢false}
use Rattle.std.specs.Prelude.{slice_get, Contains}
use Rattle.std.specs.Option.{option_map}
use Rattle.std.specs.Result.{result_ok}
use Rattle.std.specs.declared.cmp.Ordering.TheVariants.{Less, Equal, Greater}
use Rattle.std.specs.Ordering.{is_lt, ordering_reverse}
use Rattle.std.specs.List.{list_any}
use Rattle.std.specs.List.Sorted.{IsStrictlySortedBy, IsSortedBy, IsBinarySearchResult, IsSearchInRange}
use Rattle.std.proofs.lemmas.Bool.{cases_lt}
use Rattle.std.proofs.lemmas.Cmp.{tied_itself}
use Rattle.std.proofs.lemmas.List.Elements.{Contains-append_left, Contains-push, Contains-push_cases}
use Rattle.std.proofs.lemmas.List.Sorted.{searchable_from_sorted}
use Rattle.std.proofs.lemmas.Option.{slice_get-get_or, get_or_from_slice_get, slice_get_within, slice_get-map}
use native.Mathlib.Numerals.{unary_clauses}
use Rattle.un_defs.specs.declared.port.Node.{Node}
use Rattle.un_defs.specs.declared.link.Tie.{Tie}
use Rattle.un_defs.specs.declared.walk.Barriers.{Barriers}
use Rattle.un_defs.specs.Orders.{node_cmp, same_node}
use Rattle.un_defs.proofs.LinkCases.{both_true, true_both}
use Rattle.un_defs.proofs.Members.{among_from_contains, contains_from_among, among_from_list_any, list_any_from_among}
use Rattle.un_defs.proofs.OrderLaws.{node_total, node_ties}
use Rattle.un_defs.proofs.Unique.{node_same, node_itself}
use Rattle.un_walk.specs.declared.seen.Seen.{Seen}
use Rattle.un_isolate.specs.Entries.{nodes_of, is_barrier_by, ties_by, is_shut_by, goes_to, IsPlaceOf, IsEndOf, IsNextOf}
use Rattle.un_isolate.proofs.Places.{one_place}

adjacent : (nodes : List Seen) → IsStrictlySortedBy node_cmp (nodes_of nodes) → IsSortedBy (λ a b. is_lt (node_cmp a.node b.node)) nodes
unfolding IsStrictlySortedBy
adjacent [] s k d low high = absurd (omega arith)
adjacent (x ∷ []) s k d low high = absurd (omega arith)
adjacent (x ∷ y ∷ l) s zero d low high = ap is_lt (node_total.antisymm y.node x.node ∙ ap ordering_reverse s.0.0)
adjacent (x ∷ y ∷ l) s (suc k) d low high =
    let h = simp unary_clauses at (adjacent (y ∷ l) s.1 k d (omega arith) (omega arith)) in
    simp unary_clauses h

get_or_any : (nodes : List Seen) (i : ℕ) → i < length nodes → (v : Seen) × (v ≡ get_or nodes i v)
get_or_any [] i h = absurd (omega arith)
get_or_any (y ∷ l) zero h = (y, refl)
get_or_any (y ∷ l) (suc i) h = get_or_any l i (omega arith)

some_is : {A : Type 0} (x y : A) → Some x ≡ Some y → x ≡ y
some_is x y e = cc

none_some : {A : Type 0} (x : A) → None ≡ Some x → ⊥
none_some x e = cc

module _ (nodes : List Seen) (sorted : IsStrictlySortedBy node_cmp (nodes_of nodes)) where
  node_at : (n : Node) (p : ℕ) → IsPlaceOf nodes n p → slice_get (nodes_of nodes) p ≡ Some n
  node_at n p (v, at, is) = slice_get-map (λ (x : Seen). x.node) nodes p ∙ ap (option_map (λ (x : Seen). x.node)) at ∙ ap Some is

  one_place_of : (n : Node) (i j : ℕ) → IsPlaceOf nodes n i → IsPlaceOf nodes n j → i ≡ j
  one_place_of n i j h g = one_place (nodes_of nodes) sorted n i j (node_at n i h) (node_at n j g)

  -- a binary search ends at the node's place, if it has one
  pub place_is : (n : Node) (r : Result ℕ ℕ) → IsSearchInRange r (length nodes) → IsBinarySearchResult (λ v. node_cmp v.node n) nodes r
      → (p : ℕ) → (result_ok r ≡ Some p) ↔ IsPlaceOf nodes n p
  place_is n (Ok i) range result p =
      let v = get_or_any nodes i range in
      let e : node_cmp v.0.node n ≡ Equal = subst (λ w. node_cmp w.node n ≡ Equal) (sym v.1) (result v.0) in
      let here : IsPlaceOf nodes n i = (v.0, slice_get-get_or nodes i v.0 range ∙ ap Some (sym v.1), node_ties v.0.node n e) in
      (λ same. subst (IsPlaceOf nodes n) (some_is i p same) here, λ there. ap Some (one_place_of n i p here there))
  place_is n (Err i) range result p = (
    λ none. absurd (none_some p none),
    λ (v, at, is).
        let parts = result (searchable_from_sorted node_total (λ (x : Seen). x.node) nodes n (adjacent nodes sorted)) in
        let here : get_or nodes p v ≡ v = get_or_from_slice_get nodes p v v at in
        let equal : node_cmp v.node n ≡ Equal = ap (λ m. node_cmp m n) is ∙ tied_itself node_total n in
        elim (cases_lt p i) [
          | inl low ↦
              let less : node_cmp v.node n ≡ Less = subst (λ q. node_cmp q.node n ≡ Less) here (parts.0 p v (omega arith) low) in
              let clash : Less ≡ Equal = sym less ∙ equal in absurd (cc)
          | inr high ↦
              let greater : node_cmp v.node n ≡ Greater = subst (λ q. node_cmp q.node n ≡ Greater) here (parts.1 p v (omega arith) (slice_get_within nodes p v at)) in
              let clash : Greater ≡ Equal = sym greater ∙ equal in absurd (cc)
        ],
  )

  -- ---- where a link leads

  module _ (tier : Option ℕ) (v : Seen) (t : Tie) where
    place_of_end : (p : ℕ) → IsEndOf tier nodes v t p → IsPlaceOf nodes t.to p
    place_of_end p (w, at, goes) = (w, at, sym (node_same t.to w.node (both_true (same_node t.to w.node) (not (is_shut_by tier t.name v w)) goes).0))

    pub end_missing : ((p : ℕ) → (None ≡ Some p) ↔ IsPlaceOf nodes t.to p) → (p : ℕ) → (None ≡ Some p) ↔ IsEndOf tier nodes v t p
    end_missing none p = (λ e. absurd (none_some p e), λ end. (none p).1 (place_of_end p end))

    module _ (end : ℕ) (w : Seen) (at : slice_get nodes end ≡ Some w) (here : IsPlaceOf nodes t.to end) where
      pub end_shut : is_shut_by tier t.name v w ≡ true → (p : ℕ) → (None ≡ Some p) ↔ IsEndOf tier nodes v t p
      end_shut shut p = (
        λ e. absurd (none_some p e),
        λ (x, at_x, goes).
            let same : end ≡ p = one_place_of t.to end p here (place_of_end p (x, at_x, goes)) in
            let is : w ≡ x = some_is w x (sym at ∙ ap (slice_get nodes) same ∙ at_x) in
            let opened = (both_true (same_node t.to x.node) (not (is_shut_by tier t.name v x)) goes).1 in
            absurd (true≢false (sym opened ∙ ap (λ y. not (is_shut_by tier t.name v y)) (sym is) ∙ ap not shut)),
      )

      pub end_open : is_shut_by tier t.name v w ≡ false → (p : ℕ) → (Some end ≡ Some p) ↔ IsEndOf tier nodes v t p
      end_open opened p = (
        λ same. subst (IsEndOf tier nodes v t) (some_is end p same) (w, at, true_both (same_node t.to w.node) (not (is_shut_by tier t.name v w)) (same_here here) (ap not opened)),
        λ there. ap Some (one_place_of t.to end p here (place_of_end p there)),
      )
        where
          same_here : IsPlaceOf nodes t.to end → same_node t.to w.node ≡ true
          same_here (x, at_x, is) =
              let same : x ≡ w = some_is x w (sym at_x ∙ at) in
              subst (λ m. same_node t.to m ≡ true) (sym is ∙ ap (λ (y : Seen). y.node) same) (node_itself t.to)

  -- ---- where links lead

  abbrev pub AreEndsOf : Option ℕ → Seen → List Tie → List ℕ → Type 0
  AreEndsOf tier v ties ends = (p : ℕ) → Contains ends p ↔ ((t : Tie) × Contains ties t × IsEndOf tier nodes v t p)

  pub ends_with : (tier : Option ℕ) (v : Seen) (ties : List Tie) (ends : List ℕ) (t : Tie) (e : ℕ) → AreEndsOf tier v ties ends → ((p : ℕ) → (Some e ≡ Some p) ↔ IsEndOf tier nodes v t p)
      → AreEndsOf tier v (ties ++ t ∷ []) (ends ++ e ∷ [])
  ends_with tier v ties ends t e so_far next p = (
    λ has. elim (Contains-push_cases ends e p has) [
      | inl before ↦ let old = (so_far p).0 before in (old.0, Contains-append_left ties (t ∷ []) old.0 old.1, old.2)
      | inr same ↦ (t, Contains-push ties t, (next p).0 (ap Some same))
    ],
    λ (s, stands, end). elim (Contains-push_cases ties t s stands) [
      | inl before ↦ Contains-append_left ends (e ∷ []) p ((so_far p).1 (s, before, end))
      | inr same ↦
          let is : e ≡ p = some_is e p ((next p).1 (subst (λ (x : Tie). IsEndOf tier nodes v x p) (sym same) end)) in
          subst (Contains (ends ++ e ∷ [])) is (Contains-push ends e)
    ],
  )

  pub ends_without : (tier : Option ℕ) (v : Seen) (ties : List Tie) (ends : List ℕ) (t : Tie) → AreEndsOf tier v ties ends → ((p : ℕ) → (None ≡ Some p) ↔ IsEndOf tier nodes v t p)
      → AreEndsOf tier v (ties ++ t ∷ []) ends
  ends_without tier v ties ends t so_far next p = (
    λ has. let old = (so_far p).0 has in (old.0, Contains-append_left ties (t ∷ []) old.0 old.1, old.2),
    λ (s, stands, end). elim (Contains-push_cases ties t s stands) [
      | inl before ↦ (so_far p).1 (s, before, end)
      | inr same ↦ absurd (none_some p ((next p).1 (subst (λ (x : Tie). IsEndOf tier nodes v x p) (sym same) end)))
    ],
  )

  pub ends_done : (B : Barriers) (v : Seen) (ends : List ℕ) → is_barrier_by B v ≡ false → AreEndsOf B.tier v (ties_by v) ends → (p : ℕ) → Contains ends p ↔ IsNextOf B nodes v p
  ends_done B v ends opened all p = (
    λ has.
        let (t, stands, (w, at, goes)) = (all p).0 has in (
          w,
          at,
          true_both (not (is_barrier_by B v)) (list_any (goes_to B.tier v w) (ties_by v)) (ap not opened)
              (list_any_from_among (goes_to B.tier v w) (ties_by v) t (among_from_contains (ties_by v) t stands) goes),
        ),
    λ (w, at, leads).
        let t = among_from_list_any (goes_to B.tier v w) (ties_by v) (both_true (not (is_barrier_by B v)) (list_any (goes_to B.tier v w) (ties_by v)) leads).1 in
        (all p).1 (t.0, contains_from_among (ties_by v) t.0 t.1, (w, at, t.2)),
  )
