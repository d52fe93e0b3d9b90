-- In as many steps as there are nodes all is reached that walks reach.
use Rattle.std.proofs.Common.{◌≡◌, ℕ, zero, suc, ◌<◌, ◌≤◌, ◌&&◌, not, Bool, true, false, cond, List, [], ◌∷◌, filter, length, refl, sym, ap, ◌∙◌, subst, ◌⊎◌, inl, inr, true≢false, arith}
use Rattle.std.specs.List.{list_any}
use Rattle.un_defs.specs.declared.port.Node.{Node}
use Rattle.un_defs.specs.Orders.{node_cmp, same_node}
use Rattle.un_defs.specs.Reach.{Walk, IsReach}
use Rattle.un_defs.proofs.Rising.{Among, among-rising, among_from-rising, sorted-rising}
use Rattle.un_defs.proofs.Members.{among_left, among_right, among_cases, among_from-filter, among-filter, among_from_list_any, list_any_from_among}
use Rattle.un_defs.proofs.OrderLaws.{node_total, node_ties}
use Rattle.un_defs.proofs.Unique.{node_same, node_itself}
use Rattle.un_defs.proofs.Walking.{walk_from_start, walk_on, is_reach}
use Rattle.un_walk.specs.Spread.{reached_within, reached_in}

-- ---- counting

-- a test that holds of no fewer elements counts no fewer
no_fewer : {A : Type 0} (p q : A → Bool) → ((x : A) → p x ≡ true → q x ≡ true) → (xs : List A) → length (filter p xs) ≤ length (filter q xs)
no_fewer p q h [] = omega arith
no_fewer p q h (x ∷ xs) = go (p x) (q x) (h x) (no_fewer p q h xs)
  where
    go : (a b : Bool) → (a ≡ true → b ≡ true) → length (filter p xs) ≤ length (filter q xs) → length (cond a (x ∷ filter p xs) (filter p xs)) ≤ length (cond b (x ∷ filter q xs) (filter q xs))
    go true true k l = omega (arith, l)
    go true false k l = absurd (true≢false (sym (k refl)))
    go false true k l = omega (arith, l)
    go false false k l = l

-- and one that holds of one element more counts more
more : {A : Type 0} (p q : A → Bool) → ((x : A) → p x ≡ true → q x ≡ true) → (xs : List A) (y : A) → Among xs y → p y ≡ false → q y ≡ true → length (filter p xs) < length (filter q xs)
more p q h [] y among f t = absurd among
more p q h (x ∷ xs) y among f t =
    elim among [
      | inl e ↦ here (p x) (q x) (ap p e ∙ f) (ap q e ∙ t) (no_fewer p q h xs)
      | inr i ↦ there (p x) (q x) (h x) (more p q h xs y i f t)
    ]
  where
    here : (a b : Bool) → a ≡ false → b ≡ true → length (filter p xs) ≤ length (filter q xs) → length (cond a (x ∷ filter p xs) (filter p xs)) < length (cond b (x ∷ filter q xs) (filter q xs))
    here true b k l m = absurd (true≢false k)
    here false true k l m = omega (arith, m)
    here false false k l m = absurd (true≢false (sym l))

    there : (a b : Bool) → (a ≡ true → b ≡ true) → length (filter p xs) < length (filter q xs) → length (cond a (x ∷ filter p xs) (filter p xs)) < length (cond b (x ∷ filter q xs) (filter q xs))
    there true true k l = omega (arith, l)
    there true false k l = absurd (true≢false (sym (k refl)))
    there false true k l = omega (arith, l)
    there false false k l = l

no_more : {A : Type 0} (p : A → Bool) (xs : List A) → length (filter p xs) ≤ length xs
no_more p [] = omega arith
no_more p (x ∷ xs) = go (p x) (no_more p xs)
  where
    go : (a : Bool) → length (filter p xs) ≤ length xs → length (cond a (x ∷ filter p xs) (filter p xs)) ≤ suc (length xs)
    go true l = omega (arith, l)
    go false l = omega (arith, l)

-- where all are counted, each passes
each : {A : Type 0} (p : A → Bool) (xs : List A) → length xs ≤ length (filter p xs) → (y : A) → Among xs y → p y ≡ true
each p [] l y i = absurd i
each p (x ∷ xs) l y i = go (p x) refl l (λ l i. each p xs l y i)
  where
    go : (a : Bool) → p x ≡ a → suc (length xs) ≤ length (cond a (x ∷ filter p xs) (filter p xs)) → (length xs ≤ length (filter p xs) → Among xs y → p y ≡ true) → p y ≡ true
    go true e l rest = elim i [ inl h ↦ ap p (sym h) ∙ e | inr h ↦ rest (omega (arith, l)) h ]
    go false e l rest = absurd (let most = no_more p xs in impossible l most)
      where
        impossible : suc (length xs) ≤ length (filter p xs) → length (filter p xs) ≤ length xs → ⊥
        impossible l m = omega (arith, l, m)

-- ---- lists of nodes

abbrev pub has : List Node → Node → Bool
has ns m = list_any (same_node m) ns

pub has_from : (ns : List Node) (m : Node) → Among ns m → has ns m ≡ true
has_from ns m i = list_any_from_among (same_node m) ns m i (node_itself m)

pub from_has : (ns : List Node) (m : Node) → has ns m ≡ true → Among ns m
from_has ns m e = let r = among_from_list_any (same_node m) ns e in subst (Among ns) (sym (node_same m r.0 r.2)) r.1

module _ (step : Node → Node → Bool) (all starts : List Node) (named : (n m : Node) → step n m ≡ true → Among all m) where
  abbrev at : ℕ → List Node
  at k = reached_within step all k starts

  -- no step leads out of the nodes
  abbrev IsClosed : ℕ → Type 0
  IsClosed k = (n m : Node) → Among (at k) n → step n m ≡ true → Among (at k) m

  grows : (k : ℕ) (m : Node) → Among (at k) m → Among (at (suc k)) m
  grows k m i = among_left (at k) (filter (λ m. list_any (λ n. step n m) (at k)) all) m i

  stepped : (k : ℕ) (n m : Node) → Among (at k) n → step n m ≡ true → Among (at (suc k)) m
  stepped k n m i e =
      among_right (at k) (filter (λ m. list_any (λ n. step n m) (at k)) all) m
      (among-filter (λ m. list_any (λ n. step n m) (at k)) all m (named n m e) (list_any_from_among (λ n. step n m) (at k) n i e))

  -- once no step leads out, none does later
  stays_closed : (k : ℕ) → IsClosed k → IsClosed (suc k)
  stays_closed k closed n m i e = grows k m (closed n m (back n i) e)
    where
      back : (n : Node) → Among (at (suc k)) n → Among (at k) n
      back n i = elim (among_cases (at k) (filter (λ m. list_any (λ n. step n m) (at k)) all) n i) [
        | inl j ↦ j
        | inr j ↦ let r = among_from_list_any (λ k. step k n) (at k) (among_from-filter (λ m. list_any (λ n. step n m) (at k)) all n j).1 in closed r.0 n r.1 r.2
      ]

  -- of all nodes, how many are reached
  abbrev count : ℕ → ℕ
  count k = length (filter (has (at k)) all)

  -- a node that a step leads to and that is not there yet
  abbrev is_out : ℕ → Node → Bool
  is_out k m = not (has (at k) m) && list_any (λ n. step n m) (at k)

  closed_unless : (k : ℕ) → list_any (is_out k) all ≡ false → IsClosed k
  closed_unless k h n m i e = go (has (at k) m) refl
    where
      go : (b : Bool) → has (at k) m ≡ b → Among (at k) m
      go true t = from_has (at k) m t
      go false f = absurd (true≢false (sym (list_any_from_among (is_out k) all m (named n m e)
          (λ j. not (f j) && list_any_from_among (λ n. step n m) (at k) n i e j)) ∙ h))

  more_counted : (k : ℕ) → list_any (is_out k) all ≡ true → count k < count (suc k)
  more_counted k h =
      let r = among_from_list_any (is_out k) all h in
      let parts = both r.0 r.2 in
      let led = among_from_list_any (λ n. step n r.0) (at k) parts.1 in
      more (has (at k)) (has (at (suc k))) (λ m e. has_from (at (suc k)) m (grows k m (from_has (at k) m e))) all r.0 r.1 parts.0
      (has_from (at (suc k)) r.0 (stepped k led.0 r.0 led.1 led.2))
    where
      both : (m : Node) → is_out k m ≡ true → (has (at k) m ≡ false) × (list_any (λ n. step n m) (at k) ≡ true)
      both m e = go (has (at k) m) refl e
        where
          go : (b : Bool) → has (at k) m ≡ b → (not b && list_any (λ n. step n m) (at k)) ≡ true → (has (at k) m ≡ false) × (list_any (λ n. step n m) (at k) ≡ true)
          go true f e = absurd (true≢false (sym e))
          go false f e = (f, e)

  -- after so many rounds no step leads out, or as many nodes are reached
  rounds : (k : ℕ) → IsClosed k ⊎ (k ≤ count k)
  rounds zero = inr (omega arith)
  rounds (suc k) =
      elim (rounds k) [
        | inl c ↦ inl (stays_closed k c)
        | inr l ↦ elim (list_any (is_out k) all) as (λ b. list_any (is_out k) all ≡ b → IsClosed (suc k) ⊎ (suc k ≤ count (suc k))) [
          | true ↦ λ e. inr (let m = more_counted k e in omega (arith, l, m))
          | false ↦ λ e. inl (stays_closed k (closed_unless k e))
        ] refl
      ]

  closed_at_end : IsClosed (length all)
  closed_at_end =
      elim (rounds (length all)) [
        | inl c ↦ c
        | inr l ↦ λ n m i e. from_has (at (length all)) m (each (has (at (length all))) all l m (named n m e))
      ]

  sound : (k : ℕ) (m : Node) → Among (at k) m → Walk step starts m
  sound zero m i = walk_from_start step starts m i
  sound (suc k) m i =
      elim (among_cases (at k) (filter (λ m. list_any (λ n. step n m) (at k)) all) m i) [
        | inl j ↦ sound k m j
        | inr j ↦ let r = among_from_list_any (λ n. step n m) (at k) (among_from-filter (λ m. list_any (λ n. step n m) (at k)) all m j).1 in
            walk_on step starts r.0 m (sound k r.0 r.1) r.2
      ]

  begins : (k : ℕ) (m : Node) → Among starts m → Among (at k) m
  begins zero m i = i
  begins (suc k) m i = grows k m (begins k m i)

  pub reached_is_reach : IsReach step starts (reached_in step all starts)
  reached_is_reach =
      is_reach step starts (reached_in step all starts) (sorted-rising node_total (at (length all)))
      (λ n i. sound (length all) n (among_from-rising node_cmp (at (length all)) n i))
      (λ n i. put n (begins (length all) n i))
      (λ n m i e. put m (closed_at_end n m (among_from-rising node_cmp (at (length all)) n i) e))
    where
      put : (n : Node) → Among (at (length all)) n → Among (reached_in step all starts) n
      put n i = among-rising node_cmp (at (length all)) (λ a b _ _ e. node_ties a b e) n i
