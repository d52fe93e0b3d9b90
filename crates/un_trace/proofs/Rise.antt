-- Elements that rise by port, as nodes do: those of a feature stand together, and their numbers do not fall.
use Rattle.std.proofs.Common.{◌≡◌, ◌≢◌, ℕ, zero, suc, ◌<◌, ◌≤◌, ◌+◌, ◌==◌, true, false, cond, List, [], ◌∷◌, map, length, take, drop, get_or, take_while, inl, inr, refl, sym, ap, subst, ◌∙◌, arith, eq-eqb, eqb-true, is_lt, IsSorted}
use Rattle.std.specs.Prelude.{⊤}
use Rattle.std.specs.declared.cmp.Ordering.{Ordering}
use Rattle.std.specs.declared.cmp.Ordering.TheVariants.{Less, Equal, Greater}
use Rattle.std.specs.Ordering.{nat_cmp, MatchOrdering, ordering_then}
use Rattle.std.specs.List.{AllByRecursion}
use Rattle.std.specs.List.Sorted.{IsStrictlySortedBy}
use Rattle.std.proofs.lemmas.Cmp.{ranked}
use Rattle.std.proofs.lemmas.List.Sums.{take_while-cons}
use Rattle.un_geom.specs.Places.{point_cmp}
use Rattle.un_defs.specs.declared.port.Node.{Node}
use Rattle.un_defs.specs.Orders.{node_cmp}
use Rattle.un_defs.proofs.Rising.{Among}
use Rattle.un_defs.proofs.Members.{among-map}
use Rattle.un_walk.specs.declared.seen.Seen.{Seen}
use Rattle.un_trace.specs.Seen.{nodes_of}

module _ {A : Type 0} (feature number : A → ℕ) where
  -- the one stands before the other: its feature is not above the other's, and within one feature neither is its number
  pub record StandsBefore (s t : A) : Type 0 where
    pub features : feature s ≤ feature t
    pub numbers : feature s ≡ feature t → number s ≤ number t

  abbrev pub Rise : List A → Type 0
  Rise [] = ⊤
  Rise (s ∷ ss) = ((t : A) → Among ss t → StandsBefore s t) × Rise ss

  pub rise_drop : (k : ℕ) (ss : List A) → Rise ss → Rise (drop k ss)
  rise_drop zero [] h = h
  rise_drop zero (s ∷ ss) h = h
  rise_drop (suc k) [] h = h
  rise_drop (suc k) (s ∷ ss) h = rise_drop k ss h.1

  -- ---- the nodes of the first feature

  abbrev pub run_of : ℕ → List A → List A
  run_of k [] = []
  run_of k (s ∷ ss) = cond (feature s == k) (s ∷ run_of k ss) []

  pub run_is : (k : ℕ) (ss : List A) → take_while (λ (s : A). feature s == k) ss ≡ run_of k ss
  run_is k [] = refl
  run_is k (s ∷ ss) =
      take_while-cons (λ (s : A). feature s == k) s ss ∙ ap (λ l. cond (feature s == k) (s ∷ l) []) (run_is k ss)

  pub among_run : (k : ℕ) (ss : List A) (t : A) → Among (run_of k ss) t → Among ss t × (feature t ≡ k)
  among_run k [] t h = absurd h
  among_run k (s ∷ ss) t h =
      elim (feature s == k) as (λ b. (feature s == k) ≡ b → Among (cond b (s ∷ run_of k ss) []) t → Among (s ∷ ss) t × (feature t ≡ k)) [
        | true ↦ λ e h. elim h [
          | inl i ↦ (inl i, subst (λ x. feature x ≡ k) i (eqb-true (feature s) k e))
          | inr i ↦ let r = among_run k ss t i in (inr r.0, r.1)
        ]
        | false ↦ λ e h. absurd h
      ] refl h

  pub take_run : (k : ℕ) (ss : List A) → take (length (run_of k ss)) ss ≡ run_of k ss
  take_run k [] = refl
  take_run k (s ∷ ss) =
      elim (feature s == k) as (λ b. take (length (cond b (s ∷ run_of k ss) [])) (s ∷ ss) ≡ cond b (s ∷ run_of k ss) []) [
        | true ↦ ap (λ l. s ∷ l) (take_run k ss)
        | false ↦ refl
      ]

  above : (k : ℕ) (s : A) (ss : List A) (t : A) → Rise (s ∷ ss) → k ≤ feature s → feature s ≢ k → Among (s ∷ ss) t → k < feature t
  above k s ss t h least apart g =
      elim g [
        | inl e ↦ subst (λ x. k < feature x) e (omega (arith, least, apart))
        | inr i ↦ let b = h.0 t i in omega (arith, least, apart, b.features)
      ]

  -- the nodes after those of the first feature are of later ones
  pub past_run : (k : ℕ) (ss : List A) → Rise ss → ((s : A) → Among ss s → k ≤ feature s) → (t : A) → Among (drop (length (run_of k ss)) ss) t → k < feature t
  past_run k [] h low t g = absurd g
  past_run k (s ∷ ss) h low t g =
      elim (feature s == k) as (λ b. (feature s == k) ≡ b → Among (drop (length (cond b (s ∷ run_of k ss) [])) (s ∷ ss)) t → k < feature t) [
        | true ↦ λ e g. past_run k ss h.1 (λ x i. low x (inr i)) t g
        | false ↦ λ e g. above k s ss t h (low s (inl refl)) (λ same. let f : true ≡ false = sym (eq-eqb (feature s) k same) ∙ e in cc) g
      ] refl g

  -- their numbers do not fall
  run_rise : (k : ℕ) (ss : List A) → Rise ss → Rise (run_of k ss)
  run_rise k [] h = tt
  run_rise k (s ∷ ss) h =
      elim (feature s == k) as (λ b. Rise (cond b (s ∷ run_of k ss) [])) [
        | true ↦ (λ t g. h.0 t (among_run k ss t g).0, run_rise k ss h.1)
        | false ↦ tt
      ]

  not_less : (x y : ℕ) → y ≤ x → is_lt (nat_cmp x y) ≡ false
  not_less x y l = go (nat_cmp x y) (ranked x y _ refl)
    where
      go : (k : Ordering) → MatchOrdering k (x < y) (x ≡ y) (y < x) → is_lt k ≡ false
      go Less h = absurd (omega (arith, h))
      go Equal h = refl
      go Greater h = refl

  numbers_sorted : (k : ℕ) (ss : List A) → Rise ss → ((s : A) → Among ss s → feature s ≡ k) → IsSorted nat_cmp (map number ss)
  numbers_sorted k [] h all i d low high = absurd (omega arith)
  numbers_sorted k (s ∷ []) h all i d low high = absurd (omega arith)
  numbers_sorted k (s ∷ t ∷ ss) h all zero d low high =
      not_less (number t) (number s) ((h.0 t (inl refl)).numbers (all s (inl refl) ∙ sym (all t (inr (inl refl)))))
  numbers_sorted k (s ∷ t ∷ ss) h all (suc i) d low high =
      let rest : is_lt (nat_cmp (get_or (map number (t ∷ ss)) (i + 1) d) (get_or (map number (t ∷ ss)) i d)) ≡ false =
      numbers_sorted k (t ∷ ss) h.1 (λ x g. all x (inr g)) i d (omega arith) (omega (arith, high)) in
      let next : suc i + 1 ≡ suc (i + 1) = omega arith in
      subst (λ j. is_lt (nat_cmp (get_or (map number (s ∷ t ∷ ss)) j d) (get_or (map number (t ∷ ss)) i d)) ≡ false) (sym next) rest

  pub run_sorted : (k : ℕ) (ss : List A) → Rise ss → IsSorted nat_cmp (map number (run_of k ss))
  run_sorted k ss h = numbers_sorted k (run_of k ss) (run_rise k ss h) (λ s g. (among_run k ss s g).1)

  -- no feature is below that of the first node
  pub first_low : (s : A) (ss : List A) → Rise (s ∷ ss) → (t : A) → Among (s ∷ ss) t → feature s ≤ feature t
  first_low s ss h t g = elim g [ inl e ↦ subst (λ x. feature s ≤ feature x) e (omega arith) | inr i ↦ (h.0 t i).features ]

-- ---- nodes with their entries

abbrev pub feature_of : Seen → ℕ
feature_of s = s.node.port.feature

abbrev pub number_of : Seen → ℕ
number_of s = s.node.port.number

-- nodes in order stand before one another
node_before : (n m : Node) → node_cmp n m ≡ Less → (n.port.feature ≤ m.port.feature) × (n.port.feature ≡ m.port.feature → n.port.number ≤ m.port.number)
node_before n m e =
    by_feature (nat_cmp n.port.feature m.port.feature) (nat_cmp n.port.number m.port.number) (ranked n.port.feature m.port.feature _ refl) (ranked n.port.number m.port.number _ refl) e
  where
    P : Type 0
    P = (n.port.feature ≤ m.port.feature) × (n.port.feature ≡ m.port.feature → n.port.number ≤ m.port.number)

    by_number : (k : Ordering) → n.port.feature ≡ m.port.feature → MatchOrdering k (n.port.number < m.port.number) (n.port.number ≡ m.port.number) (m.port.number < n.port.number)
        → ordering_then (ordering_then k Equal) (point_cmp n.at m.at) ≡ Less → P
    by_number Less f g e = (omega (arith, f), λ _. omega (arith, g))
    by_number Equal f g e = (omega (arith, f), λ _. omega (arith, g))
    by_number Greater f g e = let h : Greater ≡ Less = e in absurd (cc)

    by_feature : (j k : Ordering) → MatchOrdering j (n.port.feature < m.port.feature) (n.port.feature ≡ m.port.feature) (m.port.feature < n.port.feature)
        → MatchOrdering k (n.port.number < m.port.number) (n.port.number ≡ m.port.number) (m.port.number < n.port.number)
        → ordering_then (ordering_then j (ordering_then k Equal)) (point_cmp n.at m.at) ≡ Less → P
    by_feature Less k f g e = (omega (arith, f), λ same. absurd (omega (arith, f, same)))
    by_feature Equal k f g e = by_number k f g e
    by_feature Greater k f g e = let h : Greater ≡ Less = e in absurd (cc)

all_among : {A : Type 0} (P : A → Type 0) (xs : List A) → AllByRecursion P xs → (x : A) → Among xs x → P x
all_among P [] h x g = absurd g
all_among P (y ∷ ys) h x g = elim g [ inl e ↦ subst P e h.0 | inr i ↦ all_among P ys h.1 x i ]

pub rise_from : (ss : List Seen) → IsStrictlySortedBy node_cmp (nodes_of ss) → Rise feature_of number_of ss
unfolding IsStrictlySortedBy
rise_from [] h = tt
rise_from (s ∷ ss) h = (
  λ t g. let b = node_before s.node t.node (all_among (λ n. node_cmp s.node n ≡ Less) (nodes_of ss) h.0 t.node (among-map (λ (x : Seen). x.node) ss t g)) in
      record { features = b.0; numbers = b.1 },
  rise_from ss h.1,
)
