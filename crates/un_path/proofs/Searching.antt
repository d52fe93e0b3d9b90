-- What a search for the best walks keeps, as places are settled.
use Rattle.std.proofs.Common.{◌≡◌, ◌≢◌, ℕ, zero, suc, ◌+◌, ◌*◌, ◌<◌, ◌≤◌, nat_cmp, Ordering, Bool, false, List, [], ◌∷◌, set, length, Option, Some, None, ◌⊎◌, inl, inr, refl, sym, ap, subst, ◌∙◌, arith, true≢false}
use Rattle.std.specs.Prelude.{slice_get, Contains, IsTrue}
use Rattle.std.specs.declared.cmp.Reverse.{Reverse}
use Rattle.std.specs.BinaryHeap.{IsUpperBound}
use Rattle.std.specs.List.{AllByRecursion}
use Rattle.std.specs.List.Sorted.{IsStrictlySortedBy}
use Rattle.std.specs.Ordering.{ordering_then, is_lt}
use Rattle.std.proofs.lemmas.Bool.{cases_lt, cases_eq}
use Rattle.std.proofs.lemmas.List.{length-set}
use Rattle.std.proofs.lemmas.Option.{slice_get_within}
use Rattle.un_defs.specs.declared.port.Node.{Node}
use Rattle.un_defs.specs.Orders.{node_cmp}
use Rattle.un_defs.proofs.LinkCases.{some_same}
use Rattle.un_defs.proofs.Members.{among_from_contains}
use Rattle.un_defs.proofs.Rising.{Among}
use Rattle.un_path.specs.declared.hops.Hop.{Hop}
use Rattle.un_path.specs.declared.search.Arrival.{Arrival}
use Rattle.un_path.specs.declared.search.Coming.{Coming}
use Rattle.un_path.specs.Hops.{IsAt}
use Rattle.un_path.specs.Search.{coming_cmp, turned_cmp, IsPendingIn, arrival_of, HasArrival, IsSettledAt, IsFree, free_count, IsNoLater, coming_by, first_arrival, first_coming, IsReal, IsServed, IsUnderWay, IsNext, IsDone}
use Rattle.un_path.proofs.Numbers.{less_by, equal_by}
use Rattle.un_path.proofs.Places.{one_place}

-- ---- orders

not_less : (a b : ℕ) (o : Ordering) → is_lt (ordering_then (nat_cmp a b) o) ≡ false → (b ≤ a) × (a ≡ b → is_lt o ≡ false)
not_less a b o e = elim (cases_lt a b) [
  | inl less ↦ absurd (true≢false (sym (ap (λ r. is_lt (ordering_then r o)) (less_by a b less)) ∙ e))
  | inr high ↦ (high, λ same. sym (ap (λ r. is_lt (ordering_then r o)) (ap (nat_cmp a) (sym same) ∙ equal_by a)) ∙ e)
]

-- what is not after another in the order of the heap is no later
pub no_later_by : (x e : Coming) → is_lt (coming_cmp e x) ≡ false → IsNoLater (arrival_of x) e.cost e.steps e.from
no_later_by x e h =
    let one = not_less e.cost x.cost (ordering_then (nat_cmp e.steps x.steps) (ordering_then (nat_cmp e.from x.from) (nat_cmp e.place x.place))) h in
    record {
      cost = one.0;
      steps = λ same. (not_less e.steps x.steps (ordering_then (nat_cmp e.from x.from) (nat_cmp e.place x.place)) (one.1 (sym same))).0;
      before = λ same also. (not_less e.from x.from (nat_cmp e.place x.place) ((not_less e.steps x.steps (ordering_then (nat_cmp e.from x.from) (nat_cmp e.place x.place)) (one.1 (sym same))).1 (sym also))).0;
    }

pub no_later_self : (a : Arrival) → IsNoLater a a.cost a.steps a.from
no_later_self a = record { cost = omega arith; steps = λ _. omega arith; before = λ _ _. omega arith }

-- one after another
pub no_later_on : (a b : Arrival) (c h u : ℕ) → IsNoLater a b.cost b.steps b.from → IsNoLater b c h u → IsNoLater a c h u
no_later_on a b c h u f g = record {
  cost = (let p = f.cost in let q = g.cost in omega arith);
  steps = λ same.
      let one : a.cost ≡ b.cost = (let p = f.cost in let q = g.cost in omega arith) in
      let two : b.cost ≡ c = omega arith in
      (let p = f.steps one in let q = g.steps two in omega arith);
  before = λ same also.
      let one : a.cost ≡ b.cost = (let p = f.cost in let q = g.cost in omega arith) in
      let two : b.cost ≡ c = omega arith in
      let three : a.steps ≡ b.steps = (let p = f.steps one in let q = g.steps two in omega arith) in
      let four : b.steps ≡ h = omega arith in
      (let p = f.before one three in let q = g.before two four in omega arith);
}

-- and before what costs no less and takes more steps
pub no_later_than_more : (a : Arrival) (c h u d k v : ℕ) → IsNoLater a c h u → c ≤ d → h < k → IsNoLater a d k v
no_later_than_more a c h u d k v f low more = record {
  cost = (let p = f.cost in omega arith);
  steps = λ same. (let one : a.cost ≡ c = (let p = f.cost in omega arith) in let p = f.steps one in omega arith);
  before = λ same also. (let one : a.cost ≡ c = (let p = f.cost in omega arith) in let p = f.steps one in absurd (omega arith));
}

-- ---- lists by places

set_here : {X : Type 0} (xs : List X) (i : ℕ) (y : X) → i < length xs → slice_get (set xs i y) i ≡ Some y
set_here [] i y h = absurd (omega arith)
set_here (x ∷ xs) zero y h = refl
set_here (x ∷ xs) (suc i) y h = set_here xs i y (omega arith)

set_elsewhere : {X : Type 0} (xs : List X) (i k : ℕ) (y : X) → k ≢ i → slice_get (set xs i y) k ≡ slice_get xs k
set_elsewhere [] i k y ne = refl
set_elsewhere (x ∷ xs) zero zero y ne = absurd (ne refl)
set_elsewhere (x ∷ xs) zero (suc k) y ne = refl
set_elsewhere (x ∷ xs) (suc i) zero y ne = refl
set_elsewhere (x ∷ xs) (suc i) (suc k) y ne = set_elsewhere xs i k y (λ e. ne (ap suc e))

pub fewer_free : (arrivals : List (Option Arrival)) (i : ℕ) (a : Arrival) → IsFree arrivals i → free_count (set arrivals i (Some a)) + 1 ≡ free_count arrivals
fewer_free [] i a f = absurd (cc)
fewer_free (None ∷ rest) zero a f = omega arith
fewer_free (Some b ∷ rest) zero a f = absurd (cc)
fewer_free (None ∷ rest) (suc i) a f = (let e = fewer_free rest i a f in omega arith)
fewer_free (Some b ∷ rest) (suc i) a f = fewer_free rest i a f

some_free : (arrivals : List (Option Arrival)) (i : ℕ) → IsFree arrivals i → 0 < free_count arrivals
some_free [] i f = absurd (cc)
some_free (None ∷ rest) zero f = omega arith
some_free (Some b ∷ rest) zero f = absurd (cc)
some_free (None ∷ rest) (suc i) f = omega arith
some_free (Some b ∷ rest) (suc i) f = some_free rest i f

not_both : (arrivals : List (Option Arrival)) (i : ℕ) (a : Arrival) → IsFree arrivals i → HasArrival arrivals i a → ⊥
not_both arrivals i a free has = (let clash : None ≡ Some a = some_same None (Some a) (sym free ∙ has) in cc)

-- ---- a place is settled

module _ (step : Node → Node → Bool) (cost : Node → Node → ℕ) (nodes : List Node) (rising : IsStrictlySortedBy node_cmp nodes) (s : ℕ)
    (arrivals : List (Option Arrival)) (x : Coming) (Old : Coming → Type 0) (next : IsNext step cost nodes s arrivals Old x) where
  abbrev after : List (Option Arrival)
  after = set arrivals x.place (Some (arrival_of x))

  pub inside : x.place < length arrivals
  inside = slice_get_within arrivals x.place None next.free

  here : HasArrival after x.place (arrival_of x)
  here = set_here arrivals x.place (Some (arrival_of x)) inside

  kept : (i : ℕ) (b : Arrival) → HasArrival arrivals i b → HasArrival after i b
  kept i b has = elim (cases_eq i x.place) [
    | inl same ↦ absurd (not_both arrivals x.place b next.free (subst (λ k. HasArrival arrivals k b) same has))
    | inr other ↦ set_elsewhere arrivals x.place i (Some (arrival_of x)) other ∙ has
  ]

  cases : (i : ℕ) (b : Arrival) → HasArrival after i b → ((i ≡ x.place) × (b ≡ arrival_of x)) ⊎ HasArrival arrivals i b
  cases i b has = elim (cases_eq i x.place) [
    | inl same ↦ inl (same, some_same b (arrival_of x) (some_same (Some b) (Some (arrival_of x)) (sym has ∙ ap (slice_get after) same ∙ here)))
    | inr other ↦ inr (sym (set_elsewhere arrivals x.place i (Some (arrival_of x)) other) ∙ has)
  ]

  real_kept : (i c h u : ℕ) → IsReal step cost nodes s arrivals i c h u → IsReal step cost nodes s after i c h u
  real_kept i c h u real = elim real [
    | inl first ↦ inl first
    | inr (b, m, n, has, at_m, at_n, leads, low, steps) ↦ inr (b, m, n, kept u b has, at_m, at_n, leads, low, steps)
  ]

  pub begun_after : HasArrival after s (first_arrival s)
  begun_after = elim next.begun [
    | inl has ↦ kept s (first_arrival s) has
    | inr is ↦ subst (λ (e : Coming). HasArrival after e.place (arrival_of e)) is here
  ]

  -- what holds of x is the bounds that a push needs
  pub few : x.steps < length arrivals
  few = (let bound = next.way.few_steps x (inl refl) in let some = some_free arrivals x.place next.free in let count = next.way.count in omega arith)

  module _ (n : Node) (at_n : IsAt nodes x.place n) (hops : List Hop)
      (sound : (h : Hop) → Contains hops h → (m : Node) × IsAt nodes h.to m × IsTrue (step n m) × (cost n m ≤ h.cost))
      (whole : (m : Node) → IsTrue (step n m) → (h : Hop) × Contains hops h × IsAt nodes h.to m × (h.cost ≡ cost n m))
      (New : Coming → Type 0) (new_kept : (e : Coming) → Old e → New e)
      (new_only : (e : Coming) → New e → Old e ⊎ ((h : Hop) × Contains hops h × (e ≡ coming_by x.place (arrival_of x) h) × (h.cost < 18446744073709551616)))
      (new_whole : (h : Hop) → Contains hops h → IsSettledAt after h.to ⊎ New (coming_by x.place (arrival_of x) h)) where
    -- what was settled before is no later than what is settled now
    settled_before : (i : ℕ) (b : Arrival) → HasArrival after i b → IsNoLater b x.cost x.steps x.from
    settled_before i b has = elim (cases i b has) [
      | inl same ↦ subst (λ y. IsNoLater y x.cost x.steps x.from) (sym same.1) (no_later_self (arrival_of x))
      | inr old ↦ next.way.ordered i b x old (inl refl)
    ]

    ordered_by : (i : ℕ) (b : Arrival) (e : Coming) → HasArrival after i b → New e → IsNoLater b e.cost e.steps e.from
    ordered_by i b e has pending = elim (new_only e pending) [
      | inl old ↦ no_later_on b (arrival_of x) e.cost e.steps e.from (settled_before i b has) (next.least e old)
      | inr (h, among, is, slight) ↦
          subst (λ (y : Coming). IsNoLater b y.cost y.steps y.from) (sym is)
          (no_later_than_more b x.cost x.steps x.from (x.cost + h.cost) (x.steps + 1) x.place (settled_before i b has) (omega arith) (omega arith))
    ]

    -- a step from the place that is settled now
    served_here : (j : ℕ) (m : Node) → IsAt nodes j m → IsTrue (step n m) → IsServed step cost nodes s after New j (x.cost + cost n m) (x.steps + 1) x.place
    served_here j m at_m leads =
        let (h, among, at_h, price) = whole m leads in
        let there : h.to ≡ j = one_place nodes rising m h.to j at_h at_m in
        elim (new_whole h among) [
          | inl (b, has) ↦ inl (
            b,
            subst (λ k. HasArrival after k b) there has,
            no_later_than_more b x.cost x.steps x.from (x.cost + cost n m) (x.steps + 1) x.place (settled_before h.to b has) (omega arith) (omega arith),
          )
          | inr pending ↦ inr (
            coming_by x.place (arrival_of x) h,
            pending,
            there,
            record { cost = omega (arith, price); steps = λ _. omega arith; before = λ _ _. omega arith },
          )
        ]

    closed_by : (i j : ℕ) (a : Arrival) (k m : Node) → HasArrival after i a → IsAt nodes i k → IsAt nodes j m → IsTrue (step k m)
        → IsServed step cost nodes s after New j (a.cost + cost k m) (a.steps + 1) i
    closed_by i j a k m has at_k at_m leads = elim (cases i a has) [
      | inl (place, arrival) ↦
          let node : n ≡ k = some_same n k (sym at_n ∙ ap (slice_get nodes) (sym place) ∙ at_k) in
          subst (λ (y : Arrival). IsServed step cost nodes s after New j (y.cost + cost k m) (y.steps + 1) i) (sym arrival)
          (subst (λ p. IsServed step cost nodes s after New j (x.cost + cost k m) (x.steps + 1) p) (sym place)
          (subst (λ q. IsServed step cost nodes s after New j (x.cost + cost q m) (x.steps + 1) x.place) node (served_here j m at_m (subst (λ q. IsTrue (step q m)) (sym node) leads))))
      | inr old ↦ elim (next.way.closed i j a k m old at_k at_m leads) [
        | inl (b, there, late) ↦ inl (b, kept j b there, late)
        | inr (e, pending, place, late) ↦ elim pending [
          | inl is ↦ inl (
            arrival_of x,
            subst (λ p. HasArrival after p (arrival_of x)) (ap (λ (y : Coming). y.place) (sym is) ∙ place) here,
            subst (λ (y : Coming). IsNoLater (arrival_of y) (a.cost + cost k m) (a.steps + 1) i) is late,
          )
          | inr still ↦ inr (e, new_kept e still, place, late)
        ]
      ]
    ]

    pub settled_way : IsUnderWay step cost nodes s after New
    settled_way = record {
      count = length-set arrivals x.place (Some (arrival_of x)) ∙ next.way.count;
      inside = λ e pending. elim (new_only e pending) [
        | inl old ↦ next.way.inside e (inr old)
        | inr (h, among, is, slight) ↦ (let end = sound h among in subst (λ (y : Coming). y.place < length nodes) (sym is) (slice_get_within nodes h.to end.0 end.1))
      ];
      real = λ i a has. elim (cases i a has) [
        | inl (place, arrival) ↦
            subst (λ p. IsReal step cost nodes s after p a.cost a.steps a.from) (sym place)
            (subst (λ (y : Arrival). IsReal step cost nodes s after x.place y.cost y.steps y.from) (sym arrival) (real_kept x.place x.cost x.steps x.from (next.way.pending_real x (inl refl))))
        | inr old ↦ real_kept i a.cost a.steps a.from (next.way.real i a old)
      ];
      pending_real = λ e pending. elim (new_only e pending) [
        | inl old ↦ real_kept e.place e.cost e.steps e.from (next.way.pending_real e (inr old))
        | inr (h, among, is, slight) ↦
            let (m, at_m, leads, low) = sound h among in
            subst (λ (y : Coming). IsReal step cost nodes s after y.place y.cost y.steps y.from) (sym is)
            (inr (arrival_of x, n, m, here, at_n, at_m, leads, omega (arith, low), refl))
      ];
      closed = closed_by;
      ordered = ordered_by;
      few_steps = λ e pending. elim (new_only e pending) [
        | inl old ↦ (let bound = next.way.few_steps e (inr old) in let less = fewer_free arrivals x.place (arrival_of x) next.free in omega arith)
        | inr (h, among, is, slight) ↦
            subst (λ (y : Coming). y.steps + free_count after ≤ length nodes) (sym is)
            (let bound = next.way.few_steps x (inl refl) in let less = fewer_free arrivals x.place (arrival_of x) next.free in omega arith)
      ];
      small = λ e pending. elim (new_only e pending) [
        | inl old ↦ next.way.small e (inr old)
        | inr (h, among, is, slight) ↦
            subst (λ (y : Coming). y.cost ≤ y.steps * 18446744073709551616) (sym is)
            (let bound = next.way.small x (inl refl) in omega (arith, slight))
      ];
    }

-- ---- the next place is taken

module _ (step : Node → Node → Bool) (cost : Node → Node → ℕ) (nodes : List Node) (s : ℕ) (arrivals : List (Option Arrival)) (Old : Coming → Type 0)
    (way : IsUnderWay step cost nodes s arrivals Old) where
  -- a pending arrival at a settled place may be dropped
  served_settled : (j c h i : ℕ) (e : Coming) → Old e → e.place ≡ j → IsNoLater (arrival_of e) c h i → IsSettledAt arrivals e.place
      → (b : Arrival) × HasArrival arrivals j b × IsNoLater b c h i
  served_settled j c h i e pending place late (b, has) =
      (b, subst (λ p. HasArrival arrivals p b) place has, no_later_on b (arrival_of e) c h i (way.ordered e.place b e has pending) late)

  pub next_by : (x : Coming) (New : Coming → Type 0) → HasArrival arrivals s (first_arrival s) → Old x → IsFree arrivals x.place
      → ((e : Coming) → Old e → (e ≡ x) ⊎ (New e ⊎ IsSettledAt arrivals e.place)) → ((e : Coming) → New e → Old e) → ((e : Coming) → New e → is_lt (coming_cmp e x) ≡ false)
      → IsNext step cost nodes s arrivals New x
  next_by x New begun was free left only least = record {
    way = record {
      count = way.count;
      inside = λ e pending. way.inside e (back e pending);
      real = way.real;
      pending_real = λ e pending. way.pending_real e (back e pending);
      closed = λ i j a n m has at_n at_m leads. elim (way.closed i j a n m has at_n at_m leads) [
        | inl settled ↦ inl settled
        | inr (e, pending, place, late) ↦ elim (left e pending) [
          | inl same ↦ inr (e, inl same, place, late)
          | inr rest ↦ elim rest [
            | inl still ↦ inr (e, inr still, place, late)
            | inr settled ↦ inl (served_settled j (a.cost + cost n m) (a.steps + 1) i e pending place late settled)
          ]
        ]
      ];
      ordered = λ i a e has pending. way.ordered i a e has (back e pending);
      few_steps = λ e pending. way.few_steps e (back e pending);
      small = λ e pending. way.small e (back e pending);
    };
    free = free;
    least = λ e pending. no_later_by x e (least e pending);
    begun = inl begun;
  }
    where
      back : (e : Coming) → (e ≡ x) ⊎ New e → Old e
      back e pending = elim pending [ inl same ↦ subst Old (sym same) was | inr new ↦ only e new ]

  pub done_by : HasArrival arrivals s (first_arrival s) → ((e : Coming) → Old e → IsSettledAt arrivals e.place) → IsDone step cost nodes s arrivals
  done_by begun settled = record {
    begun = begun;
    way = record {
      count = way.count;
      inside = λ e none. absurd none;
      real = way.real;
      pending_real = λ e none. absurd none;
      closed = λ i j a n m has at_n at_m leads. elim (way.closed i j a n m has at_n at_m leads) [
        | inl there ↦ inl there
        | inr (e, pending, place, late) ↦ inl (served_settled j (a.cost + cost n m) (a.steps + 1) i e pending place late (settled e pending))
      ];
      ordered = λ i a e has none. absurd none;
      few_steps = λ e none. absurd none;
      small = λ e none. absurd none;
    };
  }

-- ---- the search begins

pub first_next : (step : Node → Node → Bool) (cost : Node → Node → ℕ) (nodes : List Node) (s : ℕ) (arrivals : List (Option Arrival)) (New : Coming → Type 0) → s < length nodes → length arrivals ≡ length nodes
    → free_count arrivals ≡ length nodes → IsFree arrivals s → ((i : ℕ) → IsSettledAt arrivals i → ⊥) → ((e : Coming) → New e → ⊥) → IsNext step cost nodes s arrivals New (first_coming s)
first_next step cost nodes s arrivals New inside count free_all free none bare = record {
  way = record {
    count = count;
    inside = λ e pending. subst (λ (y : Coming). y.place < length nodes) (sym (is e pending)) inside;
    real = λ i a has. absurd (none i (a, has));
    pending_real = λ e pending. subst (λ (y : Coming). IsReal step cost nodes s arrivals y.place y.cost y.steps y.from) (sym (is e pending)) (inl (refl, refl));
    closed = λ i j a n m has at_n at_m leads. absurd (none i (a, has));
    ordered = λ i a e has pending. absurd (none i (a, has));
    few_steps = λ e pending. subst (λ (y : Coming). y.steps + free_count arrivals ≤ length nodes) (sym (is e pending)) (omega (arith, free_all));
    small = λ e pending. subst (λ (y : Coming). y.cost ≤ y.steps * 18446744073709551616) (sym (is e pending)) (omega arith);
  };
  free = free;
  least = λ e pending. absurd (bare e pending);
  begun = inr refl;
}
  where
    is : (e : Coming) → (e ≡ first_coming s) ⊎ New e → e ≡ first_coming s
    is e pending = elim pending [ inl same ↦ same | inr new ↦ absurd (bare e new) ]

-- ---- the top of a heap

all_among : {A : Type 0} (P : A → Type 0) (xs : List A) → AllByRecursion P xs → (x : A) → Among xs x → P x
all_among P [] h x g = absurd g
all_among P (y ∷ ys) h x g = elim g [ inl e ↦ subst P e h.0 | inr i ↦ all_among P ys h.1 x i ]

pub least_by : (items : List (Reverse Coming)) (x : Reverse Coming) → IsUpperBound turned_cmp x items → (e : Coming) → IsPendingIn items e → is_lt (coming_cmp e x.0) ≡ false
least_by items x bound e pending = all_among (λ y. is_lt (turned_cmp x y) ≡ false) items bound (record { 0 = e }) (among_from_contains items (record { 0 = e }) pending)
