-- A search for the best walks that is under way: the arrivals at places that are settled, and what is pending.
use Rattle.std.specs.Prelude.{◌≡◌, ℕ, suc, ◌+◌, ◌*◌, ◌<◌, ◌≤◌, ◌⊎◌, Bool, false, List, [], ◌∷◌, length, take, reverse, Contains, Option, Some, None, slice_get, IsTrue, MatchOption}
use Rattle.std.specs.Option.{option_map_or}
use Rattle.std.specs.declared.cmp.Ordering.{Ordering}
use Rattle.std.specs.declared.cmp.Reverse.{Reverse}
use Rattle.std.specs.Ordering.{nat_cmp, ordering_then, is_lt}
use Rattle.un_defs.specs.declared.port.Node.{Node}
use Rattle.un_path.specs.declared.hops.Hop.{Hop}
use Rattle.un_path.specs.declared.search.Arrival.{Arrival}
use Rattle.un_path.specs.declared.search.Coming.{Coming}
use Rattle.un_defs.specs.declared.port.Port.{Port}
use Rattle.un_ask.specs.declared.results.Label.{Label}
use Rattle.un_path.specs.declared.answer.PathFound.{PathFound}
use Rattle.un_path.specs.Hops.{IsAt}
use Rattle.un_path.specs.Paths.{ports_of, label_ports}
use Rattle.un_path.specs.Settled.{IsChain}

-- what is pending compares by cost, then steps, then the place it comes from
abbrev pub coming_cmp : Coming → Coming → Ordering
coming_cmp d e = ordering_then (nat_cmp d.cost e.cost) (ordering_then (nat_cmp d.steps e.steps) (ordering_then (nat_cmp d.from e.from) (nat_cmp d.place e.place)))

-- a heap has its greatest first, so the order is turned round in it
abbrev pub turned_cmp : Reverse Coming → Reverse Coming → Ordering
turned_cmp x y = coming_cmp y.0 x.0

abbrev pub IsPendingIn : List (Reverse Coming) → Coming → Type 0
IsPendingIn items e = Contains items (record { 0 = e })

-- the arrival at its place, once it is settled
abbrev pub arrival_of : Coming → Arrival
arrival_of e = record { cost = e.cost; steps = e.steps; from = e.from }

-- the place is settled so
abbrev pub HasArrival : List (Option Arrival) → ℕ → Arrival → Type 0
HasArrival arrivals i a = slice_get arrivals i ≡ Some (Some a)

abbrev pub IsSettledAt : List (Option Arrival) → ℕ → Type 0
IsSettledAt arrivals i = (a : Arrival) × HasArrival arrivals i a

abbrev pub IsFree : List (Option Arrival) → ℕ → Type 0
IsFree arrivals i = slice_get arrivals i ≡ Some None

-- the number of places that are not settled
abbrev pub free_count : List (Option Arrival) → ℕ
free_count [] = 0
free_count (None ∷ rest) = suc (free_count rest)
free_count (Some a ∷ rest) = free_count rest

-- the arrival costs no more; if it costs the same, it takes no more steps; and if these are the same, it comes from no later place
pub record IsNoLater (a : Arrival) (c h u : ℕ) : Type 0 where
  pub cost : a.cost ≤ c
  pub steps : a.cost ≡ c → a.steps ≤ h
  pub before : a.cost ≡ c → a.steps ≡ h → a.from ≤ u

-- what pushing the hops of a settled place adds to what is pending
abbrev pub coming_by : ℕ → Arrival → Hop → Coming
coming_by i a h = record { cost = a.cost + h.cost; steps = a.steps + 1; from = i; place = h.to }

pub record PushesHops (arrivals : List (Option Arrival)) (hops : List Hop) (i : ℕ) (a : Arrival) (old new : List (Reverse Coming)) : Type 0 where
  pub kept : (e : Coming) → IsPendingIn old e → IsPendingIn new e
  pub only : (e : Coming) → IsPendingIn new e → IsPendingIn old e ⊎ ((h : Hop) × Contains hops h × (e ≡ coming_by i a h) × (h.cost < 18446744073709551616))
  pub whole : (h : Hop) → Contains hops h → IsSettledAt arrivals h.to ⊎ IsPendingIn new (coming_by i a h)

-- what taking the first one whose place is free does to what is pending
pub record TakesFirst (arrivals : List (Option Arrival)) (old new : List (Reverse Coming)) (x : Coming) : Type 0 where
  pub was : IsPendingIn old x
  pub free : IsFree arrivals x.place
  pub left : (e : Coming) → IsPendingIn old e → (e ≡ x) ⊎ (IsPendingIn new e ⊎ IsSettledAt arrivals e.place)
  pub only : (e : Coming) → IsPendingIn new e → IsPendingIn old e
  pub least : (e : Coming) → IsPendingIn new e → is_lt (coming_cmp e x) ≡ false

-- where the search begins
abbrev pub first_arrival : ℕ → Arrival
first_arrival s = record { cost = 0; steps = 0; from = s }

abbrev pub first_coming : ℕ → Coming
first_coming s = record { cost = 0; steps = 0; from = s; place = s }

module _ (step : Node → Node → Bool) (cost : Node → Node → ℕ) (nodes : List Node) (s : ℕ) where
  -- it is the place where the search begins, or a step leads to it from a place that is settled
  abbrev pub IsReal : List (Option Arrival) → ℕ → ℕ → ℕ → ℕ → Type 0
  IsReal arrivals i c h u = ((i ≡ s) × (h ≡ 0))
      ⊎ ((b : Arrival) × (m n : Node) × HasArrival arrivals u b × IsAt nodes u m × IsAt nodes i n × IsTrue (step m n) × (b.cost + cost m n ≤ c) × (h ≡ b.steps + 1))

  -- a place is settled no later than by this step, or it is pending so
  abbrev pub IsServed : List (Option Arrival) → (Coming → Type 0) → ℕ → ℕ → ℕ → ℕ → Type 0
  IsServed arrivals Pending j c h i = ((b : Arrival) × HasArrival arrivals j b × IsNoLater b c h i) ⊎ ((e : Coming) × Pending e × (e.place ≡ j) × IsNoLater (arrival_of e) c h i)

  pub record IsUnderWay (arrivals : List (Option Arrival)) (Pending : Coming → Type 0) : Type 0 where
    pub count : length arrivals ≡ length nodes
    pub inside : (e : Coming) → Pending e → e.place < length nodes
    pub real : (i : ℕ) (a : Arrival) → HasArrival arrivals i a → IsReal arrivals i a.cost a.steps a.from
    pub pending_real : (e : Coming) → Pending e → IsReal arrivals e.place e.cost e.steps e.from
    pub closed : (i j : ℕ) (a : Arrival) (n m : Node) → HasArrival arrivals i a → IsAt nodes i n → IsAt nodes j m → IsTrue (step n m)
        → IsServed arrivals Pending j (a.cost + cost n m) (a.steps + 1) i
    pub ordered : (i : ℕ) (a : Arrival) (e : Coming) → HasArrival arrivals i a → Pending e → IsNoLater a e.cost e.steps e.from
    pub few_steps : (e : Coming) → Pending e → e.steps + free_count arrivals ≤ length nodes
    pub small : (e : Coming) → Pending e → e.cost ≤ e.steps * 18446744073709551616

  -- what is to be settled next
  pub record IsNext (arrivals : List (Option Arrival)) (Pending : Coming → Type 0) (x : Coming) : Type 0 where
    pub way : IsUnderWay arrivals (λ e. (e ≡ x) ⊎ Pending e)
    pub free : IsFree arrivals x.place
    pub least : (e : Coming) → Pending e → IsNoLater (arrival_of x) e.cost e.steps e.from
    pub begun : HasArrival arrivals s (first_arrival s) ⊎ (x ≡ first_coming s)

  -- the search is done: nothing is pending
  pub record IsDone (arrivals : List (Option Arrival)) : Type 0 where
    pub begun : HasArrival arrivals s (first_arrival s)
    pub way : IsUnderWay arrivals (λ e. ⊥)

-- ---- what a search that is done tells of nodes

-- the place before, or none where there are no steps
abbrev pub IsPlaceBefore : List (Option Arrival) → ℕ → Option ℕ → Type 0
IsPlaceBefore arrivals i before = (a : Arrival) × HasArrival arrivals i a × MatchOption before (a.steps ≡ 0) (λ j. (a.from ≡ j) × (0 < a.steps))

-- the number of steps that the best walk to the place takes
abbrev pub steps_to : List (Option Arrival) → ℕ → ℕ
steps_to arrivals i = option_map_or (λ o. option_map_or (λ a. a.steps) o 0) (slice_get arrivals i) 0

module _ (nodes : List Node) (arrivals : List (Option Arrival)) where
  -- the best walk to the node costs so much, takes so many steps, and has this node before its last
  pub record HasBest (n : Node) (c h : ℕ) (u : Node) : Type 0 where
    pub place : ℕ
    pub arrival : Arrival
    pub at : IsAt nodes place n
    pub has : HasArrival arrivals place arrival
    pub costs : arrival.cost ≡ c
    pub steps : arrival.steps ≡ h
    pub from : IsAt nodes arrival.from u

  -- each place is settled
  abbrev pub AreAllSettled : Type 0
  AreAllSettled = (i : ℕ) → i < length nodes → IsSettledAt arrivals i

  -- a walk can be followed back from each place that is settled
  abbrev pub CanTrace : Type 0
  CanTrace = (i : ℕ) (a : Arrival) → HasArrival arrivals i a
      → ((u : Node) × IsAt nodes a.from u) × (0 < a.steps → (b : Arrival) × HasArrival arrivals a.from b × (a.steps ≡ b.steps + 1))

  -- the labels are the costs at the places
  pub record AreLabelsOf (labels : List Label) (k : ℕ) : Type 0 where
    pub count : length labels ≡ k
    pub costs : (i : ℕ) (l : Label) → slice_get labels i ≡ Some l → (n : Node) × (a : Arrival) × IsAt nodes i n × HasArrival arrivals i a × (l.port ≡ n.port) × (l.cost ≡ a.cost)
    pub ports : label_ports labels ≡ ports_of (take k nodes)

  -- the ports, read back from the node at the place, are those of a chain
  abbrev pub AreTraced : Node → List Port → Type 0
  AreTraced n ports = (more : List Node) × (ports ≡ ports_of (n ∷ more)) × IsChain HasBest n more

  -- what is found of the best walk to the node: its cost and its ports, or neither where no place is the node's
  pub record IsFoundAt (to : Node) (found : PathFound) : Type 0 where
    pub path : MatchOption found.cost ((found.nodes ≡ []) × (Contains nodes to → ⊥))
        (λ c. (h : ℕ) × (u : Node) × (more : List Node) × HasBest to c h u × IsChain HasBest to more × (found.nodes ≡ ports_of (reverse (to ∷ more))))
