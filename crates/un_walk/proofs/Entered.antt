-- Nodes with their entries, told one by one and in another order.
use Rattle.std.proofs.Common.{◌≡◌, ◌+◌, ◌<◌, false, ◌||◌, List, [], ◌∷◌, ◌++◌, length, IsPermutation, IsSorted, is_lt, Ordering, Less, Equal, Greater, nat_cmp, int_cmp, Option, None, refl, sym, ap, ◌∙◌, inl, inr, arith}
use Rattle.std.specs.List.{list_any}
use Rattle.std.specs.Option.{option_map_or}
use Rattle.std.specs.Ordering.{ordering_then}
use Rattle.std.specs.List.Sorted.{IsSortedByKey}
use Rattle.std.proofs.lemmas.List.{length-map, get_or-map}
use Rattle.std.proofs.lemmas.List.Sorted.{Contains-permutation, IsPermutation-sym}
use Rattle.un_defs.specs.contracts.port.NodeOrd.TheImpl as order
use Rattle.un_defs.specs.declared.port.Node.{Node}
use Rattle.un_defs.specs.declared.star.Spot.{Spot}
use Rattle.un_defs.specs.declared.walk.Barriers.{Barriers}
use Rattle.un_defs.specs.Orders.{same_port, node_cmp}
use Rattle.un_defs.specs.Ground.{Ground, entry}
use Rattle.un_defs.specs.Reach.{meets_condition, is_barrier}
use Rattle.un_defs.proofs.Rising.{Among}
use Rattle.un_defs.proofs.Members.{contains_from_among, among_from_contains}
use Rattle.un_walk.specs.declared.seen.Seen.{Seen}
use Rattle.un_walk.specs.Seen.{node_of, spot_of, nodes_of, HaveEntries, is_barrier_by}

abbrev pub head_of : List (Option Spot) → Option Spot
head_of [] = None
head_of (o ∷ os) = o

abbrev pub tail_of : List (Option Spot) → List (Option Spot)
tail_of [] = []
tail_of (o ∷ os) = os

-- each node was seen with its entry
abbrev pub AreEntries : Ground → List Seen → Type 0
AreEntries G seen = (s : Seen) → Among seen s → spot_of s ≡ entry G s.node

pub each_entry : (G : Ground) (seen : List Seen) → HaveEntries G seen → AreEntries G seen
each_entry G [] e s h = absurd h
each_entry G (t ∷ ts) e s h =
    elim h [
      | inl same ↦ subst_entry t s same (ap head_of e)
      | inr g ↦ each_entry G ts (ap tail_of e) s g
    ]
  where
    subst_entry : (t s : Seen) → t ≡ s → spot_of t ≡ entry G t.node → spot_of s ≡ entry G s.node
    subst_entry t s same f = ap spot_of (sym same) ∙ f ∙ ap (λ (x : Seen). entry G x.node) same

pub all_entries : (G : Ground) (seen : List Seen) → AreEntries G seen → HaveEntries G seen
all_entries G [] each = refl
all_entries G (t ∷ ts) each = λ i. each t (inl refl) i ∷ all_entries G ts (λ s h. each s (inr h)) i

-- one node more
pub nodes_end : (seen : List Seen) (one : Seen) → nodes_of (seen ++ one ∷ []) ≡ nodes_of seen ++ one.node ∷ []
nodes_end [] one = refl
nodes_end (s ∷ seen) one = ap (λ ns. s.node ∷ ns) (nodes_end seen one)

pub entries_end : (G : Ground) (seen : List Seen) (one : Seen) → HaveEntries G seen → spot_of one ≡ entry G one.node → HaveEntries G (seen ++ one ∷ [])
entries_end G [] one e here = ap (λ o. o ∷ []) here
entries_end G (s ∷ seen) one e here = λ i. head_of (e i) ∷ entries_end G seen one (ap tail_of e) here i

-- in another order they have their entries too
pub moved_entries : (G : Ground) (xs ys : List Seen) → IsPermutation xs ys → HaveEntries G xs → HaveEntries G ys
moved_entries G xs ys moved e =
    all_entries G ys (λ s h. each_entry G xs e s
    (among_from_contains xs s (Contains-permutation ys xs s (IsPermutation-sym xs ys moved) (contains_from_among ys s h))))

at_end : (k : Ordering) → k ≡ ordering_then k Equal
at_end Less = refl
at_end Equal = refl
at_end Greater = refl

-- the order of the code's nodes is the one of the definitions
pub node_alike : (n m : Node) → order.ghosts.cmp n m ≡ node_cmp n m
node_alike n m = λ i. ordering_then
    (ordering_then (nat_cmp n.port.feature m.port.feature) (at_end (nat_cmp n.port.number m.port.number) i))
    (ordering_then (int_cmp n.at.x m.at.x) (ordering_then (int_cmp n.at.y m.at.y) (at_end (int_cmp n.at.z m.at.z) i)))

-- sorted by their nodes, the nodes are sorted
pub sorted_nodes : (xs : List Seen) → IsSortedByKey node_of node_cmp xs → IsSorted node_cmp (nodes_of xs)
sorted_nodes xs sorted k d low high =
    let e : Seen = record { node = d; spot = None } in
    let within : k + 1 < length xs = omega (arith, high, length-map xs node_of) in
    (λ i. is_lt (node_cmp (get_or-map node_of xs (k + 1) e d within i) (get_or-map node_of xs k e d (omega (arith, within)) i))) ∙ sorted k e low within

-- the entry tells what the ground tells of it
pub barrier_by : (G : Ground) (B : Barriers) (s : Seen) → spot_of s ≡ entry G s.node → is_barrier_by B s ≡ is_barrier G B s.node
barrier_by G B s e = λ i. option_map_or (meets_condition B) (e i) false || list_any (same_port s.node.port) B.stops
