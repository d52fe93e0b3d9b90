-- The features of some elements with their numbers: with one run more, read through a map, and from other elements with the same members.
use Rattle.std.proofs.Common.{◌≡◌, ℕ, ◌==◌, Bool, List, [], ◌∷◌, ◌++◌, map, filter, sym, ap, subst, ◌∙◌}
use Rattle.std.specs.Ordering.{nat_cmp}
use Rattle.std.proofs.lemmas.Cmp.{nat_cmp_total}
use Rattle.un_defs.specs.declared.port.Node.{Node}
use Rattle.un_defs.specs.Orders.{rising}
use Rattle.un_defs.specs.Result.{feature_ids, nodes_of_feature}
use Rattle.un_defs.proofs.Rising.{Among, rising_same}
use Rattle.un_defs.proofs.Members.{among_from-map, among-map, among_from-filter, among-filter}
use Rattle.un_defs.proofs.ListLemmas.{map-map, filter-map}
use Rattle.un_trace.specs.Ports.{part_with, parts_by, port_of}
use Rattle.un_trace.specs.TraceReply.{part_of, parts}
use Rattle.un_trace.proofs.Runs.{of_key, IsRunAfter, map_runs, number_ties}

-- with one run more
pub parts_by_more : {A : Type 0} (feature number : A → ℕ) (xs run : List A) (k : ℕ) → IsRunAfter feature xs run k
    → parts_by feature number (xs ++ run) ≡ parts_by feature number xs ++ part_with k (map number run) ∷ []
parts_by_more feature number = map_runs feature (λ id run. part_with id (map number run))

-- read through a map
pub parts_by-map : {A B : Type 0} (feature number : B → ℕ) (f : A → B) (xs : List A)
    → parts_by feature number (map f xs) ≡ parts_by (λ x. feature (f x)) (λ x. number (f x)) xs
parts_by-map {A} {B} feature number f xs =
    λ i. map (λ id. part_with id (numbers id i)) (rising nat_cmp (map-map f feature xs i))
  where
    numbers : (id : ℕ) → map number (filter (λ y. feature y == id) (map f xs)) ≡ map (λ x. number (f x)) (filter (λ x. feature (f x) == id) xs)
    numbers id = ap (map number) (filter-map f (λ y. feature y == id) xs) ∙ map-map f number (filter (λ x. feature (f x) == id) xs)

-- the parts of nodes are told of their ports
pub parts_of_nodes : (ns : List Node) → parts ns ≡ parts_by (λ q. q.feature) (λ q. q.number) (map port_of ns)
parts_of_nodes ns =
    map-map (λ (id : ℕ). (id, rising nat_cmp (map (λ n. n.port.number) (nodes_of_feature ns id)))) part_of (feature_ids ns)
    ∙ sym (parts_by-map (λ q. q.feature) (λ q. q.number) port_of ns)

-- ---- lists with the same members

abbrev pub AreAmong : {A : Type 0} → List A → List A → Type 0
AreAmong {A} xs ys = (x : A) → Among xs x → Among ys x

pub among_mapped : {A B : Type 0} (f : A → B) (xs ys : List A) → AreAmong xs ys → AreAmong (map f xs) (map f ys)
among_mapped f xs ys h y g = let m = among_from-map f xs y g in subst (Among (map f ys)) m.2 (among-map f ys m.0 (h m.0 m.1))

pub among_filtered : {A : Type 0} (p : A → Bool) (xs ys : List A) → AreAmong xs ys → AreAmong (filter p xs) (filter p ys)
among_filtered p xs ys h x g = let m = among_from-filter p xs x g in among-filter p ys x (h x m.0) m.1

same_rising : {A : Type 0} (f : A → ℕ) (xs ys : List A) → AreAmong xs ys → AreAmong ys xs → rising nat_cmp (map f xs) ≡ rising nat_cmp (map f ys)
same_rising f xs ys to from =
    rising_same nat_cmp_total (map f xs) (map f ys) (number_ties (map f xs)) (number_ties (map f ys)) (among_mapped f xs ys to) (among_mapped f ys xs from)

pub parts_same : {A : Type 0} (feature number : A → ℕ) (xs ys : List A) → AreAmong xs ys → AreAmong ys xs → parts_by feature number xs ≡ parts_by feature number ys
parts_same {A} feature number xs ys to from =
    λ i. map (λ id. record { feature = id; numbers = numbers id i }) (same_rising feature xs ys to from i)
  where
    numbers : (id : ℕ) → rising nat_cmp (map number (of_key feature xs id)) ≡ rising nat_cmp (map number (of_key feature ys id))
    numbers id =
        same_rising number (of_key feature xs id) (of_key feature ys id)
        (among_filtered (λ x. feature x == id) xs ys to) (among_filtered (λ x. feature x == id) ys xs from)
