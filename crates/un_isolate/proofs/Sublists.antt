-- Filtered lists in order, and the ports of nodes in order.
use Rattle.std.proofs.Common.{◌≡◌, Bool, true, false, cond, List, [], ◌∷◌, filter, inl, inr, refl, sym, subst, ◌∙◌, Ordering, Less, Equal, Greater, Contains}
use Rattle.std.specs.Ordering.{ordering_then}
use Rattle.std.specs.List.{AllByRecursion}
use Rattle.std.specs.List.Sorted.{IsStrictlySortedBy}
use Rattle.std.proofs.lemmas.Cmp.{tied_itself}
use Rattle.un_geom.specs.Places.{point_cmp}
use Rattle.un_defs.specs.declared.port.Node.{Node}
use Rattle.un_defs.specs.Orders.{port_cmp, node_cmp}
use Rattle.un_defs.specs.Linked.{HaveOwnPorts}
use Rattle.un_defs.proofs.Rising.{Among}
use Rattle.un_defs.proofs.Members.{contains_from_among, among_from_contains}
use Rattle.un_defs.proofs.OrderLaws.{port_ties, node_total}
use Rattle.un_isolate.specs.IsolationList.{ports_of}
use Rattle.un_isolate.proofs.Least.{all_among}

all_filter : {A : Type 0} (P : A → Type 0) (p : A → Bool) (xs : List A) → AllByRecursion P xs → AllByRecursion P (filter p xs)
all_filter P p [] h = tt
all_filter P p (x ∷ xs) h =
    let rest = all_filter P p xs h.1 in
    elim (p x) as (λ b. AllByRecursion P (cond b (x ∷ filter p xs) (filter p xs))) [
      | true ↦ (h.0, rest)
      | false ↦ rest
    ]

-- what is kept of a list in order is in order
pub sorted-filter : {A : Type 0} (cmp : A → A → Ordering) (p : A → Bool) (xs : List A) → IsStrictlySortedBy cmp xs → IsStrictlySortedBy cmp (filter p xs)
unfolding IsStrictlySortedBy
sorted-filter cmp p [] h = tt
sorted-filter cmp p (x ∷ xs) h =
    let rest = sorted-filter cmp p xs h.1 in
    elim (p x) as (λ b. IsStrictlySortedBy cmp (cond b (x ∷ filter p xs) (filter p xs))) [
      | true ↦ (all_filter (λ y. cmp x y ≡ Less) p xs h.0, rest)
      | false ↦ rest
    ]

-- of two nodes in order with ports of their own the ports are in order
port_less : (n m : Node) → ¬ (n.port ≡ m.port) → node_cmp n m ≡ Less → port_cmp n.port m.port ≡ Less
port_less n m apart e = go (port_cmp n.port m.port) refl e
  where
    go : (k : Ordering) → port_cmp n.port m.port ≡ k → ordering_then k (point_cmp n.at m.at) ≡ Less → k ≡ Less
    go Less is f = refl
    go Equal is f = absurd (apart (port_ties n.port m.port is))
    go Greater is f = f

not_less_itself : (n : Node) → ¬ (node_cmp n n ≡ Less)
not_less_itself n e = let same : node_cmp n n ≡ Equal = tied_itself node_total n in let clash : Less ≡ Equal = sym e ∙ same in cc

ports_after : (n : Node) (ns : List Node) → ((m : Node) → Among ns m → ¬ (n.port ≡ m.port)) → AllByRecursion (λ m. node_cmp n m ≡ Less) ns → AllByRecursion (λ q. port_cmp n.port q ≡ Less) (ports_of ns)
ports_after n [] apart h = tt
ports_after n (m ∷ ns) apart h = (port_less n m (apart m (inl refl)) h.0, ports_after n ns (λ k i. apart k (inr i)) h.1)

-- the ports of nodes in order with ports of their own are in order
pub ports_sorted : (ns : List Node) → HaveOwnPorts ns → IsStrictlySortedBy node_cmp ns → IsStrictlySortedBy port_cmp (ports_of ns)
unfolding IsStrictlySortedBy
ports_sorted [] own h = tt
ports_sorted (n ∷ ns) own h = (
  ports_after n ns (λ m i e. not_less_itself m (subst (λ k. node_cmp k m ≡ Less) (own n m (contains_from_among (n ∷ ns) n (inl refl)) (contains_from_among (n ∷ ns) m (inr i)) e) (all_among (λ k. node_cmp n k ≡ Less) ns h.0 m i))) h.0,
  ports_sorted ns (λ a b i j e. own a b (again a i) (again b j) e) h.1,
)
  where
    again : (a : Node) → Contains ns a → Contains (n ∷ ns) a
    again a i = contains_from_among (n ∷ ns) a (inr (among_from_contains ns a i))
