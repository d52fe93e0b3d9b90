-- Lists that have each node once: one more at the end, and in rising order.
use Rattle.std.proofs.Common.{◌≡◌, suc, length, inl, inr, ◌+◌, Bool, true, false, List, [], ◌∷◌, get_or, IsPermutation, IsSorted, is_lt, Ordering, Less, Equal, Greater, refl, sym, ap, subst, ◌∙◌, true≢false, arith}
use Rattle.std.specs.List.{AllByRecursion, IsDistinct}
use Rattle.std.specs.List.Sorted.{IsStrictlySortedBy}
use Rattle.std.specs.Ordering.{ordering_reverse, match_ordering}
use Rattle.std.specs.Cmp.{IsEquivalence}
use Rattle.std.proofs.lemmas.List.Sorted.{Contains-permutation, IsPermutation-sym}
use Rattle.std.proofs.lemmas.Map.Keys.{IsDistinct-IsPermutation, IsDistinct-head, IsDistinct-tail, apart_from_distinct, sorted_from_all_adjacent}
use Rattle.std.specs.BTreeSet.{insert_key}
use Rattle.un_defs.proofs.Members.{contains_from_among, among_from_contains}
use Rattle.un_defs.proofs.Rising.{Among, among-rising, among_from-rising, sorted-rising, sorted_unique}
use Rattle.std.proofs.lemmas.List.Sorted.{IsPermutation-map}
use Rattle.un_walk.specs.declared.seen.Seen.{Seen}
use Rattle.un_walk.specs.declared.found.Found.{Found}
use Rattle.un_walk.specs.Found.{seens, nodes}
use Rattle.un_walk.specs.Seen.{node_of, nodes_of}
use Rattle.un_defs.specs.declared.port.Node.{Node}
use Rattle.un_defs.specs.Orders.{same_node, node_cmp, rising}
use Rattle.un_defs.proofs.OrderLaws.{node_total, node_ties}
use Rattle.un_defs.proofs.Unique.{node_same, node_itself}

both_or_neither : (b c : Bool) → (b ≡ true → c ≡ true) → (c ≡ true → b ≡ true) → b ≡ c
both_or_neither true c f g = sym (f refl)
both_or_neither false true f g = g refl
both_or_neither false false f g = refl

pub same_node_turns : (n m : Node) → same_node n m ≡ same_node m n
same_node_turns n m = both_or_neither (same_node n m) (same_node m n)
    (λ e. let same = node_same n m e in subst (λ k. same_node k n ≡ true) same (node_itself n))
    (λ e. let same = node_same m n e in subst (λ k. same_node k m ≡ true) same (node_itself m))

pub same_node_laws : IsEquivalence same_node
same_node_laws = record {
  refl = node_itself;
  symm = same_node_turns;
  congr = λ x y z e. ap (λ k. same_node k z) (node_same x y e);
}

turned_less : (k j : Ordering) → k ≡ ordering_reverse j → is_lt j ≡ false → ¬ (k ≡ Equal) → k ≡ Less
turned_less Less j e f g = refl
turned_less Equal j e f g = absurd (g refl)
turned_less Greater Less e f g = absurd (true≢false f)
turned_less Greater Equal e f g = absurd (let h : Greater ≡ Equal = e in cc)
turned_less Greater Greater e f g = let h : Greater ≡ Less = e in absurd (cc)

-- distinct nodes that are sorted rise
pub rises : (xs ys : List Node) → IsDistinct same_node xs → IsPermutation xs ys → IsSorted node_cmp ys → IsStrictlySortedBy node_cmp ys
unfolding IsStrictlySortedBy
rises xs ys distinct moved sorted = go ys (IsDistinct-IsPermutation same_node same_node_turns xs ys moved distinct) sorted
  where
    go : (ys : List Node) → IsDistinct same_node ys → IsSorted node_cmp ys → IsStrictlySortedBy node_cmp ys
    go [] distinct sorted = tt
    go (y ∷ ys) distinct sorted =
        sorted_from_all_adjacent node_total (y ∷ ys) y (λ k in_range.
        let a = get_or (y ∷ ys) k y in
        let b = get_or (y ∷ ys) (k + 1) y in
        turned_less (node_cmp a b) (node_cmp b a) (node_total.antisymm a b) (sorted k y (omega arith) in_range)
        (λ e. true≢false (sym (node_itself a) ∙ ap (same_node a) (node_ties a b e)
        ∙ apart_from_distinct same_node (y ∷ ys) k (k + 1) y distinct (omega arith) in_range)))

-- ---- in order

pub node_in_order : (ns : List Node) (n : Node) → Among ns n → Among (rising node_cmp ns) n
node_in_order ns n h = among-rising node_cmp ns (λ a b _ _ e. node_ties a b e) n h

pub node_from_order : (ns : List Node) (n : Node) → Among (rising node_cmp ns) n → Among ns n
node_from_order ns n h = among_from-rising node_cmp ns n h

-- distinct nodes that are sorted are the nodes in order
pub in_order_is : (ns out : List Node) → IsDistinct same_node ns → IsPermutation ns out → IsSorted node_cmp out → rising node_cmp ns ≡ out
in_order_is ns out distinct moved sorted =
    sorted_unique node_total (rising node_cmp ns) out (sorted-rising node_total ns) (rises ns out distinct moved sorted)
    (λ n h. among_from_contains out n (Contains-permutation ns out n moved (contains_from_among ns n (node_from_order ns n h))))
    (λ n h. node_in_order ns n (among_from_contains ns n (Contains-permutation out ns n (IsPermutation-sym ns out moved) (contains_from_among out n h))))

by_rank : (P : List Node → Type 0) (k : Ordering) (xs ys zs : List Node) → (k ≡ Less → P xs) → (k ≡ Equal → P ys) → (k ≡ Greater → P zs) → P (match_ordering k xs ys zs)
by_rank P Less xs ys zs a b c = a refl
by_rank P Equal xs ys zs a b c = b refl
by_rank P Greater xs ys zs a b c = c refl

length_inserted : (ns : List Node) (n : Node) → ((m : Node) → Among ns m → node_cmp n m ≡ Equal → ⊥) → length (insert_key node_cmp ns n) ≡ suc (length ns)
length_inserted [] n apart = refl
length_inserted (m ∷ ns) n apart =
    by_rank (λ l. length l ≡ suc (suc (length ns))) (node_cmp n m) (n ∷ m ∷ ns) (m ∷ ns) (m ∷ insert_key node_cmp ns n)
    (λ e. refl) (λ e. absurd (apart m (inl refl) e)) (λ e. ap suc (length_inserted ns n (λ k h. apart k (inr h))))

each_among : (P : Node → Type 0) (ns : List Node) (n : Node) → AllByRecursion P ns → Among ns n → P n
each_among P [] n h a = absurd a
each_among P (m ∷ ns) n h a = elim a [ inl e ↦ subst P e h.0 | inr b ↦ each_among P ns n h.1 b ]

-- distinct nodes are as many in order
pub count_in_order : (ns : List Node) → IsDistinct same_node ns → length (rising node_cmp ns) ≡ length ns
count_in_order [] d = refl
count_in_order (n ∷ ns) d =
    length_inserted (rising node_cmp ns) n
    (λ m h e. true≢false (sym (node_itself n) ∙ ap (same_node n) (node_ties n m e) ∙ each_among (λ k. same_node n k ≡ false) ns m (IsDistinct-head same_node n ns d) (node_from_order ns m h)))
    ∙ ap suc (count_in_order ns (IsDistinct-tail same_node n ns d))

-- the sorted nodes are those that were found, in order
pub sorted_are : (f : Found) (seen : List Seen) → IsPermutation (seens f) seen → IsDistinct same_node (nodes f) → IsSorted node_cmp (nodes_of seen) → rising node_cmp (nodes f) ≡ nodes_of seen
sorted_are f seen moved distinct sorted = in_order_is (nodes f) (nodes_of seen) distinct (IsPermutation-map node_of (seens f) seen moved) sorted
