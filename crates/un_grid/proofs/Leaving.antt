-- One node after another is taken out.
use Rattle.std.proofs.Common.{◌≡◌, Bool, true, false, cond, not, ◌||◌, List, [], ◌∷◌, ◌++◌, map, filter, refl, sym, ap, ◌∙◌, if◌then◌else◌, true≢false}
use Rattle.std.specs.List.{list_any}
use Rattle.std.proofs.lemmas.List.{append-nil}
use Rattle.un_geom.specs.declared.point.Point.{Point}
use Rattle.un_geom.specs.Places.{same_point}
use Rattle.un_defs.specs.declared.port.Port.{Port}
use Rattle.un_defs.specs.declared.port.Node.{Node}
use Rattle.un_defs.specs.Orders.{same_port}
use Rattle.un_defs.specs.Ports.{standing_at}
use Rattle.un_defs.proofs.Near.{false_unless}
use Rattle.un_defs.proofs.Unique.{point_same, point_itself}
use Rattle.un_defs.proofs.ListLemmas.{filter-append}
use Rattle.un_grid.specs.Grids.{ports_in, standing, without_ports, LacksNodes}
use Rattle.un_grid.proofs.Putting.{Entries}
use Rattle.un_grid.proofs.Inserting.{map-append}
use Rattle.un_grid.proofs.Taking.{others}

-- ---- the ports of one node more

standing_here : (before : List Node) (n : Node) (r : Point) → same_point r n.at ≡ true → standing (before ++ n ∷ []) r ≡ standing before r ++ n.port ∷ []
standing_here before n r e =
    let own : same_point n.at r ≡ true = ap (same_point n.at) (point_same r n.at e) ∙ point_itself n.at in
    ap (map (λ n. n.port)) (filter-append (λ m. same_point m.at r) before (n ∷ []) ∙ ap (λ b. standing_at r before ++ cond b (n ∷ []) []) own)
    ∙ map-append (λ n. n.port) (standing_at r before) (n ∷ [])

standing_elsewhere : (before : List Node) (n : Node) (r : Point) → same_point r n.at ≡ false → standing (before ++ n ∷ []) r ≡ standing before r
standing_elsewhere before n r e =
    let other : same_point n.at r ≡ false = false_unless (same_point n.at r) (λ t. true≢false (sym (ap (same_point r) (point_same n.at r t) ∙ point_itself r) ∙ e)) in
    ap (map (λ n. n.port)) (filter-append (λ m. same_point m.at r) before (n ∷ []) ∙ ap (λ b. standing_at r before ++ cond b (n ∷ []) []) other
    ∙ append-nil (standing_at r before))

-- ---- a list without one port more

any_more : (test : Port → Bool) (gone : List Port) (q : Port) → list_any test (gone ++ q ∷ []) ≡ (list_any test gone || test q)
any_more test [] q = elim (test q) as (λ b. (b || false) ≡ b) [ true ↦ refl | false ↦ refl ]
any_more test (s ∷ gone) q = ap (λ b. test s || b) (any_more test gone q) ∙ joined (test s) (list_any test gone) (test q)
  where
    joined : (a b c : Bool) → (a || (b || c)) ≡ ((a || b) || c)
    joined true b c = refl
    joined false b c = refl

filtered_twice : (p q r : Port → Bool) (xs : List Port) → ((x : Port) → p x ≡ (q x || r x)) → filter (λ x. not (p x)) xs ≡ filter (λ x. not (r x)) (filter (λ x. not (q x)) xs)
filtered_twice p q r [] h = refl
filtered_twice p q r (x ∷ xs) h = ap (λ b. cond (not b) (x ∷ filter (λ x. not (p x)) xs) (filter (λ x. not (p x)) xs)) (h x) ∙ by (q x) (r x) refl (filtered_twice p q r xs h)
  where
    by : (b c : Bool) → r x ≡ c → filter (λ x. not (p x)) xs ≡ filter (λ x. not (r x)) (filter (λ x. not (q x)) xs)
        → cond (not (b || c)) (x ∷ filter (λ x. not (p x)) xs) (filter (λ x. not (p x)) xs) ≡ filter (λ x. not (r x)) (cond (not b) (x ∷ filter (λ x. not (q x)) xs) (filter (λ x. not (q x)) xs))
    by true c e rest = rest
    by false true e rest = rest ∙ sym (ap (λ b. cond (not b) (x ∷ filter (λ x. not (r x)) (filter (λ x. not (q x)) xs)) (filter (λ x. not (r x)) (filter (λ x. not (q x)) xs))) e)
    by false false e rest = ap (λ l. x ∷ l) rest ∙ sym (ap (λ b. cond (not b) (x ∷ filter (λ x. not (r x)) (filter (λ x. not (q x)) xs)) (filter (λ x. not (r x)) (filter (λ x. not (q x)) xs))) e)

without_more : (here gone : List Port) (q : Port) → others q (without_ports here gone) ≡ without_ports here (gone ++ q ∷ [])
without_more here gone q = sym (filtered_twice (λ s. list_any (same_port s) (gone ++ q ∷ [])) (λ s. list_any (same_port s) gone) (λ s. same_port s q) here (λ s. any_more (same_port s) gone q))

all_kept : (xs : List Port) → without_ports xs [] ≡ xs
all_kept [] = refl
all_kept (x ∷ xs) = ap (λ l. x ∷ l) (all_kept xs)

-- ---- the turns of the loop

-- no node yet
pub none_less : (old : Entries) → LacksNodes old [] old
none_less old p = sym (all_kept (ports_in old p))

-- one node less
pub one_less : (old grid new : Entries) (before : List Node) (n : Node) → LacksNodes old before grid
    → ((r : Point) → ports_in new r ≡ (if same_point r n.at then others n.port (ports_in grid r) else ports_in grid r))
    → LacksNodes old (before ++ n ∷ []) new
one_less old grid new before n lacks take r = take r ∙ go (same_point r n.at) refl
  where
    go : (b : Bool) → same_point r n.at ≡ b → (if b then others n.port (ports_in grid r) else ports_in grid r) ≡ without_ports (ports_in old r) (standing (before ++ n ∷ []) r)
    go true e =
        ap (others n.port) (lacks r)
        ∙ without_more (ports_in old r) (standing before r) n.port
        ∙ ap (without_ports (ports_in old r)) (sym (standing_here before n r e))
    go false e = lacks r ∙ ap (without_ports (ports_in old r)) (sym (standing_elsewhere before n r e))
