-- The laws of isolation: the needed ports separate, and each set of ports of the border that separates has them all.
use Rattle.std.proofs.Common.{◌≡◌, Bool, true, false, not, ◌&&◌, ◌||◌, List, [], ◌∷◌, ◌++◌, inl, inr, refl, sym, ap, subst, ◌∙◌, Contains, true≢false}
use Rattle.std.specs.List.{list_any}
use Rattle.std.specs.Option.{option_map_or}
use Rattle.un_defs.specs.declared.port.Port.{Port}
use Rattle.un_defs.specs.declared.port.Node.{Node}
use Rattle.un_defs.specs.declared.walk.Mode.TheVariants.{Any}
use Rattle.un_defs.specs.Orders.{same_port}
use Rattle.un_defs.specs.Ground.{entry, ties, is_dirty}
use Rattle.un_defs.specs.Reach.{Follow, last_node, Walk, IsReach, is_open, is_barrier, goes_by, meets_condition}
use Rattle.un_defs.specs.Linked.{HaveOwnPorts}
use Rattle.un_isolate.specs.Isolation.{Isolation, is_isolating, is_controlled, goes, goes_inside, inner_starts, IsInner, IsBorder, IsBorderPort, IsIsolable, ports_on, IsNeeded, AreNeeded, shut, StartsAreClear}
use Rattle.un_isolate.specs.Laws.{SeparationLaw, LeastLaw}
use Rattle.un_defs.proofs.Rising.{Among}
use Rattle.un_defs.proofs.Members.{among_right, among_cases, among_from-filter, among-filter, among_from-map, among-map, contains_from_among, among_from_contains, among_from_list_any, list_any_from_among}
use Rattle.un_defs.proofs.LinkCases.{both_true, true_both}
use Rattle.un_defs.proofs.Unique.{port_same, port_itself}
use Rattle.un_defs.proofs.Walking.{walk_from_start, walk_on}

-- ---- walks that are joined

module _ (step : Node → Node → Bool) where
  pub follow_joined : (x : Node) (ms : List Node) (y : Node) (ks : List Node) → Follow step x ms → step (last_node x ms) y ≡ true → Follow step y ks → Follow step x (ms ++ y ∷ ks)
  follow_joined x [] y ks f e g = (e, g)
  follow_joined x (m ∷ ms) y ks f e g = (f.0, follow_joined m ms y ks f.1 e g)

pub last_joined : (x : Node) (ms : List Node) (y : Node) (ks : List Node) → last_node x (ms ++ y ∷ ks) ≡ last_node y ks
last_joined x [] y ks = refl
last_joined x (m ∷ ms) y ks = last_joined m ms y ks

pub follow_by : (step other : Node → Node → Bool) → ((n m : Node) → step n m ≡ true → other n m ≡ true) → (x : Node) (ms : List Node) → Follow step x ms → Follow other x ms
follow_by step other on x [] f = tt
follow_by step other on x (m ∷ ms) f = (on x m f.0, follow_by step other on m ms f.1)

-- ---- tests

pub false_not : (b : Bool) → not b ≡ true → b ≡ false
false_not true e = absurd (true≢false (sym e))
false_not false e = refl

not_false : (b : Bool) → b ≡ false → not b ≡ true
not_false b e = ap not e

pub by_test : {P : Type 0} (b : Bool) → (b ≡ true → P) → (b ≡ false → P) → P
by_test true f g = f refl
by_test false f g = g refl

any_joined : {A : Type 0} (p : A → Bool) (xs ys : List A) → list_any p (xs ++ ys) ≡ (list_any p xs || list_any p ys)
any_joined p [] ys = refl
any_joined p (x ∷ xs) ys = go (p x) (any_joined p xs ys)
  where
    go : (b : Bool) → list_any p (xs ++ ys) ≡ (list_any p xs || list_any p ys) → (b || list_any p (xs ++ ys)) ≡ ((b || list_any p xs) || list_any p ys)
    go true e = refl
    go false e = e

open_before : (a b c d : Bool) → (not (a || (b || c)) && d) ≡ true → ((not (a || b) && d) ≡ true) × (c ≡ false)
open_before true b c d h = absurd (true≢false (sym h))
open_before false true c d h = absurd (true≢false (sym h))
open_before false false true d h = absurd (true≢false (sym h))
open_before false false false d h = (h, refl)

open_after : (a b c d : Bool) → (not (a || b) && d) ≡ true → c ≡ false → (not (a || (b || c)) && d) ≡ true
open_after true b c d h e = absurd (true≢false (sym h))
open_after false true c d h e = absurd (true≢false (sym h))
open_after false false true d h e = absurd (true≢false e)
open_after false false false d h e = h

-- ---- steps with ports shut

module _ (I : Isolation) (ports : List Port) where
  barrier_with : (n : Node) → is_barrier I.over (shut I ports).barriers n
      ≡ (option_map_or (meets_condition I.barriers) (entry I.over n) false || (list_any (same_port n.port) I.barriers.stops || list_any (same_port n.port) ports))
  barrier_with n = ap (λ b. option_map_or (meets_condition I.barriers) (entry I.over n) false || b) (any_joined (same_port n.port) I.barriers.stops ports)

  -- a step with the ports shut is a step, and comes from none of them
  pub plain_step : (n m : Node) → goes (shut I ports) n m ≡ true → (goes I n m ≡ true) × (list_any (same_port n.port) ports ≡ false)
  plain_step n m h =
      let parts = both_true (is_open I.over (shut I ports).barriers n) (list_any (goes_by I.over I.barriers Any n m) (ties I.over n)) h in
      let opened = open_before (option_map_or (meets_condition I.barriers) (entry I.over n) false) (list_any (same_port n.port) I.barriers.stops) (list_any (same_port n.port) ports)
      (not (I.barriers.consistent && is_dirty I.over n.at))
      (subst (λ b. (not b && not (I.barriers.consistent && is_dirty I.over n.at)) ≡ true) (barrier_with n) parts.0) in
      (true_both (is_open I.over I.barriers n) (list_any (goes_by I.over I.barriers Any n m) (ties I.over n)) opened.0 parts.1, opened.1)

  -- a step from none of the ports is one with the ports shut
  pub shut_step : (n m : Node) → goes I n m ≡ true → list_any (same_port n.port) ports ≡ false → goes (shut I ports) n m ≡ true
  shut_step n m h e =
      let parts = both_true (is_open I.over I.barriers n) (list_any (goes_by I.over I.barriers Any n m) (ties I.over n)) h in
      let opened = open_after (option_map_or (meets_condition I.barriers) (entry I.over n) false) (list_any (same_port n.port) I.barriers.stops) (list_any (same_port n.port) ports)
      (not (I.barriers.consistent && is_dirty I.over n.at)) parts.0 e in
      true_both (is_open I.over (shut I ports).barriers n) (list_any (goes_by I.over I.barriers Any n m) (ties I.over n))
      (subst (λ b. (not b && not (I.barriers.consistent && is_dirty I.over n.at)) ≡ true) (sym (barrier_with n)) opened) parts.1

-- ---- inner nodes

module _ (I : Isolation) where
  -- what a step between nodes that do not isolate is
  pub inside_parts : (n m : Node) → goes_inside I n m ≡ true → (is_isolating I n ≡ false) × (is_isolating I m ≡ false) × (goes I n m ≡ true)
  inside_parts n m h =
      let first = both_true (not (is_isolating I n) && not (is_isolating I m)) (goes I n m) h in
      let two = both_true (not (is_isolating I n)) (not (is_isolating I m)) first.0 in
      (false_not (is_isolating I n) two.0, false_not (is_isolating I m) two.1, first.1)

  pub inside_step : (n m : Node) → is_isolating I n ≡ false → is_isolating I m ≡ false → goes I n m ≡ true → goes_inside I n m ≡ true
  inside_step n m a b e = true_both (not (is_isolating I n) && not (is_isolating I m)) (goes I n m) (true_both (not (is_isolating I n)) (not (is_isolating I m)) (not_false _ a) (not_false _ b)) e

  pub inside_goes : (n m : Node) → goes_inside I n m ≡ true → goes I n m ≡ true
  inside_goes n m h = (inside_parts n m h).2

  -- a walk that meets no isolating port begins at a start that does not isolate
  inner_begins : (n : Node) → (w : IsInner I n) → Among I.starts w.first × (is_isolating I w.first ≡ false)
  inner_begins n w =
      let h = among_from-filter (λ n. not (is_isolating I n)) I.starts w.first (among_from_contains _ _ w.begins) in
      (h.0, false_not (is_isolating I w.first) h.1)

  -- a node that is walked to, and that does not isolate
  pub record IsClear (n : Node) : Type 0 where
    pub walk : Walk (goes I) I.starts n
    pub clear : is_isolating I n ≡ false

  all_clear : (x : Node) (ms : List Node) → IsClear x → Follow (goes_inside I) x ms → (k : Node) → Among (x ∷ ms) k → IsClear k
  all_clear x [] c f k h = elim h [ inl e ↦ subst IsClear e c | inr i ↦ absurd i ]
  all_clear x (m ∷ ms) c f k h =
      let parts = inside_parts x m f.0 in
      let next : IsClear m = record { walk = walk_on (goes I) I.starts x m c.walk parts.2; clear = parts.1 } in
      let rest = all_clear m ms next f.1 k in
      elim h [ inl e ↦ subst IsClear e c | inr i ↦ rest i ]

  inner_clear : (n : Node) (w : IsInner I n) (k : Node) → Among (w.first ∷ w.rest) k → IsClear k
  inner_clear n w =
      let b = inner_begins n w in
      all_clear w.first w.rest (record { walk = walk_from_start (goes I) I.starts w.first b.0; clear = b.1 }) w.follows

  last_among : (x : Node) (ms : List Node) → Among (x ∷ ms) (last_node x ms)
  last_among x [] = inl refl
  last_among x (m ∷ ms) = inr (last_among m ms)

  pub inner_is_clear : (n : Node) → IsInner I n → IsClear n
  inner_is_clear n w = inner_clear n w n (subst (Among (w.first ∷ w.rest)) w.ends (last_among w.first w.rest))

  -- a node of the border is walked to
  pub border_walk : (n : Node) → IsBorder I n → Walk (goes I) I.starts n
  border_walk n b = walk_on (goes I) I.starts b.from n (inner_is_clear b.from b.inner).walk b.linked

-- ---- the needed ports separate

-- none of the ports of these nodes is
unfoldable pub Clear : (Port → Type 0) → Node → List Node → Type 0
Clear P x [] = ¬ (P x.port)
Clear P x (m ∷ ms) = (¬ (P x.port)) × Clear P m ms

pub from_clear : (P : Port → Type 0) (x : Node) (ms : List Node) → Clear P x ms → (k : Node) → Among (x ∷ ms) k → ¬ (P k.port)
unfolding Clear
from_clear P x [] c k h = elim h [ inl e ↦ subst (λ n. ¬ (P n.port)) e c | inr i ↦ absurd i ]
from_clear P x (m ∷ ms) c k h = let rest = from_clear P m ms c.1 k in elim h [ inl e ↦ subst (λ n. ¬ (P n.port)) e c.0 | inr i ↦ rest i ]

module _ (I : Isolation) (reached : List Node) (reach : IsReach (goes I) I.starts reached) (own : HaveOwnPorts reached) where
  -- a node that is walked to, and has a port of the border, is of the border
  pub border_here : (x : Node) → Walk (goes I) I.starts x → IsBorderPort I x.port → IsBorder I x
  border_here x w b =
      let same : b.node ≡ x = own b.node x ((reach.exact b.node).1 (border_walk I b.node b.border)) ((reach.exact x).1 w) b.port in
      subst (IsBorder I) same b.border

  -- a node that does not isolate has no port of the border
  clear_port : (x : Node) → IsClear I x → ¬ (IsBorderPort I x.port)
  clear_port x c b = true≢false (sym (border_here x c.walk b).isolating ∙ c.clear)

  -- A node of the border, from which nodes without ports of the border lead to a controller, has a needed port: inner nodes lead to it.
  pub needed_here : (n x m : Node) (ms : List Node) → is_controlled I n ≡ true → IsBorder I x → goes I x m ≡ true → Follow (goes I) m ms → last_node m ms ≡ n
      → Clear (IsBorderPort I) m ms → IsNeeded I x.port
  needed_here n x m ms controlled b e f last clear =
      let v : IsInner I b.from = b.inner in
      let begins = inner_begins I b.from v in
      let inside = inner_clear I b.from v in
      let to_x : goes I (last_node v.first v.rest) x ≡ true = subst (λ k. goes I k x ≡ true) (sym v.ends) b.linked in
      let onward : Follow (goes I) x (m ∷ ms) = (e, f) in
      let w : Walk (goes I) I.starts n = record {
        first = v.first;
        rest = v.rest ++ x ∷ m ∷ ms;
        begins = contains_from_among I.starts v.first begins.0;
        follows = follow_joined (goes I) v.first v.rest x (m ∷ ms) (follow_by (goes_inside I) (goes I) (inside_goes I) v.first v.rest v.follows) to_x onward;
        ends = last_joined v.first v.rest x (m ∷ ms) ∙ last;
      } in
      let node_cases : (k : Node) → Among (v.first ∷ (v.rest ++ x ∷ m ∷ ms)) k → IsBorderPort I k.port → k.port ≡ x.port = λ k h p.
      elim (among_cases (v.first ∷ v.rest) (x ∷ m ∷ ms) k h) [
        | inl i ↦ absurd (clear_port k (inside k i) p)
        | inr i ↦ elim i [ inl s ↦ ap (λ n. n.port) (sym s) | inr j ↦ absurd (from_clear (IsBorderPort I) m ms clear k j p) ]
      ] in
      record {
        border = record { node = x; border = b; port = refl };
        end = n;
        controlled = controlled;
        walk = w;
        passed = contains_from_among (ports_on w) x.port (among-map (λ k. k.port) (w.first ∷ w.rest) x (among_right (v.first ∷ v.rest) (x ∷ m ∷ ms) x (inl refl)));
        alone = λ q h p.
            let k = among_from-map (λ k. k.port) (w.first ∷ w.rest) q (among_from_contains (ports_on w) q h) in
            sym k.2 ∙ node_cases k.0 k.1 (subst (IsBorderPort I) (sym k.2) p);
      }

  -- a walk to a controller with the needed ports shut meets no port of the border
  meets_none : (needed : List Port) → AreNeeded I needed → IsIsolable I → (n : Node) → is_controlled I n ≡ true → (x : Node) (ms : List Node) → Walk (goes I) I.starts x
      → Follow (goes (shut I needed)) x ms → last_node x ms ≡ n → Clear (IsBorderPort I) x ms
  unfolding Clear
  meets_none needed all isolable n controlled x [] w f last =
      λ p. isolable x.port (record { node = x; place = inr (border_here x w p); controlled = subst (λ k. is_controlled I k ≡ true) (sym last) controlled; port = refl })
  meets_none needed all isolable n controlled x (m ∷ ms) w f last =
      let step = plain_step I needed x m f.0 in
      let rest = meets_none needed all isolable n controlled m ms (walk_on (goes I) I.starts x m w step.0) f.1 last in
      let onward = follow_by (goes (shut I needed)) (goes I) (λ k l h. (plain_step I needed k l h).0) m ms f.1 in (
        (λ p.
            let one = needed_here n x m ms controlled (border_here x w p) step.0 onward last rest in
            let among = among_from_contains needed x.port ((all.exact x.port).1 one) in
            true≢false (sym (list_any_from_among (same_port x.port) needed x.port among (port_itself x.port)) ∙ step.1)),
        rest,
      )

-- from an inner node a walk that meets no port of the border stays inside
stays_inside : (I : Isolation) (x : Node) (ms : List Node) → IsInner I x → Follow (goes I) x ms → ((k : Node) → Among (x ∷ ms) k → ¬ (IsBorderPort I k.port)) → IsInner I (last_node x ms)
stays_inside I x [] w f free = w
stays_inside I x (m ∷ ms) w f free =
    let onward : is_isolating I m ≡ false → IsInner I (last_node m ms) = λ e.
    stays_inside I m ms (walk_on (goes_inside I) (inner_starts I) x m w (inside_step I x m (inner_is_clear I x w).clear e f.0)) f.1 (λ k h. free k (inr h)) in
    by_test (is_isolating I m)
    (λ e. absurd (free m (inr (inl refl)) (record { node = m; border = record { from = x; inner = w; linked = f.0; isolating = e }; port = refl })))
    onward

-- so no such walk comes to a controller, where none stands in the way
pub clear_reaches_inside : (I : Isolation) → StartsAreClear I → IsIsolable I → (n : Node) → is_controlled I n ≡ true → (w : Walk (goes I) I.starts n)
    → ¬ ((k : Node) → Among (w.first ∷ w.rest) k → ¬ (IsBorderPort I k.port))
clear_reaches_inside I clear isolable n e w free =
    let start : IsInner I w.first = walk_from_start (goes_inside I) (inner_starts I) w.first
    (among-filter (λ n. not (is_isolating I n)) I.starts w.first (among_from_contains I.starts w.first w.begins) (not_false (is_isolating I w.first) (clear w.first w.begins))) in
    isolable n.port (record { node = n; place = inl (subst (IsInner I) w.ends (stays_inside I w.first w.rest start w.follows free)); controlled = e; port = refl })

pub separation : SeparationLaw
separation I reached needed reach own clear isolable all n w = by_test (is_controlled I n) (λ e. absurd (reaches e)) (λ e. e)
  where
    reaches : ¬ (is_controlled I n ≡ true)
    reaches e =
        let begins = among_from_contains I.starts w.first w.begins in
        let none = meets_none I reached reach own needed all isolable n e w.first w.rest (walk_from_start (goes I) I.starts w.first begins) w.follows w.ends in
        let follows = follow_by (goes (shut I needed)) (goes I) (λ k l h. (plain_step I needed k l h).0) w.first w.rest w.follows in
        clear_reaches_inside I clear isolable n e (record { first = w.first; rest = w.rest; begins = w.begins; follows = follows; ends = w.ends })
        (from_clear (IsBorderPort I) w.first w.rest none)

-- ---- each set of ports of the border that separates has the needed ports

module _ (I : Isolation) (ports : List Port) where
  pub free_ports : (x : Node) (ms : List Node) → ((k : Node) → Among (x ∷ ms) k → list_any (same_port k.port) ports ≡ false) → Follow (goes I) x ms → Follow (goes (shut I ports)) x ms
  free_ports x [] free f = tt
  free_ports x (m ∷ ms) free f = (shut_step I ports x m f.0 (free x (inl refl)), free_ports m ms (λ k h. free k (inr h)) f.1)

pub least : LeastLaw
least I ports border separates b needed = by_test (list_any (same_port b) ports) found (λ e. absurd (missed e))
  where
    found : list_any (same_port b) ports ≡ true → Contains ports b
    found e =
        let q = among_from_list_any (same_port b) ports e in
        contains_from_among ports b (subst (Among ports) (sym (port_same b q.0 q.2)) q.1)

    -- a node of the walk has none of the ports, since that would be a port of the border, and so the needed one
    free : list_any (same_port b) ports ≡ false → (k : Node) → Among (needed.walk.first ∷ needed.walk.rest) k → list_any (same_port k.port) ports ≡ false
    free e k h = by_test (list_any (same_port k.port) ports) (λ t.
        let q = among_from_list_any (same_port k.port) ports t in
        let same : k.port ≡ q.0 = port_same k.port q.0 q.2 in
        let on : Contains (ports_on needed.walk) q.0 =
        contains_from_among (ports_on needed.walk) q.0 (subst (Among (ports_on needed.walk)) same (among-map (λ n. n.port) (needed.walk.first ∷ needed.walk.rest) k h)) in
        let here : q.0 ≡ b = needed.alone q.0 on (border q.0 (contains_from_among ports q.0 q.1)) in
        absurd (true≢false (sym (list_any_from_among (same_port b) ports b (subst (Among ports) here q.1) (port_itself b)) ∙ e))) (λ f. f)

    missed : ¬ (list_any (same_port b) ports ≡ false)
    missed e =
        let w : Walk (goes (shut I ports)) I.starts needed.end = record {
          first = needed.walk.first;
          rest = needed.walk.rest;
          begins = needed.walk.begins;
          follows = free_ports I ports needed.walk.first needed.walk.rest (free e) needed.walk.follows;
          ends = needed.walk.ends;
        } in
        true≢false (sym needed.controlled ∙ separates needed.end w)
