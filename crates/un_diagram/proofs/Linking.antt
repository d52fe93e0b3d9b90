-- The ends of the links of a node are where steps lead from it, and what becomes of nodes.
use Rattle.std.proofs.Common.{◌≡◌, ◌↔◌, ℕ, Bool, true, false, not, ◌&&◌, List, [], ◌∷◌, ◌++◌, length, map, Option, Some, None, inl, inr, refl, sym, ap, subst, ◌∙◌, true≢false}
use Rattle.std.specs.Prelude.{slice_get, Contains, if◌then◌else◌, ◌||◌}
use Rattle.std.specs.List.{list_any}
use Rattle.std.specs.Option.{option_map, option_map_or}
use Rattle.std.proofs.lemmas.List.{length-map}
use Rattle.std.proofs.lemmas.Option.{slice_get_within, slice_get-map, get_or_from_slice_get}
use Rattle.std.proofs.lemmas.List.Elements.{Contains-append_left, Contains-push, Contains-push_cases}
use Rattle.un_defs.specs.declared.port.Node.{Node}
use Rattle.un_defs.specs.declared.link.Tie.{Tie}
use Rattle.un_defs.specs.declared.star.Spot.{Spot}
use Rattle.un_defs.specs.declared.walk.Barriers.{Barriers}
use Rattle.un_defs.specs.declared.walk.Mode.TheVariants.{Any}
use Rattle.un_defs.specs.Orders.{same_node, same_port}
use Rattle.un_defs.specs.Ground.{Ground, entry, ties, is_dirty}
use Rattle.un_defs.specs.Reach.{leads, is_open, is_barrier, is_path, is_shut, goes_by, controls, meets_condition}
use Rattle.un_defs.proofs.Rising.{Among}
use Rattle.un_defs.proofs.Members.{among_from_contains, contains_from_among, list_any_from_among, among_from_list_any}
use Rattle.un_defs.proofs.LinkCases.{both_true, true_both, some_same}
use Rattle.un_defs.proofs.Unique.{node_same, node_itself}
use Rattle.un_walk.specs.declared.seen.Seen.{Seen}
use Rattle.un_walk.specs.Seen.{spot_of, is_barrier_by, node_of}
use Rattle.un_walk.proofs.Entered.{each_entry}
use Rattle.un_ask.specs.declared.typed.DiagramAsk.{DiagramAsk}
use Rattle.un_diagram.specs.declared.roles.Role.{Role}
use Rattle.un_diagram.specs.declared.roles.Role.TheVariants.{Kept, Collapsed, Shut}
use Rattle.un_diagram.specs.Diagram.{meets, is_chosen, is_kept, is_collapsed}
use Rattle.un_diagram.specs.Places.{IsAt, IsEndBy, IsNetwork, AreReached, AreEnds, role_by, role_of, AreRoles}

-- ---- one more link

module _ (nodes : List Node) (all : List Tie) (ends : List ℕ) (so_far : (j : ℕ) → Contains ends j ↔ IsEndBy nodes all j) (t : Tie) where
  earlier : (j : ℕ) → IsEndBy nodes all j → IsEndBy nodes (all ++ t ∷ []) j
  earlier j e = record { tie = e.tie; among = Contains-append_left all (t ∷ []) e.tie e.among; at = e.at }

  pub ends_with : (end : ℕ) → IsAt nodes end t.to → ((i : ℕ) → IsAt nodes i t.to → i ≡ end) → (j : ℕ) → Contains (ends ++ end ∷ []) j ↔ IsEndBy nodes (all ++ t ∷ []) j
  ends_with end at only j = (
    λ h. elim (Contains-push_cases ends end j h) [
      | inl before ↦ earlier j ((so_far j).0 before)
      | inr same ↦ record { tie = t; among = Contains-push all t; at = subst (λ i. IsAt nodes i t.to) same at }
    ],
    λ e. elim (Contains-push_cases all t e.tie e.among) [
      | inl before ↦ Contains-append_left ends (end ∷ []) j ((so_far j).1 (record { tie = e.tie; among = before; at = e.at }))
      | inr same ↦
          let here : j ≡ end = only j (e.at ∙ ap (λ (x : Tie). Some x.to) (sym same)) in
          subst (Contains (ends ++ end ∷ [])) (sym here) (Contains-push ends end)
    ],
  )

  pub ends_without : ((i : ℕ) → IsAt nodes i t.to → ⊥) → (j : ℕ) → Contains ends j ↔ IsEndBy nodes (all ++ t ∷ []) j
  ends_without none j = (
    λ h. earlier j ((so_far j).0 h),
    λ e. elim (Contains-push_cases all t e.tie e.among) [
      | inl before ↦ (so_far j).1 (record { tie = e.tie; among = before; at = e.at })
      | inr same ↦ absurd (none j (e.at ∙ ap (λ (x : Tie). Some x.to) (sym same)))
    ],
  )

-- ---- links and steps over the ground

and_false : (a : Bool) {b : Bool} → b ≡ false → (a && b) ≡ false
and_false true e = e
and_false false e = refl

module _ (G : Ground) (B : Barriers) (nodes : List Node) (are : IsNetwork G B nodes) where
  shut_by_none : (n : Node) (t : Tie) → is_shut G B n t ≡ false
  shut_by_none n t = and_false (is_path t.name) (ap (λ tier. option_map_or (λ k. controls G k n || controls G k t.to) tier false) are.untiered)

  goes : (n : Node) (t : Tie) → goes_by G B Any n t.to t ≡ true
  goes n t = true_both _ _ (true_both _ _ (node_itself t.to) refl) (ap not (shut_by_none n t))

  goes_to : (n m : Node) (t : Tie) → goes_by G B Any n m t ≡ true → t.to ≡ m
  goes_to n m t e = node_same t.to m (both_true _ _ (both_true (same_node t.to m && true) _ e).0).0

  -- a link from an open node makes a step
  step_by : (n m : Node) (t : Tie) → is_open G B n ≡ true → Among (ties G n) t → t.to ≡ m → leads G B Any n m ≡ true
  step_by n m t free h e = true_both _ _ free (list_any_from_among (goes_by G B Any n m) (ties G n) t h (subst (λ k. goes_by G B Any n k t ≡ true) e (goes n t)))

  -- a step from a node to another that is open has one back
  pub leads_back : (n m : Node) → Contains nodes n → Contains nodes m → leads G B Any n m ≡ true → is_open G B m ≡ true → leads G B Any m n ≡ true
  leads_back n m has_n has_m l free =
      let tie = among_from_list_any (goes_by G B Any n m) (ties G n) (both_true (is_open G B n) _ l).1 in
      let back = are.linked.both_ends n m tie.0 has_n has_m (record { stands = contains_from_among (ties G n) tie.0 tie.1; to = goes_to n m tie.0 tie.2 }) in
      step_by m n back.tie free (among_from_contains (ties G m) back.tie back.tied.stands) back.tied.to

module _ (G : Ground) (B : Barriers) (seen : List Seen) (nodes : List Node) (are : AreReached G B seen nodes) where
  open_by : (n : Node) → Contains nodes n → is_barrier G B n ≡ false → is_open G B n ≡ true
  open_by n h e = λ i. not (e i) && not (and_false B.consistent (are.clean n h) i)

  -- what was seen at a node's place
  module _ (i : ℕ) (v : Seen) (n : Node) (at_v : slice_get seen i ≡ Some v) (at_n : IsAt nodes i n) where
    pub node_is : v.node ≡ n
    node_is = some_same v.node n (sym (slice_get-map (λ (x : Seen). x.node) seen i ∙ ap (option_map (λ (x : Seen). x.node)) at_v) ∙ ap (λ l. slice_get l i) are.are ∙ at_n)

    pub entry_is : spot_of v ≡ entry G n
    entry_is = each_entry G seen are.entries v (among_from_contains seen v (i, slice_get_within seen i v at_v, get_or_from_slice_get seen i v v at_v)) ∙ ap (entry G) node_is

    pub barrier_is : is_barrier_by B v ≡ is_barrier G B n
    barrier_is = λ k. option_map_or (meets_condition B) (entry_is k) false || list_any (same_port (node_is k).port) B.stops

  module _ (n : Node) (here : Contains nodes n) where
    -- from a barrier no step leads
    pub no_ends : is_barrier G B n ≡ true → AreEnds G B nodes n []
    no_ends e = record {
      sound = λ j has. absurd (among_from_contains [] j has);
      whole = λ j m at l. absurd (true≢false (sym (both_true (is_open G B n) _ l).0 ∙ ap (λ b. not b && not (B.consistent && is_dirty G n.at)) e));
    }

    -- nor from a node without an entry
    pub no_entry : entry G n ≡ None → AreEnds G B nodes n []
    no_entry e = record {
      sound = λ j has. absurd (among_from_contains [] j has);
      whole = λ j m at l. absurd (true≢false (sym (both_true (is_open G B n) _ l).1 ∙ ap (λ o. list_any (goes_by G B Any n m) (option_map_or (λ (s : Spot). s.ties) o [])) e));
    }

    pub ends_are : (s : Spot) → entry G n ≡ Some s → is_barrier G B n ≡ false → (ends : List ℕ) → ((j : ℕ) → Contains ends j ↔ IsEndBy nodes s.ties j) → AreEnds G B nodes n ends
    ends_are s known free ends by =
        let ties_are : ties G n ≡ s.ties = ap (λ o. option_map_or (λ (s : Spot). s.ties) o []) known in
        record {
          sound = λ j has.
              let end = (by j).0 has in
              (end.tie.to, end.at, step_by G B nodes are.net n end.tie.to end.tie (open_by n here free) (subst (λ l. Among l end.tie) (sym ties_are) (among_from_contains s.ties end.tie end.among)) refl);
          whole = λ j m at l.
              let tie = among_from_list_any (goes_by G B Any n m) (ties G n) (both_true (is_open G B n) _ l).1 in
              let to : (tie.0).to ≡ m = goes_to G B nodes are.net n m tie.0 tie.2 in
              (by j).1 (record { tie = tie.0; among = contains_from_among s.ties tie.0 (subst (λ l. Among l tie.0) ties_are tie.1); at = at ∙ ap Some (sym to) });
        }

-- ---- roles

role_when : (shut chosen : Bool) → Role
role_when shut chosen = if shut then Shut else (if chosen then Kept else Collapsed)

module _ (G : Ground) (ask : DiagramAsk) (seen : List Seen) (nodes : List Node) (are : AreReached G ask.barriers seen nodes) where
  open_is : (n : Node) → Contains nodes n → is_open G ask.barriers n ≡ not (is_barrier G ask.barriers n)
  open_is n h = (λ i. not (is_barrier G ask.barriers n) && not (and_false ask.barriers.consistent (are.clean n h) i)) ∙ and_true (not (is_barrier G ask.barriers n))
    where
      and_true : (b : Bool) → (b && true) ≡ b
      and_true true = refl
      and_true false = refl

  role_not : (b : Bool) (r s : Role) → (if not b then r else s) ≡ (if b then s else r)
  role_not true r s = refl
  role_not false r s = refl

  role_is : (i : ℕ) (v : Seen) (n : Node) → slice_get seen i ≡ Some v → IsAt nodes i n → Contains nodes n → role_by ask v ≡ role_of G ask n
  role_is i v n at_v at_n has =
      (λ k. if barrier_is G ask.barriers seen nodes are i v n at_v at_n k then Shut
      else (if (option_map_or (meets ask.keep) (entry_is G ask.barriers seen nodes are i v n at_v at_n k) false || list_any (same_node (node_is G ask.barriers seen nodes are i v n at_v at_n k)) ask.starts) then Kept else Collapsed))
      ∙ sym (role_not (is_barrier G ask.barriers n) (if is_chosen G ask n then Kept else Collapsed) Shut)
      ∙ (λ k. if sym (open_is n has) k then (if is_chosen G ask n then Kept else Collapsed) else Shut)

  seen_at : (i : ℕ) (n : Node) → IsAt nodes i n → (v : Seen) × (slice_get seen i ≡ Some v)
  seen_at i n at = go (slice_get seen i) refl
    where
      go : (o : Option Seen) → slice_get seen i ≡ o → (v : Seen) × (slice_get seen i ≡ Some v)
      go (Some v) e = (v, e)
      go None e = (let clash : None ≡ Some n = sym (slice_get-map (λ (x : Seen). x.node) seen i ∙ ap (option_map (λ (x : Seen). x.node)) e) ∙ ap (λ l. slice_get l i) are.are ∙ at in absurd (cc))

  pub are_roles : (roles : List Role) → roles ≡ map (role_by ask) seen → AreRoles G ask nodes roles
  are_roles roles e = record {
    count = ap length e ∙ length-map seen (role_by ask) ∙ sym (length-map seen node_of) ∙ ap length are.are;
    are = λ i n at.
        let v = seen_at i n at in
        let has : Contains nodes n = (i, slice_get_within nodes i n at, get_or_from_slice_get nodes i n n at) in
        ap (λ l. slice_get l i) e ∙ slice_get-map (role_by ask) seen i ∙ ap (option_map (role_by ask)) v.1 ∙ ap Some (role_is i v.0 n v.1 at has);
  }

-- what a role says of the node
if_kept : (o c : Bool) → (if o then (if c then Kept else Collapsed) else Shut) ≡ Kept → (o && c) ≡ true
if_kept true true e = refl
if_kept true false e = absurd (cc)
if_kept false c e = absurd (cc)

if_collapsed : (o c : Bool) → (if o then (if c then Kept else Collapsed) else Shut) ≡ Collapsed → (o && not c) ≡ true
if_collapsed true true e = absurd (cc)
if_collapsed true false e = refl
if_collapsed false c e = absurd (cc)

kept_if : (o c : Bool) → (o && c) ≡ true → (if o then (if c then Kept else Collapsed) else Shut) ≡ Kept
kept_if true true e = refl
kept_if true false e = absurd (true≢false (sym e))
kept_if false c e = absurd (true≢false (sym e))

collapsed_if : (o c : Bool) → (o && not c) ≡ true → (if o then (if c then Kept else Collapsed) else Shut) ≡ Collapsed
collapsed_if true true e = absurd (true≢false (sym e))
collapsed_if true false e = refl
collapsed_if false c e = absurd (true≢false (sym e))

module _ (G : Ground) (ask : DiagramAsk) (nodes : List Node) (roles : List Role) (are : AreRoles G ask nodes roles) (i : ℕ) (n : Node) (at : IsAt nodes i n) where
  role_at : (r : Role) → slice_get roles i ≡ Some r → role_of G ask n ≡ r
  role_at r e = some_same (role_of G ask n) r (sym (are.are i n at) ∙ e)

  pub kept_from : slice_get roles i ≡ Some Kept → is_kept G ask n ≡ true
  kept_from e = if_kept (is_open G ask.barriers n) (is_chosen G ask n) (role_at Kept e)

  pub collapsed_from : slice_get roles i ≡ Some Collapsed → is_collapsed G ask n ≡ true
  collapsed_from e = if_collapsed (is_open G ask.barriers n) (is_chosen G ask n) (role_at Collapsed e)

  pub kept_role : is_kept G ask n ≡ true → slice_get roles i ≡ Some Kept
  kept_role e = are.are i n at ∙ ap Some (kept_if (is_open G ask.barriers n) (is_chosen G ask n) e)

  pub collapsed_role : is_collapsed G ask n ≡ true → slice_get roles i ≡ Some Collapsed
  collapsed_role e = are.are i n at ∙ ap Some (collapsed_if (is_open G ask.barriers n) (is_chosen G ask n) e)
