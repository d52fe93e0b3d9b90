-- What stands for a place, and the edges of kept nodes one by one.
use Rattle.std.proofs.Common.{◌≡◌, ◌↔◌, ℕ, ◌+◌, ◌<◌, Bool, true, false, List, [], ◌∷◌, ◌++◌, length, Option, Some, None, ◌⊎◌, inl, inr, refl, sym, ap, subst, ◌∙◌, arith}
use Rattle.std.specs.Prelude.{slice_get, Contains, nat_lt, if◌then◌else◌, option_and_then}
use Rattle.std.specs.Option.{option_map}
use Rattle.std.proofs.lemmas.Bool.{cases_lt, lt-ltb, le-ltb}
use Rattle.std.proofs.lemmas.Option.{slice_get_within}
use Rattle.std.proofs.lemmas.List.Elements.{Contains-append_left, Contains-push, Contains-push_cases}
use Rattle.un_defs.specs.declared.port.Port.{Port}
use Rattle.un_defs.specs.declared.port.Node.{Node}
use Rattle.un_defs.specs.declared.walk.Mode.TheVariants.{Any}
use Rattle.un_defs.specs.Ground.{Ground}
use Rattle.un_defs.specs.Reach.{leads}
use Rattle.un_defs.proofs.LinkCases.{some_same}
use Rattle.un_defs.proofs.Members.{among_from_contains}
use Rattle.un_ask.specs.declared.typed.DiagramAsk.{DiagramAsk}
use Rattle.un_ask.specs.declared.results.Edge.{Edge}
use Rattle.un_diagram.specs.declared.roles.Role.{Role}
use Rattle.un_diagram.specs.declared.roles.Role.TheVariants.{Kept, Collapsed, Shut}
use Rattle.un_diagram.specs.Diagram.{is_kept}
use Rattle.un_diagram.specs.Edges.{port_at, if_kept, kept_port, piece_name, kept_after, or_else, seen_as}
use Rattle.un_diagram.specs.Places.{IsAt, AreEnds, AreRoles, role_of}
use Rattle.un_diagram.specs.Colours.{HasColour, AreColoured, IsSeenAs, IsEdgeFrom, AddsEdges, IsEdgeBelow}
use Rattle.un_diagram.proofs.Linking.{kept_from, kept_role, collapsed_from, collapsed_role}
use Rattle.un_diagram.proofs.Colouring.{some_at}

-- ---- kept ports by their places

pub port_kept : (nodes : List Node) (roles : List Role) (i : ℕ) (q : Port) → kept_port nodes roles i ≡ Some q → (slice_get roles i ≡ Some Kept) × (port_at nodes i ≡ Some q)
port_kept nodes roles i q e = go (slice_get roles i) refl
  where
    go : (o : Option Role) → slice_get roles i ≡ o → (slice_get roles i ≡ Some Kept) × (port_at nodes i ≡ Some q)
    go None at = (let clash : None ≡ Some q = sym (ap (option_and_then (λ r. if_kept r (port_at nodes i))) at) ∙ e in absurd (cc))
    go (Some Kept) at = (at, sym (ap (option_and_then (λ r. if_kept r (port_at nodes i))) at) ∙ e)
    go (Some Collapsed) at = (let clash : None ≡ Some q = sym (ap (option_and_then (λ r. if_kept r (port_at nodes i))) at) ∙ e in absurd (cc))
    go (Some Shut) at = (let clash : None ≡ Some q = sym (ap (option_and_then (λ r. if_kept r (port_at nodes i))) at) ∙ e in absurd (cc))

pub kept_lacking : (nodes : List Node) (roles : List Role) (i : ℕ) (n : Node) → IsAt nodes i n → kept_port nodes roles i ≡ None → slice_get roles i ≡ Some Kept → ⊥
kept_lacking nodes roles i n at e role =
    let is : kept_port nodes roles i ≡ Some n.port = λ k. option_and_then (λ r. if_kept r (option_map (λ (x : Node). x.port) (at k))) (role k) in
    let clash : None ≡ Some n.port = sym e ∙ is in
    absurd (cc)

module _ (G : Ground) (ask : DiagramAsk) (nodes : List Node) (roles : List Role) (are_roles : AreRoles G ask nodes roles) (colours : List (Option ℕ)) (coloured : AreColoured G ask nodes colours (length nodes)) where
  -- what the role of a place says of how it is seen
  module _ (i j : ℕ) (m : Node) (at : IsAt nodes j m) (q : Port) where
    abbrev Seen : Type 0
    Seen = IsSeenAs G ask nodes colours i j m q

    not_kept : (r : Role) → slice_get roles j ≡ Some r → (r ≡ Kept → ⊥) → is_kept G ask m ≡ true → ⊥
    not_kept r e other kept = other (some_same r Kept (sym e ∙ kept_role G ask nodes roles are_roles j m at kept))

    not_coloured : (r : Role) → slice_get roles j ≡ Some r → (r ≡ Collapsed → ⊥) → (f : ℕ) → HasColour colours j f → ⊥
    not_coloured r e other f has = other (some_same r Collapsed (sym e ∙ collapsed_role G ask nodes roles are_roles j m at (coloured.collapsed j f m has at)))

    seen_kept : slice_get roles j ≡ Some Kept → i < j → (Some m.port ≡ Some q) ↔ Seen
    seen_kept e low = (
      λ same. inl (low, kept_from G ask nodes roles are_roles j m at e, some_same m.port q same),
      λ s. elim s [
        | inl (_, _, same) ↦ ap Some same
        | inr (f, h, has, _, _) ↦ absurd (not_coloured Kept e (λ clash. (let c : Kept ≡ Collapsed = clash in cc)) f has)
      ],
    )

    unseen_kept : slice_get roles j ≡ Some Kept → (i < j → ⊥) → (None ≡ Some q) ↔ Seen
    unseen_kept e high = (
      λ same. (let c : None ≡ Some q = same in absurd (cc)),
      λ s. elim s [
        | inl (low, _, _) ↦ absurd (high low)
        | inr (f, h, has, _, _) ↦ absurd (not_coloured Kept e (λ clash. (let c : Kept ≡ Collapsed = clash in cc)) f has)
      ],
    )

    seen_piece : slice_get roles j ≡ Some Collapsed → (f : ℕ) (h : Node) → HasColour colours j f → IsAt nodes f h → (Some h.port ≡ Some q) ↔ Seen
    seen_piece e f h has at_h = (
      λ same. inr (f, h, has, at_h, some_same h.port q same),
      λ s. elim s [
        | inl (_, kept, _) ↦ absurd (not_kept Collapsed e (λ clash. (let c : Collapsed ≡ Kept = clash in cc)) kept)
        | inr (g, k, also, at_k, same) ↦
            let colour : g ≡ f = some_same g f (some_same (Some g) (Some f) (sym also ∙ has)) in
            let node : k ≡ h = some_same k h (sym at_k ∙ ap (slice_get nodes) colour ∙ at_h) in
            ap (λ (x : Node). Some x.port) (sym node) ∙ ap Some same
      ],
    )

    unseen_shut : slice_get roles j ≡ Some Shut → (None ≡ Some q) ↔ Seen
    unseen_shut e = (
      λ same. (let c : None ≡ Some q = same in absurd (cc)),
      λ s. elim s [
        | inl (_, kept, _) ↦ absurd (not_kept Shut e (λ clash. (let c : Shut ≡ Kept = clash in cc)) kept)
        | inr (f, h, has, _, _) ↦ absurd (not_coloured Shut e (λ clash. (let c : Shut ≡ Collapsed = clash in cc)) f has)
      ],
    )

    -- ---- what the code looks up

    abbrev shown_as : Option Port → Type 0
    shown_as o = (o ≡ Some q) ↔ Seen

    uncoloured : ((f : ℕ) → HasColour colours j f → ⊥) → piece_name nodes colours j ≡ None
    uncoloured none = go (slice_get colours j) refl
      where
        go : (o : Option (Option ℕ)) → slice_get colours j ≡ o → option_and_then (λ (c : Option ℕ). option_and_then (port_at nodes) c) o ≡ None
        go None e = refl
        go (Some None) e = refl
        go (Some (Some f)) e = absurd (none f e)

    of_piece : (f : ℕ) (h : Node) → HasColour colours j f → IsAt nodes f h → piece_name nodes colours j ≡ Some h.port
    of_piece f h has at_h = ap (λ o. option_and_then (λ (c : Option ℕ). option_and_then (port_at nodes) c) o) has ∙ ap (option_map (λ (x : Node). x.port)) at_h

    own_port : (r : Role) → slice_get roles j ≡ Some r → kept_port nodes roles j ≡ if_kept r (Some m.port)
    own_port r e = (λ k. option_and_then (λ s. if_kept s (option_map (λ (x : Node). x.port) (at k))) (e k))

    none_after : kept_port nodes roles j ≡ None → kept_after nodes roles i j ≡ None
    none_after e = go (nat_lt i j)
      where
        go : (b : Bool) → (if b then kept_port nodes roles j else None) ≡ None
        go true = e
        go false = refl

    by_role : (r : Role) → slice_get roles j ≡ Some r → shown_as (seen_as nodes roles colours i j)
    by_role Kept e = elim (cases_lt i j) [
      | inl low ↦
          let after : kept_after nodes roles i j ≡ Some m.port = ap (λ b. if b then kept_port nodes roles j else None) (lt-ltb i j low) ∙ own_port Kept e in
          subst shown_as (sym (ap (λ o. or_else o (piece_name nodes colours j)) after)) (seen_kept e low)
      | inr high ↦
          let after : kept_after nodes roles i j ≡ None = ap (λ b. if b then kept_port nodes roles j else None) (le-ltb i j high) in
          let piece : piece_name nodes colours j ≡ None = uncoloured (λ f has. not_coloured Kept e (λ clash. (let c : Kept ≡ Collapsed = clash in cc)) f has) in
          subst shown_as (sym (ap (λ o. or_else o (piece_name nodes colours j)) after ∙ piece)) (unseen_kept e (λ low. absurd (omega arith)))
    ]
    by_role Collapsed e =
        let after : kept_after nodes roles i j ≡ None = none_after (own_port Collapsed e) in
        let w = coloured.whole j m (slice_get_within nodes j m at) at (collapsed_from G ask nodes roles are_roles j m at e) in
        let h = some_at nodes w.0 (coloured.below j w.0 w.1) in
        subst shown_as (sym (ap (λ o. or_else o (piece_name nodes colours j)) after ∙ of_piece w.0 h.0 w.1 h.1)) (seen_piece e w.0 h.0 w.1 h.1)
    by_role Shut e =
        let after : kept_after nodes roles i j ≡ None = none_after (own_port Shut e) in
        let piece : piece_name nodes colours j ≡ None = uncoloured (λ f has. not_coloured Shut e (λ clash. (let c : Shut ≡ Collapsed = clash in cc)) f has) in
        subst shown_as (sym (ap (λ o. or_else o (piece_name nodes colours j)) after ∙ piece)) (unseen_shut e)

    -- what the code looks up is what stands for the place
    pub seen_is : (seen_as nodes roles colours i j ≡ Some q) ↔ Seen
    seen_is = by_role (role_of G ask m) (are_roles.are j m at)

  -- ---- the ends of one node, one by one

  module _ (i : ℕ) (n : Node) (at_n : IsAt nodes i n) (ends : List ℕ) (first old : List Edge) (so_far : AddsEdges G ask nodes colours i ends first old) (j : ℕ) (m : Node) (at_m : IsAt nodes j m) where
    widen : (e : Edge) → IsEdgeFrom G ask nodes colours i ends e → IsEdgeFrom G ask nodes colours i (ends ++ j ∷ []) e
    widen e f = record { one = f.one; j = f.j; other = f.other; at_one = f.at_one; at_other = f.at_other; end = Contains-append_left ends (j ∷ []) f.j f.end; from = f.from; to = f.to }

    before : (e : Edge) → Contains old e → Contains first e ⊎ IsEdgeFrom G ask nodes colours i (ends ++ j ∷ []) e
    before e h = elim ((so_far e).0 h) [ inl was ↦ inl was | inr f ↦ inr (widen e f) ]

    pub edges_with : (to : Port) → ((q : Port) → (Some to ≡ Some q) ↔ IsSeenAs G ask nodes colours i j m q) → AddsEdges G ask nodes colours i (ends ++ j ∷ []) first (old ++ record { from = n.port; to = to } ∷ [])
    edges_with to seen e = (
      λ h. elim (Contains-push_cases old (record { from = n.port; to = to }) e h) [
        | inl earlier ↦ before e earlier
        | inr same ↦ inr (record {
          one = n;
          j = j;
          other = m;
          at_one = at_n;
          at_other = at_m;
          end = Contains-push ends j;
          from = ap (λ (x : Edge). x.from) (sym same);
          to = subst (IsSeenAs G ask nodes colours i j m) (ap (λ (x : Edge). x.to) same) ((seen to).0 refl);
        })
      ],
      λ h. elim h [
        | inl was ↦ Contains-append_left old (record { from = n.port; to = to } ∷ []) e ((so_far e).1 (inl was))
        | inr f ↦ elim (Contains-push_cases ends j f.j f.end) [
          | inl earlier ↦ Contains-append_left old (record { from = n.port; to = to } ∷ []) e
              ((so_far e).1 (inr (record { one = f.one; j = f.j; other = f.other; at_one = f.at_one; at_other = f.at_other; end = earlier; from = f.from; to = f.to })))
          | inr same ↦
              let one : f.one ≡ n = some_same f.one n (sym f.at_one ∙ at_n) in
              let other : f.other ≡ m = some_same f.other m (sym f.at_other ∙ ap (slice_get nodes) (sym same) ∙ at_m) in
              let shown : IsSeenAs G ask nodes colours i j m e.to = subst (λ k. IsSeenAs G ask nodes colours i k m e.to) (sym same) (subst (λ x. IsSeenAs G ask nodes colours i f.j x e.to) other f.to) in
              let end : to ≡ e.to = some_same to e.to ((seen e.to).1 shown) in
              let from : n.port ≡ e.from = ap (λ (x : Node). x.port) (sym one) ∙ sym f.from in
              let is : record { from = n.port; to = to } ≡ e = λ k. record { from = from k; to = end k } in
              subst (Contains (old ++ record { from = n.port; to = to } ∷ [])) is (Contains-push old (record { from = n.port; to = to }))
        ]
      ],
    )

    pub edges_without : ((q : Port) → (None ≡ Some q) ↔ IsSeenAs G ask nodes colours i j m q) → AddsEdges G ask nodes colours i (ends ++ j ∷ []) first old
    edges_without seen e = (
      λ h. before e h,
      λ h. elim h [
        | inl was ↦ (so_far e).1 (inl was)
        | inr f ↦ elim (Contains-push_cases ends j f.j f.end) [
          | inl earlier ↦ (so_far e).1 (inr (record { one = f.one; j = f.j; other = f.other; at_one = f.at_one; at_other = f.at_other; end = earlier; from = f.from; to = f.to }))
          | inr same ↦
              let other : f.other ≡ m = some_same f.other m (sym f.at_other ∙ ap (slice_get nodes) (sym same) ∙ at_m) in
              let shown : IsSeenAs G ask nodes colours i j m e.to = subst (λ k. IsSeenAs G ask nodes colours i k m e.to) (sym same) (subst (λ x. IsSeenAs G ask nodes colours i f.j x e.to) other f.to) in
              let clash : None ≡ Some e.to = (seen e.to).1 shown in
              absurd (cc)
        ]
      ],
    )

  pub edges_none : (i : ℕ) (edges : List Edge) → AddsEdges G ask nodes colours i [] edges edges
  edges_none i edges e = (λ h. inl h, λ h. elim h [ inl was ↦ was | inr f ↦ absurd (among_from_contains [] f.j f.end) ])

  -- ---- node by node

  abbrev AreBelow : ℕ → List Edge → Type 0
  AreBelow k edges = (e : Edge) → Contains edges e ↔ IsEdgeBelow G ask nodes colours k e

  further : (k : ℕ) (e : Edge) → IsEdgeBelow G ask nodes colours k e → IsEdgeBelow G ask nodes colours (k + 1) e
  further k e b = record { i = b.i; j = b.j; one = b.one; other = b.other; below = (let low = b.below in omega arith); at_one = b.at_one; at_other = b.at_other; kept = b.kept; linked = b.linked; from = b.from; to = b.to }

  module _ (k : ℕ) (n : Node) (at_n : IsAt nodes k n) (old : List Edge) (so_far : AreBelow k old) where
    pub below_past : (slice_get roles k ≡ Some Kept → ⊥) → AreBelow (k + 1) old
    below_past other e = (
      λ h. further k e ((so_far e).0 h),
      λ b. elim (cases_lt b.i k) [
        | inl less ↦ (so_far e).1 (record { i = b.i; j = b.j; one = b.one; other = b.other; below = less; at_one = b.at_one; at_other = b.at_other; kept = b.kept; linked = b.linked; from = b.from; to = b.to })
        | inr high ↦
            let here : b.i ≡ k = (let low = b.below in omega arith) in
            absurd (other (ap (slice_get roles) (sym here) ∙ kept_role G ask nodes roles are_roles b.i b.one b.at_one b.kept))
      ],
    )

    pub below_on : slice_get roles k ≡ Some Kept → (ends : List ℕ) → AreEnds G ask.barriers nodes n ends → (new : List Edge) → AddsEdges G ask nodes colours k ends old new → AreBelow (k + 1) new
    below_on role ends ends_are new adds e = (
      λ h. elim ((adds e).0 h) [
        | inl was ↦ further k e ((so_far e).0 was)
        | inr f ↦
            let one : f.one ≡ n = some_same f.one n (sym f.at_one ∙ at_n) in
            let (m, at_m, l) = ends_are.sound f.j f.end in
            let other : f.other ≡ m = some_same f.other m (sym f.at_other ∙ at_m) in
            record {
              i = k;
              j = f.j;
              one = n;
              other = m;
              below = omega arith;
              at_one = at_n;
              at_other = at_m;
              kept = kept_from G ask nodes roles are_roles k n at_n role;
              linked = l;
              from = f.from ∙ ap (λ (x : Node). x.port) one;
              to = subst (λ x. IsSeenAs G ask nodes colours k f.j x e.to) other f.to;
            }
      ],
      λ b. elim (cases_lt b.i k) [
        | inl less ↦ (adds e).1 (inl ((so_far e).1 (record { i = b.i; j = b.j; one = b.one; other = b.other; below = less; at_one = b.at_one; at_other = b.at_other; kept = b.kept; linked = b.linked; from = b.from; to = b.to })))
        | inr high ↦
            let here : b.i ≡ k = (let low = b.below in omega arith) in
            let one : b.one ≡ n = some_same b.one n (sym b.at_one ∙ ap (slice_get nodes) here ∙ at_n) in
            (adds e).1 (inr (record {
              one = b.one;
              j = b.j;
              other = b.other;
              at_one = ap (slice_get nodes) (sym here) ∙ b.at_one;
              at_other = b.at_other;
              end = ends_are.whole b.j b.other b.at_other (subst (λ x. leads G ask.barriers Any x b.other ≡ true) one b.linked);
              from = b.from;
              to = subst (λ x. IsSeenAs G ask nodes colours x b.j b.other e.to) here b.to;
            }))
      ],
    )

  pub below_none : (edges : List Edge) → edges ≡ [] → AreBelow 0 edges
  below_none edges bare e = (λ h. absurd (among_from_contains [] e (subst (λ l. Contains l e) bare h)), λ b. absurd (let low = b.below in omega arith))
