-- Of a network, the links on cycles have the names that lie on a loop.
use Rattle.std.proofs.Common.{◌≡◌, ◌≢◌, ℕ, ◌<◌, ◌↔◌, inl, inr, Bool, true, List, [], ◌∷◌, length, get_or, Option, Some, sym, ap, subst, subst₂, ◌∙◌, arith}
use Rattle.std.specs.Prelude.{slice_get}
use Rattle.std.proofs.lemmas.Option.{slice_get-get_or, slice_get_within}
use Rattle.un_defs.specs.declared.link.LinkName.{LinkName}
use Rattle.un_defs.proofs.LinkCases.{some_same}
use Rattle.un_loops.specs.declared.link.Link.{Link}
use Rattle.un_loops.specs.declared.graph.Parent.{Parent}
use Rattle.un_loops.specs.Forest.{IsParentLink}
use Rattle.un_loops.specs.Graph.{Joins, IsWalk, IsJoinedBy, IsOnCycle}
use Rattle.un_loops.specs.Named.{IsNamedWalk, IsOnLoop, AreMutual, HaveOnePair}
use Rattle.un_loops.specs.Network.{IsNetwork}
use Rattle.un_loops.proofs.Walks.{joined_trans, joined_link, joined_along}
use Rattle.un_loops.proofs.Roots.{on_cycle_from, ends_joined}
use Rattle.un_loops.proofs.Deciding.{parent_link_or_not}

module _ (linked : LinkName → ℕ → ℕ → Type 0) (mutual_links : AreMutual linked) (one_pair : HaveOnePair linked)
    (links : List Link) (names : List LinkName) (parents : List (Option Parent)) (net : IsNetwork linked links names parents) where
  -- a link joins its ends under its name
  linked_from : (j u v : ℕ) → Joins links j u v → (x : LinkName) × (slice_get names j ≡ Some x) × linked x u v
  linked_from j u v (l, at, inl e) =
      let is = net.sound j l at in
      (is.0, is.1, subst₂ (linked is.0) e.0 e.1 is.2)
  linked_from j u v (l, at, inr e) =
      let is = net.sound j l at in
      (is.0, is.1, mutual_links is.0 v u (subst₂ (linked is.0) e.0 e.1 is.2))

  -- a name has a link, between its ends
  link_of : (x : LinkName) (u v : ℕ) → linked x u v → (j : ℕ) × (slice_get names j ≡ Some x) × Joins links j u v
  link_of x u v is =
      let has = net.whole x u v is in
      let j : ℕ = has.0 in
      let named : slice_get names j ≡ Some x = slice_get-get_or names j x has.1 ∙ ap Some has.2 in
      let l : Link = get_or links j (record { a = 0; b = 0 }) in
      let inside : j < length links = omega (arith, has.1, net.count) in
      let at : slice_get links j ≡ Some l = slice_get-get_or links j (record { a = 0; b = 0 }) inside in
      let own = net.sound j l at in
      let same : own.0 ≡ x = some_same own.0 x (sym own.1 ∙ named) in
      elim (one_pair x u v l.a l.b is (subst (λ y. linked y l.a l.b) same own.2)) [
        | inl e ↦ (j, named, (l, at, inl (sym e.0, sym e.1)))
        | inr e ↦ (j, named, (l, at, inr (sym e.1, sym e.0)))
      ]

  -- a walk by links of other names
  walk_from : (x : LinkName) (allowed : ℕ → Type 0) → ((j : ℕ) → allowed j → slice_get names j ≡ Some x → ⊥) → (js : List ℕ) (u v : ℕ) → IsWalk links allowed js u v → (steps : List (LinkName × ℕ)) × IsNamedWalk linked x steps u v
  walk_from x allowed other [] u v e = ([], e)
  walk_from x allowed other (j ∷ js) u v (w, ok, joins, rest) =
      let more = walk_from x allowed other js w v rest in
      let is = linked_from j u w joins in
      ((is.0, w) ∷ more.0, (λ same. other j ok (is.1 ∙ ap Some same), is.2, more.1))

  walk_to : (i : ℕ) (x : LinkName) → slice_get names i ≡ Some x → (steps : List (LinkName × ℕ)) (u v : ℕ) → IsNamedWalk linked x steps u v → IsJoinedBy links (λ j. j ≢ i) u v
  walk_to i x named [] u v e = joined_along links (λ j. j ≢ i) u v e
  walk_to i x named (step ∷ steps) u v (other, is, rest) =
      let found = link_of step.0 u step.1 is in
      let differs : found.0 ≢ i = λ same. other (some_same step.0 x (sym found.1 ∙ ap (slice_get names) same ∙ named)) in
      joined_trans links (λ j. j ≢ i) u step.1 v (joined_link links (λ j. j ≢ i) found.0 u step.1 differs found.2)
      (walk_to i x named steps step.1 v rest)

  loop_from_cycle : (i : ℕ) (x : LinkName) → slice_get names i ≡ Some x → IsOnCycle links i → IsOnLoop linked x
  loop_from_cycle i x named (l, at, (js, walk)) =
      let own = net.sound i l at in
      let same : own.0 ≡ x = some_same own.0 x (sym own.1 ∙ named) in
      let is : linked x l.a l.b = subst (λ y. linked y l.a l.b) same own.2 in
      elim (parent_link_or_not links parents net.forest i l at) [
        | inl way ↦ (l.a, l.b, is, walk_from x (λ j. j ≢ i) (λ j differs also. differs (sym (net.apart i j x way named also))) js l.a l.b walk)
        | inr chord ↦
            let round = ends_joined links parents net.forest i l at in
            (l.a, l.b, is, walk_from x (IsParentLink parents) (λ j way also. chord (subst (IsParentLink parents) (net.apart j i x way also named) way)) round.0 l.a l.b round.1)
      ]

  -- the names whose marks are on lie on a loop, where the marks are those of the links on cycles
  pub loops_marked : (marks : List Bool) → ((i : ℕ) → i < length links → (slice_get marks i ≡ Some true) ↔ IsOnCycle links i)
      → (x : LinkName) → ((i : ℕ) × (slice_get names i ≡ Some x) × (slice_get marks i ≡ Some true)) ↔ IsOnLoop linked x
  loops_marked marks exact x = (
    λ (i, named, on). loop_from_cycle i x named ((exact i (omega (arith, slice_get_within names i x named, net.count))).0 on),
    λ (u, v, is, (steps, walk)).
        let found = link_of x u v is in
        let i : ℕ = found.0 in
        let cycle = on_cycle_from links i u v found.2 (walk_to i x found.1 steps u v walk) in
        (i, found.1, (exact i (omega (arith, slice_get_within names i x found.1, net.count))).1 cycle),
  )
