use Rattle.std.proofs.Common.{◌≡◌, List, inl, inr, sym, subst, arith}
use Rattle.std.specs.Prelude.{Contains, slice_index}
use Rattle.std.proofs.lemmas.Bool.{cases_lt}
use Rattle.std.proofs.lemmas.Option.{slice_get_within}
use Rattle.un_defs.specs.declared.port.Node.{Node}
use Rattle.un_path.specs.declared.hops.Hop.{Hop}
use Rattle.un_path.specs.Checking.{KeepsHops}
use Rattle.un_path.specs.Hops.{IsAt}
use Rattle.un_path.proofs.Following.{keeps_from, keeps_hops_by}
use Rattle.un_path.proofs.Places.{place_from, node_at}
use Rattle.un_path.proofs.certificate.keeps_steps.Goals as goal

pub keeps_hops-requires : goal.keeps_hops-requires
keeps_hops-requires g c = λ h has.
    let nodes : List Node = c.args.nodes.now in
    let n = node_at nodes c.loop-place.place c.loop-place-test.true in
    let hops = c.in_ok-hops.ensures n.0 n.1 in
    let end = hops.sound h (subst (λ (l : List Hop). Contains l h) c.deref.ensures.value has) in
    omega (arith, slice_get_within nodes h.to end.0 end.1, c.requires.count)

pub returns-then-not-keeps_hops : goal.returns-then-not-keeps_hops
returns-then-not-keeps_hops g c = λ keeps.
    let G = g.G.Ground.stars_and_areas c.args.over.now in
    let nodes : List Node = c.args.nodes.now in
    let hops : List Hop = c.in_ok-hops.hops.items in
    let i = c.loop-place.place in
    let n = node_at nodes i c.loop-place-test.true in
    let by = keeps_hops_by G c.args.barriers.now c.args.weight c.args.seen.now nodes c.requires.reached n.0 i n.1 hops (c.in_ok-hops.ensures n.0 n.1) c.args._labels.now c.args.costs.now c.requires.costs keeps in
    c.if-not-keeps_hops.ensures (subst (KeepsHops c.args.costs.now (slice_index c.args.costs.now i)) (sym c.deref.ensures.value) by)

pub loop-place-preserved : goal.loop-place-preserved
loop-place-preserved g c = λ k n m a b below at_n has_m at_a at_b leads.
    let G = g.G.Ground.stars_and_areas c.args.over.now in
    let nodes : List Node = c.args.nodes.now in
    let hops : List Hop = c.in_ok-hops.hops.items in
    let i = c.loop-place.place in
    elim (cases_lt k i) [
      | inl before ↦ c.loop-place.invariant k n m a b before at_n has_m at_a at_b leads
      | inr last ↦
          let here : k ≡ i = omega arith in
          let at_i : IsAt nodes i n = subst (λ p. IsAt nodes p n) here at_n in
          let keeps : KeepsHops c.args.costs.now (slice_index c.args.costs.now i) hops = subst (KeepsHops c.args.costs.now (slice_index c.args.costs.now i)) c.deref.ensures.value c.if-not-keeps_hops.ensures in
          keeps_from G c.args.barriers.now c.args.weight c.args.seen.now nodes c.requires.reached n i at_i hops (c.in_ok-hops.ensures n at_i) c.args._labels.now c.args.costs.now c.requires.costs keeps m a b at_a at_b leads
    ]

pub returns : goal.returns
returns g c = λ n m a b has_n has_m at_a at_b leads.
    let place = place_from c.args.nodes.now n has_n in
    let inside = slice_get_within c.args.nodes.now place.0 n place.1 in
    c.loop-place.invariant place.0 n m a b (omega (arith, inside, c.loop-place-test.false)) place.1 has_m at_a at_b leads
