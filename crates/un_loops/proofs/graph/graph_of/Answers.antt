use Rattle.std.proofs.Common.{◌≡◌, ◌<◌, ℕ, inl, inr, List, length, get_or, Some, refl, sym, ap, subst, ◌∙◌, arith}
use Rattle.std.specs.Prelude.{slice_get, Contains}
use Rattle.std.proofs.lemmas.Bool.{cases_eq}
use Rattle.std.proofs.lemmas.Option.{slice_get-get_or, slice_get_within}
use Rattle.un_defs.proofs.LinkCases.{some_same}
use Rattle.un_walk.specs.declared.found.Chord.{Chord}
use Rattle.un_walk.specs.Found.{nodes}
use Rattle.un_walk.specs.Traced.{chords}
use Rattle.un_loops.specs.declared.graph.Graph.{Graph}
use Rattle.un_loops.specs.Network.{is_passable}
use Rattle.un_loops.proofs.Building.{link_within, end_inside, chord, has_chord, keeps_names, network}
use Rattle.un_loops.proofs.Pushing.{contains_at}
use Rattle.un_loops.proofs.graph.graph_of.Goals as goal

chord_at : (xs ys : List Chord) (i : ℕ) (d : Chord) → d ≡ get_or xs i d → xs ≡ ys → i < length xs → slice_get ys i ≡ Some d
chord_at xs ys i d is same inside = subst (λ l. slice_get l i ≡ Some d) same (slice_get-get_or xs i d inside ∙ ap Some (sym is))

stands_at : (xs ys : List Chord) (i : ℕ) (d : Chord) → d ≡ get_or xs i d → xs ≡ ys → i < length xs → Contains ys d
stands_at xs ys i d is same inside = contains_at ys i d (chord_at xs ys i d is same inside)

pub add_chord-requires-clause-inside : goal.add_chord-requires-clause-inside
add_chord-requires-clause-inside g c =
    let h = c.loop-chord.invariant.over in
    let graph = c.loop-chord.graph in
    let f = c.args.found.now in
    let i = c.loop-chord.chord-index in
    let xs : List Chord = c.chords-chord-items.result.now in
    let stands = stands_at xs (chords f) i c.chord-item.result c.chord-item.is c.chords-chord-items.ensures c.loop-chord-test.true in
    omega (arith, end_inside (g.G.Ground.stars_and_areas c.args.over.now) c.args.barriers.now f graph graph (length (nodes f)) h c.chord-item.result stands refl, h.count)

pub add_chord-requires-clause-opened : goal.add_chord-requires-clause-opened
add_chord-requires-clause-opened g c =
    let h = c.loop-chord.invariant.over in
    let inside : c.chord-item.result.to < length c.loop-chord.graph.parents.items = add_chord-requires-clause-inside g c in
    omega (arith, inside, h.count, h.all_opened)

pub add_chord-requires-clause-named : goal.add_chord-requires-clause-named
add_chord-requires-clause-named g c = λ u up.
    let h = c.loop-chord.invariant.over in
    let graph = c.loop-chord.graph in
    let f = c.args.found.now in
    let one : Chord = c.chord-item.result in
    let inside : one.to < length graph.parents.items = add_chord-requires-clause-inside g c in
    link_within (g.G.Ground.stars_and_areas c.args.over.now) c.args.barriers.now f graph graph (length (nodes f)) h one.to u (omega (arith, inside, h.count)) up

pub loop-chord-preserved : goal.loop-chord-preserved
loop-chord-preserved g c =
    let G = g.G.Ground.stars_and_areas c.args.over.now in
    let B = c.args.barriers.now in
    let f = c.args.found.now in
    let h = c.loop-chord.invariant in
    let old : Graph = c.loop-chord.graph in
    let new : Graph = c.add_chord.new.self in
    let k = c.loop-chord.chord-index in
    let xs : List Chord = c.chords-chord-items.result.now in
    let one : Chord = c.chord-item.result in
    let stands = stands_at xs (chords f) k one c.chord-item.is c.chords-chord-items.ensures c.loop-chord-test.true in
    let adds = c.in_ok-add_chord.ensures in
    record {
      over = chord G B f old new (length (nodes f)) h.over one stands refl adds;
      done = λ i d low at passable. elim (cases_eq i k) [
        | inl e ↦
            let here : slice_get (chords f) k ≡ Some one = chord_at xs (chords f) k one c.chord-item.is c.chords-chord-items.ensures c.loop-chord-test.true in
            let same : one ≡ d = some_same one d (sym here ∙ ap (slice_get (chords f)) (sym e) ∙ at) in
            subst (λ (x : Chord). Contains new.names x.tie.now.name) same
            (has_chord G B f old new (length (nodes f)) h.over one stands refl adds
            (ap (λ (x : Chord). is_passable G B (nodes f) x.to) same ∙ passable))
        | inr other ↦ keeps_names G B f old new one adds d.tie.now.name (h.done i d (omega (arith, low, other)) at passable)
      ];
    }

pub returns : goal.returns
returns g c =
    let f = c.args.found.now in
    let h = c.loop-chord.invariant in
    network (g.G.Ground.stars_and_areas c.args.over.now) c.args.barriers.now f c.loop-chord.graph h.over c.requires.linked
    (λ i d at. h.done i d (omega (arith, slice_get_within (chords f) i d at, c.loop-chord-test.false, ap length c.chords-chord-items.ensures)) at)
