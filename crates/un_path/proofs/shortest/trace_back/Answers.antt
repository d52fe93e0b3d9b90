use Rattle.std.proofs.Common.{◌≡◌, ◌+◌, pos, List, [], ◌∷◌, ◌++◌, get_or, Option, refl, sym, ap, subst, ◌∙◌, append_assoc}
use Rattle.std.proofs.lemmas.List.{append-nil}
use Rattle.std.proofs.lemmas.Option.{slice_get_within, get_or_from_slice_get}
use Rattle.un_defs.specs.declared.port.Node.{Node}
use Rattle.un_path.specs.declared.search.Arrival.{Arrival}
use Rattle.un_path.specs.Hops.{IsAt}
use Rattle.un_path.specs.Paths.{ports_of}
use Rattle.un_path.specs.Search.{HasArrival, HasBest}
use Rattle.un_path.proofs.Places.{node_at}
use Rattle.un_path.proofs.shortest.trace_back.Goals as goal

abbrev no_node : Node
no_node = record { port = record { feature = 0; number = 0 }; at = record { x = pos 0; y = pos 0; z = pos 0 } }

pub loop-before-preserved : goal.loop-before-preserved
loop-before-preserved c =
    let nodes : List Node = c.args.nodes.now in
    let arrivals : List (Option Arrival) = c.args.arrivals.now in
    let i = c.loop-before.place in
    let j = c.in-Some.before in
    let (a, has, parts) = c.in-Some.ensures in
    let trace = c.requires.trace i a has in
    let at_u : IsAt nodes j trace.0.0 = subst (λ k. IsAt nodes k trace.0.0) parts.0 trace.0.1 in
    let b = trace.1 parts.1 in
    let here = node_at nodes i c.loop-before.invariant.inside in
    record {
      inside = slice_get_within nodes j trace.0.0 at_u;
      settled = (b.0, subst (λ k. HasArrival arrivals k b.0) parts.0 b.1);
      on = λ n m at_n at_m rest chain.
          let best : HasBest nodes arrivals here.0 a.cost ((b.0).steps + 1) m =
          record { place = i; arrival = a; at = here.1; has = has; costs = refl; steps = b.2; from = subst (λ k. IsAt nodes k m) (sym parts.0) at_m } in
          let more = c.loop-before.invariant.on n here.0 at_n here.1 (m ∷ rest) (a.cost, (b.0).steps, best, chain) in
          let read : get_or nodes j no_node ≡ m = get_or_from_slice_get nodes j m no_node at_m in
          let items : c.push-in-Some.new.self.items ≡ c.loop-before.ports.items ++ m.port ∷ [] =
          c.in_ok-push-2.ensures.items ∙ ap (λ (x : Node). c.loop-before.ports.items ++ x.port ∷ []) read in
          (more.0, ap (λ l. l ++ ports_of rest) items ∙ append_assoc c.loop-before.ports.items (m.port ∷ []) (ports_of rest) ∙ more.1, more.2);
    }

pub returns : goal.returns
returns c = λ n at_n.
    let nodes : List Node = c.args.nodes.now in
    let arrivals : List (Option Arrival) = c.args.arrivals.now in
    let i = c.loop-before.place in
    let (a, has, zero) = c.in_default.ensures in
    let trace = c.requires.trace i a has in
    let here = node_at nodes i c.loop-before.invariant.inside in
    let best : HasBest nodes arrivals here.0 a.cost 0 trace.0.0 = record { place = i; arrival = a; at = here.1; has = has; costs = refl; steps = zero; from = trace.0.1 } in
    let more = c.loop-before.invariant.on n here.0 at_n here.1 [] (a.cost, trace.0.0, best) in
    (more.0, sym (append-nil c.loop-before.ports.items) ∙ more.1, more.2)
