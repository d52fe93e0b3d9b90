use Rattle.std.proofs.Common.{◌≡◌, List, [], ◌∷◌, ◌++◌, reverse, Option, refl, sym, ap, ◌∙◌}
use Rattle.std.proofs.lemmas.List.{reverse-append, map-append}
use Rattle.std.proofs.lemmas.Option.{slice_get_within}
use Rattle.un_defs.specs.declared.port.Node.{Node}
use Rattle.un_path.specs.declared.search.Arrival.{Arrival}
use Rattle.un_path.specs.Hops.{IsAt}
use Rattle.un_path.specs.Paths.{ports_of}
use Rattle.un_path.specs.Search.{HasBest}
use Rattle.un_path.proofs.shortest.found_to.Goals as goal

ports_reversed : (xs : List Node) → ports_of (reverse xs) ≡ reverse (ports_of xs)
ports_reversed [] = refl
ports_reversed (x ∷ xs) =
    ap ports_of (reverse-append (x ∷ []) xs) ∙ map-append (λ (n : Node). n.port) (reverse xs) (x ∷ []) ∙ ap (λ l. l ++ x.port ∷ []) (ports_reversed xs)
    ∙ sym (reverse-append (x.port ∷ []) (ports_of xs))

pub trace_back-requires-clause-inside : goal.trace_back-requires-clause-inside
trace_back-requires-clause-inside c = slice_get_within c.args.nodes.now c.in-Some.place c.args.to ((c.in-Some.ensures c.in-Some.place).0 refl)

pub trace_back-requires-clause-settled : goal.trace_back-requires-clause-settled
trace_back-requires-clause-settled c = c.requires.settled c.in-Some.place (slice_get_within c.args.nodes.now c.in-Some.place c.args.to ((c.in-Some.ensures c.in-Some.place).0 refl))

pub arrival_at-requires : goal.arrival_at-requires
arrival_at-requires c = c.requires.settled c.in-Some.place (slice_get_within c.args.nodes.now c.in-Some.place c.args.to ((c.in-Some.ensures c.in-Some.place).0 refl))

pub returns-clause-found : goal.returns-clause-found
returns-clause-found c =
    let nodes : List Node = c.args.nodes.now in
    let arrivals : List (Option Arrival) = c.args.arrivals.now in
    let i = c.in-Some.place in
    let to : Node = c.args.to in
    let at : IsAt nodes i to = (c.in-Some.ensures i).0 refl in
    let a : Arrival = c.arrival_at.result in
    let u = (c.requires.trace i a c.arrival_at.ensures).0 in
    let traced = c.in_ok-ports.ensures to at in
    let best : HasBest nodes arrivals to a.cost a.steps u.0 = record { place = i; arrival = a; at = at; has = c.arrival_at.ensures; costs = refl; steps = refl; from = u.1 } in
    record {
      path = (a.steps, u.0, traced.0, best, traced.2, c.new-2.ensures ∙ c.reverse.ensures.items ∙ ap reverse traced.1 ∙ sym (ports_reversed (to ∷ traced.0)));
    }
