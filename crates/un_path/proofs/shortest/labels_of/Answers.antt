use Rattle.std.proofs.Common.{◌≡◌, ℕ, zero, suc, ◌+◌, pos, List, [], ◌∷◌, ◌++◌, ◌⊎◌, inl, inr, length, map, take, get_or, Option, Some, refl, sym, ap, subst, ◌∙◌, arith}
use Rattle.std.specs.Prelude.{slice_get}
use Rattle.std.proofs.lemmas.List.{length_push, take_more}
use Rattle.std.proofs.lemmas.Option.{slice_get-get_or}
use Rattle.un_defs.specs.declared.port.Node.{Node}
use Rattle.un_defs.proofs.LinkCases.{some_same}
use Rattle.un_ask.specs.declared.results.Label.{Label}
use Rattle.un_path.specs.declared.search.Arrival.{Arrival}
use Rattle.un_path.specs.Hops.{IsAt}
use Rattle.un_path.specs.Paths.{ports_of}
use Rattle.un_path.specs.Search.{HasArrival, AreLabelsOf}
use Rattle.un_path.proofs.shortest.labels_of.Goals as goal

abbrev no_node : Node
no_node = record { port = record { feature = 0; number = 0 }; at = record { x = pos 0; y = pos 0; z = pos 0 } }

pushed_cases : {X : Type 0} (xs : List X) (y : X) (k : ℕ) (z : X) → slice_get (xs ++ y ∷ []) k ≡ Some z → (slice_get xs k ≡ Some z) ⊎ ((k ≡ length xs) × (y ≡ z))
pushed_cases [] y zero z at = inr (refl, some_same y z at)
pushed_cases [] y (suc k) z at = absurd (cc)
pushed_cases (x ∷ xs) y zero z at = inl at
pushed_cases (x ∷ xs) y (suc k) z at = elim (pushed_cases xs y k z at) [ inl e ↦ inl e | inr e ↦ inr (ap suc e.0, e.1) ]

map_push : {X Y : Type 0} (f : X → Y) (xs : List X) (y : X) → map f (xs ++ y ∷ []) ≡ map f xs ++ f y ∷ []
map_push f [] y = refl
map_push f (x ∷ xs) y = ap (λ l. f x ∷ l) (map_push f xs y)

pub loop-i-preserved : goal.loop-i-preserved
loop-i-preserved c =
    let nodes : List Node = c.args.nodes.now in
    let arrivals : List (Option Arrival) = c.args.arrivals.now in
    let labels : List Label = c.loop-i.labels.items in
    let i = c.loop-i.i in
    let so_far = c.loop-i.invariant in
    let n : Node = get_or nodes i no_node in
    let at_n : IsAt nodes i n = slice_get-get_or nodes i no_node c.loop-i-test.true in
    let label : Label = record { port = n.port; cost = c.arrival_at.result.cost } in
    let grown : AreLabelsOf nodes arrivals (labels ++ label ∷ []) (i + 1) = record {
      count = length_push labels label ∙ (let e = so_far.count in omega arith);
      costs = λ k l at. elim (pushed_cases labels label k l at) [
        | inl before ↦ so_far.costs k l before
        | inr (last, same) ↦
            let place : i ≡ k = sym so_far.count ∙ sym last in (
              n,
              c.arrival_at.result,
              subst (λ p. IsAt nodes p n) place at_n,
              subst (λ p. HasArrival arrivals p c.arrival_at.result) place c.arrival_at.ensures,
              ap (λ (x : Label). x.port) (sym same),
              ap (λ (x : Label). x.cost) (sym same),
            )
      ];
      ports = map_push (λ (x : Label). x.port) labels label ∙ ap (λ l. l ++ n.port ∷ []) so_far.ports ∙ sym (map_push (λ (x : Node). x.port) (take i nodes) n)
          ∙ ap ports_of (sym (take_more nodes i no_node c.loop-i-test.true));
    } in
    subst (λ l. AreLabelsOf nodes arrivals l (i + 1)) (sym c.in_ok-push.ensures.items) grown
