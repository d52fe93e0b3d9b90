use Rattle.std.proofs.Common.{arith, ◌≡◌, ℕ, Bool, List, [], ◌∷◌, Option, length, Some, None, is_some, not, true, false, sym, subst, refl, ◌∙◌, true≢false}
use Rattle.std.specs.Bool.{MatchBool}
use Rattle.std.proofs.lemmas.Option.{slice_get_within}
use Rattle.un_defs.specs.declared.port.Port.{Port}
use Rattle.un_defs.specs.declared.port.Node.{Node}
use Rattle.un_defs.specs.declared.walk.Mode.TheVariants.{Any}
use Rattle.un_defs.specs.Reach.{leads}
use Rattle.un_defs.specs.Orders.{same_port}
use Rattle.un_defs.proofs.Unique.{port_same}
use Rattle.un_ask.specs.declared.typed.CheckAsk.{CheckAsk}
use Rattle.un_path.specs.Checking.{HasRightWalk, IsEndOf}
use Rattle.un_path.specs.Costs.{step_cost}
use Rattle.un_path.specs.Hops.{IsAt}
use Rattle.un_path.proofs.Places.{place_from, contains_at}
use Rattle.un_path.proofs.RightWalk.{none_right, none_wrong, endless_wrong, end_right, right_end}
use Rattle.un_path.proofs.certificate.has_right_walk.Goals as goal

empty_from : {A : Type 0} (l : List A) → length l ≡ 0 → l ≡ []
empty_from [] e = refl
empty_from (x ∷ xs) e = absurd (omega (arith, e))

-- the search for the last node decides
unreached : (step : Node → Node → Bool) (cost : Node → Node → ℕ) (nodes : List Node) (ask : CheckAsk) → ask.nodes ≡ [] → (o : Option ℕ) (b : Bool) → is_some o ≡ not b
    → ((p : ℕ) → (o ≡ Some p → IsAt nodes p ask.to) × (IsAt nodes p ask.to → o ≡ Some p)) → MatchBool b (HasRightWalk step cost nodes ask) (HasRightWalk step cost nodes ask → ⊥)
unreached step cost nodes ask bare None true e found = none_right step cost nodes ask bare (λ there. (let place = place_from nodes ask.to there in let clash : None ≡ Some place.0 = (found place.0).1 place.1 in cc))
unreached step cost nodes ask bare None false e found = absurd (true≢false (sym e))
unreached step cost nodes ask bare (Some p) true e found = absurd (true≢false e)
unreached step cost nodes ask bare (Some p) false e found = none_wrong step cost nodes ask bare (contains_at nodes p ask.to ((found p).0 refl))

not_false : (b : Bool) → not b ≡ false → b ≡ true
not_false true e = refl
not_false false e = absurd (true≢false e)

decided : {P Q : Type 0} (b : Bool) → MatchBool b P (P → ⊥) → (P → Q) → (Q → P) → MatchBool b Q (Q → ⊥)
decided true p f g = f p
decided false p f g = λ q. p (g q)

pub walk_end-requires-clause-inside : goal.walk_end-requires-clause-inside
walk_end-requires-clause-inside g c = slice_get_within c.args.nodes.now c.args.start c.args.ask.now.from c.requires.start

pub returns-in_default : goal.returns-in_default
returns-in_default g c =
    let G = g.G.Ground.stars_and_areas c.args.over.now in
    let ask = c.args.ask.now in
    unreached (leads G ask.barriers Any) (step_cost G ask.barriers ask.weight) c.args.nodes.now ask (sym c.as_slice.ensures ∙ empty_from c.as_slice.result.now c.in_default.ensures.cases)
    c.place_of.result c.is_none.result c.is_none.ensures c.place_of.ensures

pub returns-in-Some-end : goal.returns-in-Some-end
returns-in-Some-end g c =
    let G = g.G.Ground.stars_and_areas c.args.over.now in
    let ask = c.args.ask.now in
    let nodes : List Node = c.args.nodes.now in
    let first : Port = c.in-Some.first.now in
    let rest : List Port = c.in-Some.rest.now in
    let shown : ask.nodes ≡ first ∷ rest = sym c.as_slice.ensures ∙ c.in-Some.ensures.cases.0 in
    let from : first ≡ ask.from.port = port_same first ask.from.port (not_false (same_port first ask.from.port) (sym c.ne.ensures ∙ c.if-ne.false)) in
    let ends : IsEndOf (leads G ask.barriers Any) (step_cost G ask.barriers ask.weight) nodes ask.from rest (Some c.in-Some-end.end) =
    subst (IsEndOf (leads G ask.barriers Any) (step_cost G ask.barriers ask.weight) nodes ask.from rest) c.in-Some-end.is (c.in_ok-end.ensures ask.from c.requires.start) in
    decided c.is_end.result c.is_end.ensures
    (end_right (leads G ask.barriers Any) (step_cost G ask.barriers ask.weight) nodes ask first rest shown c.args.costs.now c.requires.costs c.in-Some-end.end ends from)
    (right_end (leads G ask.barriers Any) (step_cost G ask.barriers ask.weight) nodes ask first rest shown c.args.costs.now c.requires.costs c.in-Some-end.end ends)

pub returns-in-None : goal.returns-in-None
returns-in-None g c =
    let G = g.G.Ground.stars_and_areas c.args.over.now in
    let ask = c.args.ask.now in
    let nodes : List Node = c.args.nodes.now in
    let first : Port = c.in-Some.first.now in
    let rest : List Port = c.in-Some.rest.now in
    let shown : ask.nodes ≡ first ∷ rest = sym c.as_slice.ensures ∙ c.in-Some.ensures.cases.0 in
    endless_wrong (leads G ask.barriers Any) (step_cost G ask.barriers ask.weight) nodes ask first rest shown
    (subst (IsEndOf (leads G ask.barriers Any) (step_cost G ask.barriers ask.weight) nodes ask.from rest) c.in-None.is (c.in_ok-end.ensures ask.from c.requires.start))
