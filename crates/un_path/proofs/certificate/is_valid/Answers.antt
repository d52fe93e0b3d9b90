use Rattle.std.proofs.Common.{arith, ◌≡◌, ◌<◌, Bool, true, false, List, Result, Ok, Err, length, map, Some, refl, sym, ap, subst, ◌∙◌, true≢false}
use Rattle.std.specs.Prelude.{IfOk, slice_index}
use Rattle.std.specs.Bool.{MatchBool}
use Rattle.std.proofs.lemmas.Option.{slice_get_within}
use Rattle.un_defs.specs.declared.port.Node.{Node}
use Rattle.un_defs.specs.declared.walk.Mode.TheVariants.{Any}
use Rattle.un_defs.specs.Reach.{leads}
use Rattle.un_defs.proofs.LinkCases.{some_same}
use Rattle.un_ask.specs.declared.results.Label.{Label}
use Rattle.un_ask.specs.declared.typed.CheckAsk.{CheckAsk}
use Rattle.un_path.specs.Answer.{IsValidOver}
use Rattle.un_path.specs.Checking.{HaveCosts}
use Rattle.un_path.specs.Costs.{step_cost}
use Rattle.un_path.specs.Hops.{IsAt}
use Rattle.un_path.specs.Paths.{label_ports, ports_of}
use Rattle.un_path.specs.Valid.{KeepsSteps, label_at}
use Rattle.un_path.proofs.RightWalk.{have_costs, valid_by, cost_read, count_costs}
use Rattle.un_path.proofs.certificate.is_valid.Goals as goal

refuted : {P : Type 0} (b : Bool) → MatchBool b P (P → ⊥) → b ≡ false → P → ⊥
refuted true h e p = absurd (true≢false e)
refuted false h e p = h p

confirmed : {P : Type 0} (b : Bool) → MatchBool b P (P → ⊥) → b ≡ true → P
confirmed true h e = h
confirmed false h e = absurd (true≢false (sym e))

decided : {P Q E : Type 0} (r : Result Bool E) → IfOk r (λ b. MatchBool b P (P → ⊥)) → (P → Q) → (Q → P) → IfOk r (λ b. MatchBool b Q (Q → ⊥))
decided (Ok true) h f g = f h
decided (Ok false) h f g = λ q. h (g q)
decided (Err e) h f g = tt

pub returns-then-index-ne0 : goal.returns-then-index-ne0
returns-then-index-ne0 g c = λ valid.
    let nodes : List Node = c.args.nodes.now in
    let ask : CheckAsk = c.args.ask.now in
    let start = c.in-Some.start in
    let labels : List Label = ask.labels in
    let items : c.in_ok-costs.costs.items ≡ map (λ (l : Label). l.cost) labels = c.in_ok-costs.ensures ∙ ap (map (λ (l : Label). l.cost)) c.as_slice-labels.ensures in
    let at_start : IsAt nodes start ask.from = (c.in-Some.ensures start).0 refl in
    let reached = c.requires.reached in
    let have : label_at labels ask.from.port ≡ Some (slice_index (map (λ (l : Label). l.cost) labels) start) = have_costs nodes reached.rising reached.own_ports labels valid.ports start ask.from at_start in
    let zero : 0 ≡ slice_index (map (λ (l : Label). l.cost) labels) start = some_same 0 (slice_index (map (λ (l : Label). l.cost) labels) start) (sym valid.start ∙ have) in
    let inside : start < length c.in_ok-costs.costs.items = omega (arith, slice_get_within nodes start ask.from at_start, count_costs nodes labels valid.ports, ap length items) in
    let read : c.index.result.now ≡ slice_index c.in_ok-costs.costs.items start = cost_read c.in_ok-costs.costs.items start c.index.result.now inside c.index.ensures in
    c.if-index-ne0.true (read ∙ ap (λ l. slice_index l start) items ∙ sym zero)

pub keeps_steps-requires-clause-costs : goal.keeps_steps-requires-clause-costs
keeps_steps-requires-clause-costs g c =
    let nodes : List Node = c.args.nodes.now in
    let labels : List Label = c.as_slice-labels.result.now in
    let items : c.deref.result.now ≡ map (λ (l : Label). l.cost) labels = c.deref.ensures.value ∙ c.in_ok-costs.ensures in
    let reached = c.requires.reached in
    subst (HaveCosts nodes labels) (sym items) (have_costs nodes reached.rising reached.own_ports labels c.if-not-have_ports.ensures)

pub returns-then-not-branch : goal.returns-then-not-branch
returns-then-not-branch g c = λ valid.
    let G = g.G.Ground.stars_and_areas c.args.over.now in
    let ask : CheckAsk = c.args.ask.now in
    refuted c.in_ok-keeps_steps.field-0 c.in_ok-keeps_steps.ensures c.if-not-branch.true
    (subst (KeepsSteps (leads G ask.barriers Any) (step_cost G ask.barriers ask.weight) c.args.nodes.now) (sym c.as_slice-labels.ensures) valid.steps)

pub has_right_walk-requires-clause-costs : goal.has_right_walk-requires-clause-costs
has_right_walk-requires-clause-costs g c =
    let nodes : List Node = c.args.nodes.now in
    let ask : CheckAsk = c.args.ask.now in
    let items : c.deref-2.result.now ≡ map (λ (l : Label). l.cost) ask.labels = c.deref-2.ensures.value ∙ c.in_ok-costs.ensures ∙ ap (map (λ (l : Label). l.cost)) c.as_slice-labels.ensures in
    let reached = c.requires.reached in
    let ports : label_ports ask.labels ≡ ports_of nodes = ap label_ports (sym c.as_slice-labels.ensures) ∙ c.if-not-have_ports.ensures in
    subst (HaveCosts nodes ask.labels) (sym items) (have_costs nodes reached.rising reached.own_ports ask.labels ports)

pub returns : goal.returns
returns g c =
    let G = g.G.Ground.stars_and_areas c.args.over.now in
    let ask : CheckAsk = c.args.ask.now in
    let nodes : List Node = c.args.nodes.now in
    let start = c.in-Some.start in
    let labels : List Label = ask.labels in
    let items : c.in_ok-costs.costs.items ≡ map (λ (l : Label). l.cost) labels = c.in_ok-costs.ensures ∙ ap (map (λ (l : Label). l.cost)) c.as_slice-labels.ensures in
    let at_start : IsAt nodes start ask.from = (c.in-Some.ensures start).0 refl in
    let reached = c.requires.reached in
    let ports : label_ports labels ≡ ports_of nodes = ap label_ports (sym c.as_slice-labels.ensures) ∙ c.if-not-have_ports.ensures in
    let have : label_at labels ask.from.port ≡ Some (slice_index (map (λ (l : Label). l.cost) labels) start) = have_costs nodes reached.rising reached.own_ports labels ports start ask.from at_start in
    let inside : start < length c.in_ok-costs.costs.items = omega (arith, slice_get_within nodes start ask.from at_start, count_costs nodes labels ports, ap length items) in
    let read : c.index.result.now ≡ slice_index c.in_ok-costs.costs.items start = cost_read c.in_ok-costs.costs.items start c.index.result.now inside c.index.ensures in
    let zero : slice_index (map (λ (l : Label). l.cost) labels) start ≡ 0 = ap (λ l. slice_index l start) (sym items) ∙ sym read ∙ c.if-index-ne0.false in
    let steps : KeepsSteps (leads G ask.barriers Any) (step_cost G ask.barriers ask.weight) nodes labels =
    subst (KeepsSteps (leads G ask.barriers Any) (step_cost G ask.barriers ask.weight) nodes) c.as_slice-labels.ensures
    (confirmed c.in_ok-keeps_steps.field-0 c.in_ok-keeps_steps.ensures c.if-not-branch.false) in
    decided c.has_right_walk.result c.has_right_walk.ensures
    (valid_by (leads G ask.barriers Any) (step_cost G ask.barriers ask.weight) nodes ask ports (have ∙ ap Some zero) steps)
    (λ (valid : IsValidOver G ask nodes). valid.walk)
