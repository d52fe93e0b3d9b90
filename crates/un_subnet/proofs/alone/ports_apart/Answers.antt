use Rattle.std.proofs.Common.{◌≡◌, Some, None, option_to_list, length, ap, sym, subst, subst₂, ◌∙◌, IfOk, arith}
use Rattle.un_defs.specs.declared.walk.Mode.TheVariants.{Any}
use Rattle.un_defs.specs.Orders.{least, node_cmp}
use Rattle.un_defs.specs.Reach.{IsReach, leads}
use Rattle.un_subnet.specs.Alone.{ports_outside, reached_alone, least_start}
use Rattle.un_subnet.proofs.AloneReach.{no_starts, alone_is, alone_shorter, on_ok}
use Rattle.un_subnet.proofs.alone.ports_apart.Goals as goal

pub returns-in_default-clause-ports : goal.returns-in_default-clause-ports
returns-in_default-clause-ports g c = λ reached reach.
    let G = g.G.Ground.stars_and_areas c.args.over.now in
    let ask = c.args.ask.now in
    let none : least node_cmp ask.starts ≡ None = ap (least node_cmp) (sym c.as_slice-starts.ensures) ∙ sym c.in_ok-first.ensures ∙ c.in_default.is in
    c.new.ensures.items ∙ sym (ap (ports_outside (reached_alone G ask.barriers ask.starts reached)) (no_starts ask.starts none))

pub returns-clause-ports : goal.returns-clause-ports
returns-clause-ports g c = λ reached reach.
    let G = g.G.Ground.stars_and_areas c.args.over.now in
    let ask = c.args.ask.now in
    let nodes = c.in_ok-alone.alone.nodes in
    let some : Some c.in-Some.first ≡ least node_cmp ask.starts = sym c.in-Some.is ∙ c.in_ok-first.ensures ∙ ap (least node_cmp) c.as_slice-starts.ensures in
    let is : IsReach (leads G ask.barriers Any) (least_start ask.starts) nodes =
    subst (λ o. IsReach (leads G ask.barriers Any) (option_to_list o) nodes) some c.in_ok-alone.ensures.nodes in
    subst₂ (λ ns starts. IfOk c.ports_outside.result (λ ports. ports.items ≡ ports_outside ns starts))
    (c.as_slice.ensures ∙ alone_is G ask.barriers ask.starts reached reach nodes is) c.as_slice-starts.ensures c.ports_outside.ensures

pub returns-clause-ticks : goal.returns-clause-ticks
returns-clause-ticks g c = λ reached reach once.
    let G = g.G.Ground.stars_and_areas c.args.over.now in
    let ask = c.args.ask.now in
    let nodes = c.in_ok-alone.alone.nodes in
    let some : Some c.in-Some.first ≡ least node_cmp ask.starts = sym c.in-Some.is ∙ c.in_ok-first.ensures ∙ ap (least node_cmp) c.as_slice-starts.ensures in
    let is : IsReach (leads G ask.barriers Any) (least_start ask.starts) nodes =
    subst (λ o. IsReach (leads G ask.barriers Any) (option_to_list o) nodes) some c.in_ok-alone.ensures.nodes in
    on_ok c.ports_outside.result
    (omega (arith, c.in_ok-alone.ensures.ticks once, ap length (alone_is G ask.barriers ask.starts reached reach nodes is), alone_shorter G ask.barriers ask.starts reached reach))
