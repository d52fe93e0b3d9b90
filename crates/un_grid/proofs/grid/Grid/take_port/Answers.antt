use Rattle.std.proofs.Common.{◌≡◌, ◌∙◌, sym, ap}
use Rattle.std.specs.Arc.{arc_value}
use Rattle.un_grid.specs.Grids.{ports_in}
use Rattle.un_grid.proofs.Taking.{others, take_last, last_grid, take_one, one_grid, none_left, some_left}
use Rattle.un_grid.proofs.grid.Grid.take_port.Goals as goal

pub invariant_of-self-then-is_empty : goal.invariant_of-self-then-is_empty
invariant_of-self-then-is_empty c = last_grid c.args.self.now c.self.inside.points c.take.new.self c.self.view_is c.args.p c.args.port c.in_ok-take.ensures.list c.at.ensures.grid

pub returns-then-is_empty : goal.returns-then-is_empty
returns-then-is_empty c =
    let rest : c.in_ok-ports.ports.items ≡ others c.args.port (ports_in c.args.self.now c.args.p) = c.in_ok-ports.ensures ∙ ap (others c.args.port) c.at.ensures.ports in
    take_last c.args.self.now c.self.inside.points c.take.new.self c.self.view_is c.args.p c.args.port (sym rest ∙ none_left c.in_ok-ports.ports.items c.in_ok-ports.ports.len c.in_ok-ports.ports.ok.0 (sym c.is_empty.ensures ∙ c.if-is_empty.true)) c.in_ok-take.ensures.values

pub invariant_of-self-2 : goal.invariant_of-self-2
invariant_of-self-2 c =
    let rest : c.in_ok-ports.ports.items ≡ others c.args.port (ports_in c.args.self.now c.args.p) = c.in_ok-ports.ensures ∙ ap (others c.args.port) c.at.ensures.ports in
    let held : arc_value c.in_ok-shared.shared ≡ c.in_ok-ports.ports.items = c.in_ok-shared.ensures.ok ∙ c.new.ensures in
    one_grid c.args.self.now c.self.inside.points c.put.new.self c.self.view_is c.args.p c.args.port _ (held ∙ rest)
    (λ e. some_left c.in_ok-ports.ports.items c.in_ok-ports.ports.len c.in_ok-ports.ports.ok.0 (sym c.is_empty.ensures ∙ c.if-is_empty.false) (sym held ∙ e)) c.in_ok-put.ensures.list c.at.ensures.grid

pub returns : goal.returns
returns c =
    let rest : c.in_ok-ports.ports.items ≡ others c.args.port (ports_in c.args.self.now c.args.p) = c.in_ok-ports.ensures ∙ ap (others c.args.port) c.at.ensures.ports in
    let held : arc_value c.in_ok-shared.shared ≡ c.in_ok-ports.ports.items = c.in_ok-shared.ensures.ok ∙ c.new.ensures in
    take_one c.args.self.now c.self.inside.points c.put.new.self c.self.view_is c.args.p c.args.port _ (held ∙ rest) c.in_ok-put.ensures.values
