use Rattle.std.proofs.Common.{◌∙◌, ap}
use Rattle.un_defs.specs.Orders.{rising, port_cmp}
use Rattle.un_subnet.proofs.Alike.{ports_alike}
use Rattle.un_subnet.proofs.row.rising_ports.Goals as goal

pub returns : goal.returns
returns c =
    c.new.ensures ∙ c.in_ok-rising.ensures ∙ (λ i. rising (ports_alike i) c.deref.result.now) ∙ ap (rising port_cmp) (c.deref.ensures.value ∙ c.in_ok-ports.ensures)
