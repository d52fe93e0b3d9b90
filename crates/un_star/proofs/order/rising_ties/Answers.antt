use Rattle.std.proofs.Common.{◌∙◌, ap, map}
use Rattle.un_defs.specs.Orders.{rising}
use Rattle.un_star.specs.contracts.order.ByNameOrd.TheImpl as name_order
use Rattle.un_star.specs.Named.{named}
use Rattle.un_star.proofs.OrdersAlike.{rising_by_name}
use Rattle.un_star.proofs.order.rising_ties.Goals as goal

pub returns : goal.returns
returns c =
    c.from_vec.ensures.items ∙ c.in_ok-sorted.ensures ∙ ap (map (λ b. b.tie)) (c.as_slice-4.ensures.value ∙ c.in_ok-all-2.ensures
    ∙ ap (rising name_order.ghosts.cmp) (c.as_slice-3.ensures.value ∙ c.in_ok-all.ensures ∙ ap (map named) c.as_slice-2.ensures)) ∙ rising_by_name c.args.ties.items
