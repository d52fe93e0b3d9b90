use Rattle.un_exchange.proofs.Writes.{prefix_err}
use Rattle.un_exchange.proofs.send.send_both.Goals as goal

pub returns-clause-err : goal.returns-clause-err
returns-clause-err g c =
    prefix_err c.send-2.result (g.L.Link.taken c.args.link.now) (g.L.Link.taken c.send.new.link) (g.L.Link.taken c.send-2.new.link)
    c.args.head.now c.args.body.now c.in_ok-send.ensures.ok c.send-2.ensures.err
