use Rattle.std.proofs.Common.{arith}
use Rattle.un_exchange.proofs.Linking.{exchanged_none}
use Rattle.un_turns.specs.Served.{answering}
use Rattle.un_exchange.proofs.serve.serve.Goals as goal

pub exchanging-init : goal.exchanging-init
exchanging-init g c = record {
  exchanged = rw c.requires.empty (exchanged_none g.M.Machine.step g.J.BoardName.opening g.S.Answers.least (answering g.S.Answers.answer g.S.Answers.between) g.S.Service.asks g.S.Service.printing c.args.session.now (g.L.Link.left c.args.link.now) (g.L.Link.taken c.args.link.now));
  head = omega arith;
  printed = omega arith;
  past = c.requires.past;
  reads_counted = omega arith;
  writes_counted = omega arith;
}
