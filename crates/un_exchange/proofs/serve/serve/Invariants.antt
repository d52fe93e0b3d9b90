use Rattle.std.proofs.Common.{◌≤◌, vec_capacity}
use Rattle.un_turns.specs.Pasts.{IsKeptFor}
use Rattle.un_exchange.specs.Links.{HasExchanged}
use Rattle.un_turns.specs.Served.{answering}
use Rattle.un_exchange.proofs.serve.serve.Given as goal

abbrev pub invariant-exchanging : goal.invariant-exchanging
invariant-exchanging g l = record {
  exchanged : HasExchanged g.M.Machine.step g.J.BoardName.opening g.S.Answers.least (answering g.S.Answers.answer g.S.Answers.between) g.S.Service.asks g.S.Service.printing l.initial.session l.session
      (g.L.Link.left l.initial.link) (g.L.Link.left l.link) (g.L.Link.taken l.initial.link) (g.L.Link.taken l.link) l.room.inbox.held;
  head : vec_capacity l.initial.room.head ≤ vec_capacity l.room.head;
  printed : vec_capacity l.initial.room.printed ≤ vec_capacity l.room.printed;
  past : IsKeptFor g.M.Machine.step g.J.BoardName.opening l.room.past l.session.seen;
  reads_counted : g.L.Link.read_faults l.initial.link ≤ g.L.Link.read_faults l.link;
  writes_counted : g.L.Link.write_faults l.initial.link ≤ g.L.Link.write_faults l.link;
}
