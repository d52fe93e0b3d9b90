use Rattle.std.proofs.Common.{◌<◌, ◌^◌, inl, arith}
use Rattle.un_turns.specs.Own.{IsWithin}
use Rattle.un_exchange.specs.declared.end.LinkEnd.TheVariants.{Denied}
use Rattle.un_exchange.proofs.Linking.{served_whole}
use Rattle.un_exchange.proofs.Ending.{denied_rose}
use Rattle.un_turns.specs.Served.{answering}
use Rattle.un_exchange.proofs.serve.serve_link.Goals as goal

pub returns-in-Ok-clause-served : goal.returns-in-Ok-clause-served
returns-in-Ok-clause-served g c =
    let within : IsWithin c.args.session.now = rw c.own-own.ensures.own at c.own-own.ensures.within in
    let below : c.args.session.now.denied < 2 ^ 64 = omega (arith, c.denied-denied.ensures) in
    inl (served_whole g.M.Machine.step g.J.BoardName.opening g.S.Answers.least (answering g.S.Answers.answer g.S.Answers.between) g.S.Service.asks g.S.Service.printing c.responses_are_truthful.ensures
    c.args.session.now c.serve.new.session (g.L.Link.left c.args.link.now) (g.L.Link.left c.serve.new.link) (g.L.Link.taken c.args.link.now) (g.L.Link.taken c.serve.new.link) c.serve.result
    within below c.serve.ensures.served)

pub returns-in-Ok-clause-denied_cause : goal.returns-in-Ok-clause-denied_cause
returns-in-Ok-clause-denied_cause g c d e =
    let within : IsWithin c.args.session.now = rw c.own-own.ensures.own at c.own-own.ensures.within in
    let below : c.args.session.now.denied < 2 ^ 64 = omega (arith, c.denied-denied.ensures) in
    denied_rose g.M.Machine.step g.J.BoardName.opening g.S.Answers.least (answering g.S.Answers.answer g.S.Answers.between) g.S.Service.asks g.S.Service.printing
    c.args.session.now c.serve.new.session (g.L.Link.left c.args.link.now) (g.L.Link.left c.serve.new.link) (g.L.Link.taken c.args.link.now) (g.L.Link.taken c.serve.new.link) d
    (served_whole g.M.Machine.step g.J.BoardName.opening g.S.Answers.least (answering g.S.Answers.answer g.S.Answers.between) g.S.Service.asks g.S.Service.printing c.responses_are_truthful.ensures
    c.args.session.now c.serve.new.session (g.L.Link.left c.args.link.now) (g.L.Link.left c.serve.new.link) (g.L.Link.taken c.args.link.now) (g.L.Link.taken c.serve.new.link) (Denied d)
    within below (rw e at c.serve.ensures.served))
