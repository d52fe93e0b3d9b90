use Rattle.std.proofs.Common.{List, ◌++◌, ℕ, Option, Some, sym, subst}
use Rattle.std.specs.Io.KnownBytes.{Consumes}
use Rattle.un_http.specs.Requests.{Request, IsRequest}
use Rattle.un_exchange.specs.declared.end.LinkEnd.TheVariants.{Closed, Cut, ReadFault}
use Rattle.un_exchange.specs.Exchanges.{bytes_of, end_after}
use Rattle.un_exchange.specs.Writing.{Writes, page_bytes, check_end}
use Rattle.un_exchange.specs.Pages.{http_page, check_status}
use Rattle.un_exchange.proofs.Handling.{answered_by}
use Rattle.un_exchange.proofs.Linking.{answered, stopped, refused}
use Rattle.un_turns.specs.Served.{answering}
use Rattle.un_exchange.proofs.serve.next_exchange.Goals as goal

pub returns-in-Request-clause-proceeds : goal.returns-in-Request-clause-proceeds
returns-in-Request-clause-proceeds g c s left taken h =
    let n = c.in-Request.ensures.answers in
    let a =
    answered_by g.M.Machine.step g.J.BoardName.opening g.S.Answers.least (answering g.S.Answers.answer g.S.Answers.between) g.S.Service.asks g.S.Service.printing
    c.args.session.now c.respond-outgoing.new.session (g.L.Link.taken c.next_request.new.link) (g.L.Link.taken c.send_outgoing.new.link) c.next_request.new.inbox c.in-Request.request.close
    c.respond-outgoing.new.out.items c.deref.result.now c.respond-outgoing.result c.send_outgoing.result c.respond-outgoing.ensures.handled c.deref.ensures.value c.send_outgoing.ensures.writes in
    answered g.M.Machine.step g.J.BoardName.opening g.S.Answers.least (answering g.S.Answers.answer g.S.Answers.between) g.S.Service.asks g.S.Service.printing c.one_more.ensures.next c.one_more_request.ensures
    s c.args.session.now c.respond-outgoing.new.session left (g.L.Link.left c.args.link.now) (g.L.Link.left c.send_outgoing.new.link) taken (g.L.Link.taken c.args.link.now)
    c.args.room.now.inbox.held n.0 c.next_request.new.inbox.held a.exchange c.send_outgoing.result h
    (subst (λ (z : Option (List ℕ)). Consumes (g.L.Link.left c.args.link.now) z n.0) (sym c.send_outgoing.ensures.keeps_left) n.1.0)
    (subst (λ (q : Request). IsRequest (c.args.room.now.inbox.held ++ n.0) q c.next_request.new.inbox.held) (sym a.request) n.1.1)
    a.asked a.served (g.L.Link.taken c.send_outgoing.new.link)
    (subst (λ (z : Option (List ℕ)). Writes z (g.L.Link.taken c.send_outgoing.new.link) (bytes_of g.S.Service.printing a.exchange) (end_after a.exchange.request.close a.exchange.response) c.send_outgoing.result)
    c.in-Request.ensures.keeps_taken a.writes)

pub returns-in-Failed-clause-proceeds : goal.returns-in-Failed-clause-proceeds
returns-in-Failed-clause-proceeds g c s left taken h =
    let n = c.in-Failed.ensures.answers in
    refused g.M.Machine.step g.J.BoardName.opening g.S.Answers.least (answering g.S.Answers.answer g.S.Answers.between) g.S.Service.asks g.S.Service.printing
    s c.args.session.now left (g.L.Link.left c.args.link.now) (g.L.Link.left c.send_then.new.link) taken (g.L.Link.taken c.args.link.now) (g.L.Link.taken c.send_then.new.link)
    c.args.room.now.inbox.held n.0 c.next_request.new.inbox.held c.in-Failed.check c.send_then.result h
    (subst (λ (z : Option (List ℕ)). Consumes (g.L.Link.left c.args.link.now) z n.0) (sym c.send_then.ensures.keeps_left) n.1.0)
    n.1.1
    (subst (λ (z : Option (List ℕ)). Writes z (g.L.Link.taken c.send_then.new.link) (page_bytes (http_page (check_status c.in-Failed.check)) (Some (check_end c.in-Failed.check))) (Some (check_end c.in-Failed.check)) c.send_then.result) c.in-Failed.ensures.keeps_taken
    (rw (c.http_body.ensures.text, c.check_status-status.ensures, c.check_end.ensures) at c.send_then.ensures.writes))

pub returns-in-Closed-clause-proceeds : goal.returns-in-Closed-clause-proceeds
returns-in-Closed-clause-proceeds g c s left taken h =
    let n = c.in-Closed.ensures.answers in
    stopped g.M.Machine.step g.J.BoardName.opening g.S.Answers.least (answering g.S.Answers.answer g.S.Answers.between) g.S.Service.asks g.S.Service.printing
    s c.args.session.now left (g.L.Link.left c.args.link.now) (g.L.Link.left c.next_request.new.link) taken (g.L.Link.taken c.args.link.now) (g.L.Link.taken c.next_request.new.link)
    c.args.room.now.inbox.held n.0 Closed h n.1.0 c.in-Closed.ensures.keeps_taken n.1.1

pub returns-in-Cut-clause-proceeds : goal.returns-in-Cut-clause-proceeds
returns-in-Cut-clause-proceeds g c s left taken h =
    let n = c.in-Cut.ensures.answers in
    stopped g.M.Machine.step g.J.BoardName.opening g.S.Answers.least (answering g.S.Answers.answer g.S.Answers.between) g.S.Service.asks g.S.Service.printing
    s c.args.session.now left (g.L.Link.left c.args.link.now) (g.L.Link.left c.next_request.new.link) taken (g.L.Link.taken c.args.link.now) (g.L.Link.taken c.next_request.new.link)
    c.args.room.now.inbox.held n.0 (Cut c.in-Cut.bytes) h n.1.0 c.in-Cut.ensures.keeps_taken n.1.1

pub returns-in-ReadFault-clause-proceeds : goal.returns-in-ReadFault-clause-proceeds
returns-in-ReadFault-clause-proceeds g c s left taken h =
    let n = c.in-ReadFault.ensures.answers in
    stopped g.M.Machine.step g.J.BoardName.opening g.S.Answers.least (answering g.S.Answers.answer g.S.Answers.between) g.S.Service.asks g.S.Service.printing
    s c.args.session.now left (g.L.Link.left c.args.link.now) (g.L.Link.left c.next_request.new.link) taken (g.L.Link.taken c.args.link.now) (g.L.Link.taken c.next_request.new.link)
    c.args.room.now.inbox.held n.0 ReadFault h n.1.0 c.in-ReadFault.ensures.keeps_taken n.1.1
