use Rattle.std.proofs.Common.{refl, sym, inl}
use Rattle.un_exchange.proofs.Handling.{past_written, reply_written}
use Rattle.un_exchange.proofs.respond.print_response.Goals as goal

pub returns-in-Answer-clause-outgoing : goal.returns-in-Answer-clause-outgoing
returns-in-Answer-clause-outgoing g c = (c.args.response, inl refl, λ asked. rw c.in-Answer.is (record { says = c.answer_page.ensures; ends = λ close. refl }))

pub returns-in-PastAnswer-clause-outgoing : goal.returns-in-PastAnswer-clause-outgoing
returns-in-PastAnswer-clause-outgoing g c =
    past_written g.S.Service.printing c.args.response c.in-PastAnswer.version c.in-PastAnswer.answer c.args.out.now.items c.past_outgoing.result c.in-PastAnswer.is c.past_outgoing.ensures

pub returns-in-Ahead-clause-outgoing : goal.returns-in-Ahead-clause-outgoing
returns-in-Ahead-clause-outgoing g c = (c.args.response, inl refl, λ asked. rw c.in-Ahead.is (record { says = sym c.print_ahead.ensures.page; ends = λ close. refl }))

pub returns-in-NotYet-clause-outgoing : goal.returns-in-NotYet-clause-outgoing
returns-in-NotYet-clause-outgoing g c = (c.args.response, inl refl, λ asked. rw c.in-NotYet.is (record { says = sym c.print_not_yet.ensures.page; ends = λ close. refl }))

pub returns-in-Denied-clause-outgoing : goal.returns-in-Denied-clause-outgoing
returns-in-Denied-clause-outgoing g c = (c.args.response, inl refl, λ asked. rw c.in-Denied.is (record { says = refl; ends = λ close. refl }))

pub returns-in-Memory-clause-outgoing : goal.returns-in-Memory-clause-outgoing
returns-in-Memory-clause-outgoing g c = (c.args.response, inl refl, λ asked. rw c.in-Memory.is (record { says = refl; ends = λ close. refl }))

pub returns-in-Accepted-clause-outgoing : goal.returns-in-Accepted-clause-outgoing
returns-in-Accepted-clause-outgoing g c =
    reply_written g.S.Service.printing c.args.response c.in-Accepted.reply c.print_reply.result c.print_reply.new.out.items c.in-Accepted.is c.print_reply.ensures.page

pub returns-in-BetweenAnswer-clause-outgoing : goal.returns-in-BetweenAnswer-clause-outgoing
returns-in-BetweenAnswer-clause-outgoing g c =
    (c.args.response, inl refl, λ asked. rw c.in-BetweenAnswer.is (record { says = c.answer_page-in-BetweenAnswer.ensures; ends = λ close. refl }))

pub returns-in-Reversed-clause-outgoing : goal.returns-in-Reversed-clause-outgoing
returns-in-Reversed-clause-outgoing g c = (c.args.response, inl refl, λ asked. rw c.in-Reversed.is (record { says = sym c.print_reversed.ensures.page; ends = λ close. refl }))
