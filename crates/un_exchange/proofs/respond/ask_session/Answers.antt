use Rattle.un_exchange.proofs.Handling.{fits_in, handled_written}
use Rattle.un_turns.specs.Served.{answering}
use Rattle.un_exchange.proofs.respond.ask_session.Goals as goal

pub print_response-requires-clause-fits : goal.print_response-requires-clause-fits
print_response-requires-clause-fits g c κs within =
    fits_in g.M.Machine.step g.S.Service.fits c.args.request c.handle_request-response.result c.requires.asks c.requires.fits
    (c.replies_are_steps.ensures c.args.session.now c.handle_request-response.new.session c.args.request c.handle_request-response.result c.handle_request-response.ensures.served)

pub returns-clause-handled : goal.returns-clause-handled
returns-clause-handled g c =
    handled_written g.M.Machine.step g.J.BoardName.opening g.S.Answers.least (answering g.S.Answers.answer g.S.Answers.between) g.S.Service.asks g.S.Service.printing c.past_answers_may_be_lost.ensures
    c.args.session.now c.handle_request-response.new.session c.args.request c.handle_request-response.result c.print_response.new.out.items c.print_response.result
    c.handle_request-response.ensures.served c.print_response.ensures.outgoing
