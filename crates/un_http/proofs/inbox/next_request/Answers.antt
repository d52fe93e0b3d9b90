use Rattle.std.proofs.Common.{◌≡◌, ◌++◌, subst, ap, ◌∙◌}
use Rattle.un_http.specs.declared.take.Taken.TheVariants.{Request as TookRequest}
use Rattle.un_http.specs.Taking.{Takes}
use Rattle.un_http.proofs.Given.{gives}
use Rattle.un_http.proofs.inbox.next_request.Goals as goal

pub returns-in-Request-clause-answers : goal.returns-in-Request-clause-answers
returns-in-Request-clause-answers g c =
    let t = c.in-Request.ensures.takes in
    let bytes = c.take_request.new.bytes.items in
    let left = g.X.Link.left c.take_request.new.link in
    let held : c.drop_prefix.new.bytes.items ≡ c.args.inbox.now.held = c.drop_prefix.ensures.items ∙ ap (λ i. i.held) c.inbox.view_is in
    let takes = subst (λ x. Takes (x ++ t.0) bytes left (TookRequest c.in-Request.passed c.in-Request.block)) held t.1.1 in
    (t.0, (t.1.0, gives _ bytes left c.in-Request.passed c.in-Request.block takes))
