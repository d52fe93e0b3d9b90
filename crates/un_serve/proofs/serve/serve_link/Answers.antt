use Rattle.std.proofs.Common.{inl, inr}
use Rattle.un_serve.specs.Serving.{ServesNet}
use Rattle.un_serve.proofs.History.{all_of_history, all_at_versions}
use Rattle.un_serve.proofs.serve.serve_link.Goals as goal

pub returns-in-Ok-clause-served : goal.returns-in-Ok-clause-served
returns-in-Ok-clause-served g c =
    elim c.serve_by.ensures.served as (λ _. ServesNet g.J.BoardName.opening c.args.session.now c.serve_by.new.session (g.L.Link.left c.args.link.now) (g.L.Link.left c.serve_by.new.link)
    (g.L.Link.taken c.args.link.now) (g.L.Link.taken c.serve_by.new.link) c.serve_by.result) [
      | inl h ↦
          inl (record {
            link = h;
            history = λ S catalog first. all_of_history S catalog g.J.BoardName.opening first c.logs_are_histories.ensures c.steps_reply.ensures c.states_are_faithful.ensures c.args.session.now.number
                c.serve_by.new.session.seen h.exchanges h.truthful.replies;
            versions = λ S catalog first. all_at_versions S catalog g.J.BoardName.opening first c.logs_are_histories.ensures c.steps_reply.ensures c.states_are_faithful.ensures c.args.session.now.number
                c.serve_by.new.session.seen h.exchanges h.truthful.replies;
          })
      | inr n ↦ inr n
    ]
