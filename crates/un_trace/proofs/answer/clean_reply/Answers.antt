use Rattle.std.proofs.Common.{sym, ◌∙◌}
use Rattle.un_trace.proofs.Answered.{has_tier}
use Rattle.un_trace.proofs.answer.clean_reply.Goals as goal

pub controllers_reply-requires-clause-tier : goal.controllers_reply-requires-clause-tier
controllers_reply-requires-clause-tier g c =
    has_tier c.args.ask.now.kind c.args.ask.now.barriers.tier c.requires.kind (sym c.lists_controllers.ensures ∙ c.if-lists_controllers.true)
