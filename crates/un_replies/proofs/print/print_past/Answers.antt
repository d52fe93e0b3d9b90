use Rattle.std.proofs.Common.{◌++◌, codes, ap, ◌∙◌}
use Rattle.un_replies.proofs.CommandTexts.{past_steps}
use Rattle.un_replies.proofs.print.print_past.Goals as goal

pub returns-clause-ok : goal.returns-clause-ok
returns-clause-ok c =
    past_steps c.args.version c.args.past.now c.args.out.now.items c.put.new.out.items c.put-2.new.out.items c.follow_count.new.out.items c.put-3.new.out.items
    (c.put.ensures.items ∙ ap (λ t. t ++ codes "{\"ok\":\"past\",\"past\":") c.in_ok-reserve.ensures.items)
    c.put-2.ensures.items c.follow_count.ensures.items c.put-3.ensures.items
