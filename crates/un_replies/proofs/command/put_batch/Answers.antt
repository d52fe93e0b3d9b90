use Rattle.un_replies.proofs.CommandTexts.{batch_steps}
use Rattle.un_replies.proofs.command.put_batch.Goals as goal

pub returns-clause-text : goal.returns-clause-text
returns-clause-text c =
    batch_steps c.args.areas c.args.ids.now c.args.version c.args.out.now.items c.open_counts.new.out.items c.follow_counts.new.out.items c.follow_string.new.out.items c.follow_count.new.out.items c.put.new.out.items
    c.open_counts.ensures.items c.follow_counts.ensures.items c.follow_string.ensures.items c.follow_count.ensures.items c.put.ensures.items
