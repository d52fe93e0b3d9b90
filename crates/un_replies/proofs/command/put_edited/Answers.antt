use Rattle.un_replies.proofs.CommandTexts.{edited_steps}
use Rattle.un_replies.proofs.command.put_edited.Goals as goal

pub returns-clause-text : goal.returns-clause-text
returns-clause-text c =
    edited_steps c.args.areas c.args.id c.args.word c.args.version c.text.result.now c.args.out.now.items c.open_counts.new.out.items c.follow_count.new.out.items c.follow_string.new.out.items c.follow_count-2.new.out.items c.put.new.out.items
    c.text.ensures c.open_counts.ensures.items c.follow_count.ensures.items c.follow_string.ensures.items c.follow_count-2.ensures.items c.put.ensures.items
