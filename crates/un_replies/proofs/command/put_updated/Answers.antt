use Rattle.un_replies.proofs.CommandTexts.{updated_steps}
use Rattle.un_replies.proofs.command.put_updated.Goals as goal

pub returns-clause-text : goal.returns-clause-text
returns-clause-text c =
    updated_steps c.args.row.now c.args.version c.stored_members.result c.stored_status.result.now c.args.out.now.items c.open_count.new.out.items c.follow_string.new.out.items c.follow_string-2.new.out.items c.follow_count.new.out.items c.put.new.out.items
    c.stored_members.ensures c.stored_status.ensures.text c.open_count.ensures.items c.follow_string.ensures.items c.follow_string-2.ensures.items c.follow_count.ensures.items c.put.ensures.items
