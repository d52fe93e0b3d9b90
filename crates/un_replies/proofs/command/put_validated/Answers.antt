use Rattle.un_replies.proofs.CommandTexts.{validated_steps}
use Rattle.un_replies.proofs.command.put_validated.Goals as goal

pub returns-clause-text : goal.returns-clause-text
returns-clause-text c =
    validated_steps c.args.cleared c.args.errors c.args.version c.args.out.now.items c.open_count.new.out.items c.follow_count.new.out.items c.follow_string.new.out.items c.follow_count-2.new.out.items c.put.new.out.items
    c.open_count.ensures.items c.follow_count.ensures.items c.follow_string.ensures.items c.follow_count-2.ensures.items c.put.ensures.items
