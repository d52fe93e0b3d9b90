use Rattle.un_script.proofs.FollowTexts.{written}
use Rattle.un_script.proofs.follow.copy.print_followed.Goals as goal

pub returns-clause-text : goal.returns-clause-text
returns-clause-text c =
    written c.args.points c.args.version _ _ _ _ _ _ c.put.ensures.items c.put_number.ensures.items c.put-2.ensures.items c.put_number-2.ensures.items
    c.put-3.ensures.items
