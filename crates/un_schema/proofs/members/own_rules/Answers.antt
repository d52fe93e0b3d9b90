use Rattle.un_schema.proofs.members.own_rules.Goals as goal

pub returns-clause-ok : goal.returns-clause-ok
returns-clause-ok c = rw c.requires.same at c.rule_list.ensures.ok

pub returns-clause-fit : goal.returns-clause-fit
returns-clause-fit c = rw c.requires.same at c.rule_list.ensures.fit

pub returns-clause-good : goal.returns-clause-good
returns-clause-good c = rw c.requires.same at c.rule_list.ensures.good

pub returns-clause-bad : goal.returns-clause-bad
returns-clause-bad c = rw c.requires.same at c.rule_list.ensures.bad
