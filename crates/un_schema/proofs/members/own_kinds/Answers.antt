use Rattle.un_schema.proofs.members.own_kinds.Goals as goal

pub returns-clause-ok : goal.returns-clause-ok
returns-clause-ok c = rw (c.requires.same, c.items.ensures) at c.kind_list.ensures.ok

pub returns-clause-good : goal.returns-clause-good
returns-clause-good c = rw (c.requires.same, c.items.ensures) at c.kind_list.ensures.good

pub returns-clause-bad : goal.returns-clause-bad
returns-clause-bad c = rw (c.requires.same, c.items.ensures) at c.kind_list.ensures.bad
