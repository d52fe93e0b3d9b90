use Rattle.std.proofs.Common.{arith}
use Rattle.un_schema.proofs.Soundness.{rules_fit, rules_few}
use Rattle.un_schema.proofs.rules.fitting.Goals as goal

pub returns-clause-few : goal.returns-clause-few
returns-clause-few c =
    rw (c.in_ok-list.ensures, c.requires.made) (omega (arith, c.requires.few, rules_few c.args.format c.args.schema.now c.args.raws.now))

pub returns-clause-fit : goal.returns-clause-fit
returns-clause-fit c = rw (c.in_ok-list.ensures, c.requires.made) (rules_fit c.args.format c.args.schema.now c.args.raws.now)
