use Rattle.std.proofs.Common.{◌≡◌, ◌<◌, length, None, IsTrue, rules, arith}
use Rattle.un_schema.specs.Held.{catalog_in}
use Rattle.un_schema.specs.Fits.{has_classes, bad_terminal}
use Rattle.un_schema.proofs.AddedRule.{sound_with_rule}
use Rattle.un_schema.proofs.schema.Schema.with_rule.Goals as goal

pub invariant_of-result : goal.invariant_of-result
invariant_of-result c =
    let catalog = catalog_in c.self.inside in
    let rule = c.args.rule.now in
    let classes : IsTrue (has_classes catalog rule) = rw c.self.view_is c.requires in
    let terminals : bad_terminal catalog rule ≡ None = rw c.self.view_is (search rules) in
    let room : length catalog.rules < 4096 = omega (arith, c.len.ensures) in
    rw (c.in_ok-rules.ensures, c.in_ok-table.ensures) (sound_with_rule catalog rule c.self.invariant classes terminals room)
