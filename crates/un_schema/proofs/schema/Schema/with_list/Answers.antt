use Rattle.std.proofs.Common.{All, IsTrue}
use Rattle.un_schema.specs.Held.{catalog_in}
use Rattle.un_schema.specs.Fits.{fits}
use Rattle.un_schema.proofs.AddedRule.{sound_with_rules}
use Rattle.un_schema.proofs.schema.Schema.with_list.Goals as goal

pub invariant_of-result : goal.invariant_of-result
invariant_of-result c =
    let catalog = catalog_in c.self.inside in
    let fit : All (λ rule. IsTrue (fits catalog rule)) c.args.rules = rw c.self.view_is c.requires.fit in
    sound_with_rules catalog c.args.rules c.self.invariant c.requires.few fit
