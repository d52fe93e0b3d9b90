use Rattle.std.proofs.Common.{rules}
use Rattle.un_attrs.proofs.PairLemmas.{few_pairs, attributes_from}
use Rattle.un_attrs.proofs.attrs.Attrs.new.Goals as goal

pub fill-requires-clause-few : goal.fill-requires-clause-few
fill-requires-clause-few c = few_pairs c.args.pairs.now (search rules)

pub invariant_of-result : goal.invariant_of-result
invariant_of-result c = attributes_from c.args.pairs.now _ (search rules) c.requires c.fill.ensures.items c.fill.ensures.len
