use Rattle.std.proofs.Common.{◌∙◌, ap}
use Rattle.std.specs.BTreeMap.{insert_entry}
use Rattle.un_assoc.proofs.Ending.{end_cmp, one_more}
use Rattle.un_assoc.proofs.ends.Ends.with.Goals as goal

pub returns : goal.returns
returns c = λ associations are over.
    one_more c.args.assoc associations c.args.self.now.pairs c.in_ok-from.from c.in_ok-pairs.pairs are over c.requires c.len-len.ensures.ordered c.len-more.ensures.ordered
    (c.in_ok-from.ensures ∙ ap (λ k. insert_entry end_cmp c.args.self.now.pairs k c.args.assoc) c.end_of.ensures)
    (c.in_ok-pairs.ensures ∙ ap (λ k. insert_entry end_cmp c.in_ok-from.from k c.args.assoc) c.end_of-2.ensures)
