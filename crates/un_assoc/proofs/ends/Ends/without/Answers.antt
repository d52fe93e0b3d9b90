use Rattle.std.proofs.Common.{◌∙◌, ap}
use Rattle.std.specs.Map.{remove_entry}
use Rattle.std.specs.BTreeMap.{is_at}
use Rattle.un_assoc.proofs.Ending.{end_cmp, one_less}
use Rattle.un_assoc.proofs.ends.Ends.without.Goals as goal

pub returns : goal.returns
returns c = λ associations are rises there.
    one_less c.args.assoc.now associations c.args.self.now.pairs c.in_ok-from.from c.in_ok-pairs.pairs are rises there c.len-len.ensures.ordered c.len-less.ensures.ordered
    (c.in_ok-from.ensures ∙ ap (λ k. remove_entry (is_at (end_cmp k)) c.args.self.now.pairs) c.end_of.ensures)
    (c.in_ok-pairs.ensures ∙ ap (λ k. remove_entry (is_at (end_cmp k)) c.in_ok-from.from) c.end_of-2.ensures)
