use Rattle.std.proofs.Common.{◌∙◌, ap, subst}
use Rattle.std.specs.Map.{remove_entry}
use Rattle.std.specs.BTreeMap.{is_at}
use Rattle.un_pages.specs.Pairs.{IsOrdered}
use Rattle.un_subnet.specs.RowIndex.{has_key}
use Rattle.un_subnet.proofs.Keys.{keys_alike, has_cut}
use Rattle.un_subnet.proofs.row_index.take_key.Goals as goal

pub returns : goal.returns
returns c = λ q.
    ap (has_key q) (c.in_ok-take.ensures.ok ∙ ap (λ cmp. remove_entry (is_at (cmp c.args.key)) c.args.keys.now) keys_alike)
    ∙ has_cut q c.args.key c.args.keys.now (subst (λ cmp. IsOrdered cmp c.args.keys.now) keys_alike c.len-len.ensures.ordered)
