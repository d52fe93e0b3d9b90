use Rattle.std.proofs.Common.{◌∙◌, ap}
use Rattle.std.specs.BTreeMap.{insert_entry}
use Rattle.un_subnet.specs.RowIndex.{has_key}
use Rattle.un_subnet.proofs.Keys.{keys_alike, has_put}
use Rattle.un_subnet.proofs.row_index.put_key.Goals as goal

pub returns : goal.returns
returns c = λ q.
    ap (has_key q) (c.in_ok-put.ensures.ok ∙ ap (λ cmp. insert_entry cmp c.args.keys.now c.args.key _) keys_alike)
    ∙ has_put q c.args.key _ c.args.keys.now
