use Rattle.std.proofs.Common.{refl}
use Rattle.un_pages.proofs.Changes.{value_set}
use Rattle.un_pages.proofs.row.Row.set_value.Goals as goal

pub returns : goal.returns
returns g c = value_set c.self.inside.items.items c.args.at c.index_mut.result.now (c.index_mut.result.now.0, c.args.value) c.args.self.now c.self.view_is c.requires c.index_mut.ensures.value refl
