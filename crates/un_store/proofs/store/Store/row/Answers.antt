use Rattle.std.proofs.Common.{◌∙◌, ap}
use Rattle.un_store.specs.Keyed.{row_with}
use Rattle.un_store.proofs.Held.{lookup_is}
use Rattle.un_store.proofs.store.Store.row.Goals as goal

pub returns : goal.returns
returns c = c.get.ensures ∙ lookup_is c.args.id c.self.inside.rows c.self.invariant.ids ∙ ap (λ rows. row_with rows c.args.id) c.self.view_is
