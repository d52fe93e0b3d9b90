use Rattle.std.proofs.Common.{◌==◌, not, ◌∙◌, ap}
use Rattle.std.specs.List.{filter}
use Rattle.std.specs.Map.{values_of}
use Rattle.un_store.proofs.Held.{remove_keyed, remove_is}
use Rattle.un_store.proofs.store.Store.remove.Goals as goal

pub invariant_of-self-2 : goal.invariant_of-self-2
invariant_of-self-2 c = remove_keyed c.args.id c.self.inside.rows c.take.new.self c.in_ok-take.ensures.ok c.self.invariant

pub returns-clause-ok : goal.returns-clause-ok
returns-clause-ok c =
    ap values_of c.in_ok-take.ensures.ok ∙ remove_is c.args.id c.self.inside.rows c.self.invariant.ordered c.self.invariant.ids ∙ ap (filter (λ r. not (r.id == c.args.id))) c.self.view_is
