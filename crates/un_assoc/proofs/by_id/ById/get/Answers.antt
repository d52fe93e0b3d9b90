use Rattle.std.proofs.Common.{◌==◌, ◌∙◌, ap, find}
use Rattle.un_assoc.proofs.ByNumber.{by_id_lookup}
use Rattle.un_assoc.proofs.by_id.ById.get.Goals as goal

pub returns : goal.returns
returns c = c.get.ensures ∙ by_id_lookup c.args.id c.self.inside.pairs c.self.invariant ∙ ap (find (λ a. a.id == c.args.id)) c.self.view_is
