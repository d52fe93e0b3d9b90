use Rattle.std.proofs.Common.{◌==◌, not, ◌∙◌, ap, sym, subst}
use Rattle.std.specs.List.{filter}
use Rattle.std.specs.Map.{values_of}
use Rattle.un_assoc.specs.Indexes.{AreKeyed}
use Rattle.un_assoc.proofs.ByNumber.{by_id_removed_keys, by_id_removed}
use Rattle.un_assoc.proofs.by_id.ById.without.Goals as goal

pub invariant_of-result : goal.invariant_of-result
invariant_of-result c = subst (AreKeyed (λ a. a.id)) (sym c.in_ok-pairs.ensures) (by_id_removed_keys c.args.id c.self.inside.pairs c.self.invariant)

pub returns : goal.returns
returns c =
    ap values_of c.in_ok-pairs.ensures ∙ by_id_removed c.args.id c.self.inside.pairs c.len-len.ensures.ordered c.self.invariant ∙ ap (filter (λ a. not (a.id == c.args.id))) c.self.view_is
