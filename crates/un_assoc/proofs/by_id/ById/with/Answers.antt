use Rattle.std.proofs.Common.{◌<◌, [], ◌∷◌, ◌++◌, All, sym, ◌∙◌, ap, subst}
use Rattle.std.specs.Map.{values_of}
use Rattle.un_assoc.specs.Indexes.{AreKeyed}
use Rattle.un_assoc.proofs.ByNumber.{by_id_keys, by_id_last}
use Rattle.un_assoc.proofs.by_id.ById.with.Goals as goal

pub invariant_of-result : goal.invariant_of-result
invariant_of-result c = subst (AreKeyed (λ a. a.id)) (sym c.in_ok-pairs.ensures) (by_id_keys c.args.assoc c.self.inside.pairs c.self.invariant)

pub returns : goal.returns
returns c =
    let over = subst (All (λ a. a.id < c.args.assoc.id)) (sym c.self.view_is) c.requires in
    ap values_of c.in_ok-pairs.ensures ∙ by_id_last c.args.assoc c.self.inside.pairs c.self.invariant over ∙ ap (λ l. l ++ c.args.assoc ∷ []) c.self.view_is
