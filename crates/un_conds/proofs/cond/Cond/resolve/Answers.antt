use Rattle.std.proofs.Common.{◌≡◌, true, sym, ◌∙◌, rules}
use Rattle.un_conds.specs.Forms.{written}
use Rattle.un_conds.proofs.SizeLemmas.{small_from}
use Rattle.un_conds.proofs.cond.Cond.resolve.Goals as goal

pub invariant_of-result : goal.invariant_of-result
invariant_of-result g c =
    let names = c.args.names.now in
    let small : c.is_small.result ≡ true = search rules in
    small_from (g.N.Names.attributes names) (g.N.Names.categories names) (written c.args.raw.now) _ (sym c.is_small.ensures ∙ small) c.in_ok-form.ensures.ok c.in_ok-form.ensures.numbers
