use Rattle.std.proofs.Common.{refl, subst, sym, rules}
use Rattle.un_geom.specs.Rectangle.{IsBounded, IsSpan}
use Rattle.un_geom.proofs.Casts.{rectangle-narrow}
use Rattle.un_geom.proofs.rect.Rect.new.Goals as goal

pub invariant_of-result : goal.invariant_of-result
invariant_of-result c =
    let across : IsSpan c.args.x0 c.args.x1 = search rules in
    let along : IsSpan c.args.y0 c.args.y1 = search rules in
    subst IsBounded (sym (rectangle-narrow _ _ _ _ across along)) (record { across = across; along = along })

pub returns-clause-bounded : goal.returns-clause-bounded
returns-clause-bounded c = (λ _. record { across = search rules; along = search rules }, λ _. refl)

pub returns-clause-value : goal.returns-clause-value
returns-clause-value c =
    rectangle-narrow c.args.x0 c.args.y0 c.args.x1 c.args.y1 (search rules) (search rules)
