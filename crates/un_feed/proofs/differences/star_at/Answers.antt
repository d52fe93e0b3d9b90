use Rattle.std.proofs.Common.{◌≡◌, ◌∙◌, sym, ap, subst, [], ◌∷◌, int_eq}
use Rattle.std.specs.declared.ops.Bound.TheVariants.{Included}
use Rattle.un_pages.specs.Pairs.{from_on, pair_held, value_held, IsOrdered}
use Rattle.un_points.proofs.Lookups.{orders}
use Rattle.un_feed.proofs.Seeking.{grouped, value_none, value_first, value_later}
use Rattle.un_feed.proofs.differences.star_at.Goals as goal

pub returns-in_err-first : goal.returns-in_err-first
returns-in_err-first c =
    let m = c.args.map.now in
    ap value_held c.from_residual.ensures
    ∙ value_none c.args.point m (subst (λ cmp. from_on cmp (Included c.args.point) m ≡ []) orders (sym c.range.ensures.pairs ∙ c.in_err-first.ensures.steps.0))

pub returns-then-eq : goal.returns-then-eq
returns-then-eq c =
    let m = c.args.map.now in
    let e = pair_held (c.in_ok-first.first, c.in_ok-first.star) in
    value_first c.args.point m c.next.new.self e
    (subst (λ cmp. from_on cmp (Included c.args.point) m ≡ e ∷ c.next.new.self) orders (sym c.range.ensures.pairs ∙ c.in_ok-first.ensures.steps))
    (grouped (int_eq c.in_ok-first.first.x c.args.point.x) (int_eq c.in_ok-first.first.y c.args.point.y) (int_eq c.in_ok-first.first.z c.args.point.z) ∙ sym c.eq.ensures ∙ c.if-eq.true)

pub returns-else-eq : goal.returns-else-eq
returns-else-eq c =
    let m = c.args.map.now in
    let e = pair_held (c.in_ok-first.first, c.in_ok-first.star) in
    value_later c.args.point m c.next.new.self e
    (subst (λ cmp. from_on cmp (Included c.args.point) m ≡ e ∷ c.next.new.self) orders (sym c.range.ensures.pairs ∙ c.in_ok-first.ensures.steps))
    (subst (λ cmp. IsOrdered cmp m) orders c.len-len.ensures.ordered)
    (grouped (int_eq c.in_ok-first.first.x c.args.point.x) (int_eq c.in_ok-first.first.y c.args.point.y) (int_eq c.in_ok-first.first.z c.args.point.z) ∙ sym c.eq.ensures ∙ c.if-eq.false)
