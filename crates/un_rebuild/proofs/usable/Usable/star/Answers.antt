use Rattle.std.proofs.Common.{◌≡◌, Bor, Option, None, Some, Global, subst, sym, ap, ◌∙◌}
use Rattle.std.specs.Option.{IfSome, option_copied}
use Rattle.std.specs.declared.sync.Arc.{Arc}
use Rattle.std.specs.Arc.{arc_value}
use Rattle.std.specs.BTreeMap.{get}
use Rattle.un_points.proofs.Lookups.{orders}
use Rattle.un_defs.specs.declared.star.Star.{Star}
use Rattle.un_rebuild.specs.Rebuilding.{fresh_at}
use Rattle.un_rebuild.proofs.usable.Usable.star.Goals as goal

lent : (is : Star → Type 0) (o : Option (Bor (Arc Star Global))) → IfSome (option_copied o) (λ star. is (arc_value star)) → IfSome o (λ star. is (arc_value star.now))
lent is None found = tt
lent is (Some star) found = found

pub returns-then-miss : goal.returns-then-miss
returns-then-miss c = λ K usable.
    let p = c.args.p in
    let found = usable p (sym c.miss.ensures ∙ c.if-miss.true) in
    lent (λ star. star ≡ fresh_at K p) c.get.result
    (subst (λ o. IfSome o (λ star. arc_value star ≡ fresh_at K p))
    (sym (c.get.ensures.value ∙ ap (λ cmp. get cmp c.args.self.now.stars.now p) orders)) found)
