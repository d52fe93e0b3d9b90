use Rattle.std.proofs.Common.{◌==◌, [], ◌∷◌, ◌++◌, ◌∙◌, ap}
use Rattle.std.specs.List.{take_while}
use Rattle.std.specs.Map.{values_of}
use Rattle.un_pages.specs.Pairs.{from_on}
use Rattle.un_assoc.proofs.Ending.{end_cmp, run_of, run_on}
use Rattle.un_assoc.proofs.ends.Ends.of.Goals as goal

pub loop-end-init : goal.loop-end-init
loop-end-init c =
    ap (λ l. l ++ values_of (take_while (λ p. p.0.feature == c.args.feature) c.into_iter-end-iterator.result)) c.new-found.ensures.items
    ∙ run_of c.args.feature c.args.self.now.pairs c.into_iter-end-iterator.result c.len-len.ensures.ordered
    (c.into_iter-end-iterator.ensures.into_iter_gives ∙ c.range-end-items.ensures.pairs ∙ ap (λ b. from_on end_cmp b c.args.self.now.pairs) c.first_end.ensures)

pub loop-end-preserved : goal.loop-end-preserved
loop-end-preserved c =
    ap (λ l. l ++ values_of (take_while (λ p. p.0.feature == c.args.feature) c.next.new.self))
    (c.in_ok-push.ensures.items ∙ ap (λ v. c.loop-end.found.items ++ v ∷ []) c.deref.ensures)
    ∙ run_on c.args.feature c.loop-end.found.items c.loop-end.end-iterator c.next.new.self (c.in-Some.end, c.in-Some.assoc.now.value) _ c.in-Some.ensures.steps c.if-end-feature.false c.loop-end.invariant
