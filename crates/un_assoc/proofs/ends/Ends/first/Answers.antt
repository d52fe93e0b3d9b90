use Rattle.std.proofs.Common.{◌∙◌, ap, sym, Some}
use Rattle.std.specs.Option.{option_copied}
use Rattle.un_pages.specs.Pairs.{from_on}
use Rattle.un_assoc.proofs.Ending.{end_cmp, first_none, first_other, first_one}
use Rattle.un_assoc.proofs.ends.Ends.first.Goals as goal

pub returns-in_err-end : goal.returns-in_err-end
returns-in_err-end c =
    ap option_copied c.from_residual.ensures
    ∙ sym (first_none c.args.feature c.args.self.now.pairs c.range.result c.len-len.ensures.ordered
    (c.range.ensures.pairs ∙ ap (λ b. from_on end_cmp b c.args.self.now.pairs) c.first_end.ensures) c.in_err-end.ensures.steps.0)

pub returns-then-end-feature : goal.returns-then-end-feature
returns-then-end-feature c =
    sym (first_other c.args.feature c.args.self.now.pairs c.range.result c.len-len.ensures.ordered
    (c.range.ensures.pairs ∙ ap (λ b. from_on end_cmp b c.args.self.now.pairs) c.first_end.ensures)
    (c.in_ok-end.end, c.in_ok-end.assoc.now.value) c.next.new.self c.in_ok-end.ensures.steps c.if-end-feature.true)

pub returns : goal.returns
returns c =
    ap Some c.deref.ensures
    ∙ sym (first_one c.args.feature c.args.self.now.pairs c.range.result c.len-len.ensures.ordered
    (c.range.ensures.pairs ∙ ap (λ b. from_on end_cmp b c.args.self.now.pairs) c.first_end.ensures)
    (c.in_ok-end.end, c.in_ok-end.assoc.now.value) c.next.new.self c.in_ok-end.ensures.steps c.if-end-feature.false)
