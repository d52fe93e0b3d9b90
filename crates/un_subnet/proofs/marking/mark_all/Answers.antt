use Rattle.std.proofs.Common.{◌∷◌, [], ◌∙◌, ap, sym, take, get_or, refl}
use Rattle.std.proofs.lemmas.List.{take_more}
use Rattle.un_subnet.specs.RowIndex.{made_in, dirty}
use Rattle.un_subnet.proofs.Made.{made_nothing, made_more}
use Rattle.un_subnet.proofs.marking.mark_all.Goals as goal

pub loop-number-init : goal.loop-number-init
loop-number-init c = made_nothing dirty c.args.rows.now

pub loop-number-preserved : goal.loop-number-preserved
loop-number-preserved c =
    let i = c.loop-number.number-index in
    let n = get_or c.args.numbers.now i 0 in
    c.in_ok-mark.ensures ∙ ap (made_in dirty (n ∷ [])) c.loop-number.invariant
    ∙ made_more dirty (λ row. refl) (take i c.args.numbers.now) n c.args.rows.now
    ∙ ap (λ ns. made_in dirty ns c.args.rows.now) (sym (take_more c.args.numbers.now i 0 c.loop-number-test.true))
