use Rattle.std.proofs.Common.{◌≡◌, sym, ◌∙◌, arith}
use Rattle.std.proofs.lemmas.Fmt.{decimal_injective}
use Rattle.un_words.proofs.number.number_within.Goals as goal

pub returns-then-number-least : goal.returns-then-number-least
returns-then-number-least c number low high is =
    let same : number ≡ c.in_ok-number.number = decimal_injective number c.in_ok-number.number (omega arith) (omega arith) (sym is ∙ c.in_ok-number.ensures) in
    omega (arith, c.then-number-least.either)
