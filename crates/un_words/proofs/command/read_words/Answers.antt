use Rattle.std.proofs.Common.{◌≡◌, length, arith, subst, sym, MatchOption}
use Rattle.un_words.specs.Words.{IsCommand}
use Rattle.un_words.specs.declared.command.ProgramCommand.{ProgramCommand}
use Rattle.un_words.proofs.Commands.{three_words, only_one}
use Rattle.un_words.proofs.command.read_words.Goals as goal

pub returns-in-len3-clause-only : goal.returns-in-len3-clause-only
returns-in-len3-clause-only c =
    let three : length c.args.words.now ≡ 3 = omega (arith, c.in-len3.len_at_least, c.in-len3.len_below) in
    let words = three_words c.args.words.now _ _ _ _ _ _ three c.name-item-then-words-lt4.is c.first-item.is c.second-item.is in
    only_one c.args.words.now c.read_numbers.result (subst (λ ws. MatchOption c.read_numbers.result ((command : ProgramCommand) → ¬ (IsCommand ws command)) (IsCommand ws)) (sym words) c.read_numbers.ensures.read)
