use Rattle.un_schema.proofs.Steps.{cats_word_more}
use Rattle.un_schema.proofs.kinds.+cats_word.Goals as goal

pub returns-clause-word : goal.returns-clause-word
returns-clause-word t c =
    cats_word_more c.in-Some.first.now c.in-Some.others.now c.args.names.now c.args.categories.now c.bit.result c.cats_word-word.result
    c.in-Some.ensures.cases.0 (rw c.text.ensures.text at c.bit.ensures.value) c.cats_word-word.ensures.word
