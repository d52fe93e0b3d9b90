use Rattle.un_words.specs.declared.command.ProgramCommand.TheVariants.{Serve}
use Rattle.un_serve.proofs.run.workers_in.Goals as goal

pub returns-in_default-2-clause-serve : goal.returns-in_default-2-clause-serve
returns-in_default-2-clause-serve c = λ serve.
    let is = c.read_words.ensures.only (Serve serve.0 serve.1.0) serve.1.1 in
    let none = c.in_default.is in
    cc
