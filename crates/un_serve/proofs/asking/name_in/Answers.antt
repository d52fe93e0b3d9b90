use Rattle.un_serve.proofs.Names.{names_are_text}
use Rattle.un_serve.proofs.asking.name_in.Goals as goal

pub unreachable-requires : goal.unreachable-requires
unreachable-requires c = c.in_default.ensures.cases.0 (names_are_text c.args.text.now c.requires)
