use Rattle.std.proofs.Common.{◌≡◌, None, rules}
use Rattle.un_terms.specs.Config.{bad_path_from, paths_of}
use Rattle.un_terms.proofs.PathLemmas.{config_from}
use Rattle.un_terms.proofs.term_config.TermConfig.new.Goals as goal

pub invariant_of-result : goal.invariant_of-result
invariant_of-result c =
    let good : bad_path_from 0 c.args.directional c.args.terminals (paths_of 0 c.args.pairs.now c.args.ends.now) ≡ None = search rules in
    rw (c.in_ok-pairs.ensures, c.in_ok-ends.ensures)
    (config_from c.args.directional c.args.terminals c.args.pairs.now c.args.ends.now c.requires.enough c.requires.few c.requires.some good, c.requires.ends)
