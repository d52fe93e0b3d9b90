use Rattle.std.proofs.Common.{◌≡◌, length, ap, arith}
use Rattle.un_terms.specs.Config.{Config, paths_of}
use Rattle.un_terms.proofs.PathLemmas.{length-paths_of}
use Rattle.un_terms.proofs.term_config.TermConfig.path_pairs.Goals as goal

pub part-requires-clause-path : goal.part-requires-clause-path
part-requires-clause-path c =
    let pairs = c.self.inside.pairs.items in
    let ends = c.self.inside.ends.items in
    let same : length (paths_of 0 pairs ends) ≡ length c.args.self.now.paths = ap (λ (v : Config). length v.paths) c.self.view_is in
    rw c.as_slice-2.ensures.value (omega (arith, same, length-paths_of 0 pairs ends))
