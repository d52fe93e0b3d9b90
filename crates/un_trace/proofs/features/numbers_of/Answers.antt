use Rattle.std.proofs.Common.{◌≡◌, map, ap, ◌∙◌, rules, eqb}
use Rattle.std.specs.List.{dedup}
use Rattle.un_trace.proofs.Rise.{number_of}
use Rattle.un_trace.proofs.Firsts.{dedup_rising}
use Rattle.un_trace.proofs.features.numbers_of.Goals as goal

pub returns : goal.returns
returns c =
    let all : c.in_ok-numbers.numbers.items ≡ map number_of c.args.run.now = search rules in
    let kept : c.dedup.new.self.items ≡ dedup eqb c.in_ok-numbers.numbers.items = c.dedup.ensures.items in
    c.new.ensures ∙ kept ∙ ap (dedup eqb) all ∙ dedup_rising (map number_of c.args.run.now) c.requires
