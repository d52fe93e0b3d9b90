use Rattle.std.proofs.Common.{◌≡◌, map, ap, ◌∙◌, rules, eqb}
use Rattle.std.specs.List.{dedup}
use Rattle.un_trace.specs.Ports.{key_number}
use Rattle.un_trace.proofs.Firsts.{dedup_rising}
use Rattle.un_trace.proofs.ports.numbers_of.Goals as goal

pub returns : goal.returns
returns c =
    let all : c.in_ok-numbers.numbers.items ≡ map key_number c.args.run.now = search rules in
    let kept : c.dedup.new.self.items ≡ dedup eqb c.in_ok-numbers.numbers.items = c.dedup.ensures.items in
    c.new.ensures ∙ kept ∙ ap (dedup eqb) all ∙ dedup_rising (map key_number c.args.run.now) c.requires
