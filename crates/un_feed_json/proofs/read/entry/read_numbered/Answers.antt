use Rattle.std.proofs.Common.{◌∷◌, subst, sym, rules}
use Rattle.un_feed_json.proofs.Numbered.{HasRead, read_on}
use Rattle.un_feed_json.proofs.read.entry.read_numbered.Goals as goal

pub loop-name-preserved : goal.loop-name-preserved
loop-name-preserved c =
    let S = c.args.schema.now in
    let all = c.args.members.now.entries in
    let name = c.in-Some.name.now in
    let value = c.in-Some.value.now in
    let before : HasRead S c.loop-name.pairs.items ((name, value) ∷ c.next.new.self) all = search rules in
    subst (λ pairs. HasRead S pairs c.next.new.self all) (sym c.in_ok-push-in-Some-numbered.ensures.items)
    (read_on S c.loop-name.pairs.items name value c.in-Some-numbered.pair c.next.new.self all before c.in-Some-numbered.ensures.pair c.in-Some-numbered.ensures.few)
