use Rattle.std.proofs.Common.{◌≡◌, ℕ, List, map, ap, ◌∙◌, rules, eqb, IsSorted}
use Rattle.std.specs.Ordering.{nat_cmp}
use Rattle.std.specs.Cmp.{unsigned_ties}
use Rattle.std.specs.List.{dedup}
use Rattle.std.proofs.lemmas.Cmp.{nat_cmp_total}
use Rattle.std.proofs.lemmas.List.Kept.{IsStrictlySortedBy-dedup, Contains-dedup_nat, Contains-from_dedup}
use Rattle.un_defs.specs.Orders.{rising}
use Rattle.un_defs.proofs.Members.{contains_from_among, among_from_contains}
use Rattle.un_defs.proofs.Rising.{rising_unique}
use Rattle.un_isolate.proofs.Rise.{number_of}
use Rattle.un_isolate.proofs.Runs.{number_ties}
use Rattle.un_isolate.proofs.parts.numbers_of.Goals as goal

-- numbers in order, each once, are those numbers rising
dedup_rising : (xs : List ℕ) → IsSorted nat_cmp xs → dedup eqb xs ≡ rising nat_cmp xs
dedup_rising xs sorted =
    rising_unique nat_cmp_total xs (dedup eqb xs) (number_ties xs)
    (IsStrictlySortedBy-dedup nat_cmp_total unsigned_ties xs sorted)
    (λ x h. among_from_contains xs x (Contains-from_dedup eqb xs x (contains_from_among (dedup eqb xs) x h)))
    (λ x h. among_from_contains (dedup eqb xs) x (Contains-dedup_nat xs x (contains_from_among xs x h)))

pub returns : goal.returns
returns c =
    let all : c.in_ok-numbers.numbers.items ≡ map number_of c.args.run.now = search rules in
    let kept : c.dedup.new.self.items ≡ dedup eqb c.in_ok-numbers.numbers.items = c.dedup.ensures.items in
    c.new.ensures ∙ kept ∙ ap (dedup eqb) all ∙ dedup_rising (map number_of c.args.run.now) c.requires
