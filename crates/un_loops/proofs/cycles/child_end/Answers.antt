use Rattle.std.proofs.Common.{◌≡◌, true, false, inl, inr}
use Rattle.std.proofs.lemmas.Option.{slice_get-get_or}
use Rattle.un_loops.proofs.Deciding.{parent_link_at_end}
use Rattle.un_loops.proofs.cycles.child_end.Goals as goal

pub is_parent_link-requires : goal.is_parent_link-requires
is_parent_link-requires c = (c.requires.forest.ends c.args.index _ (slice_get-get_or c.args.links.now c.args.index (record { a = 0; b = 0 }) c.requires.inside)).0

pub is_parent_link-requires-2 : goal.is_parent_link-requires-2
is_parent_link-requires-2 c = (c.requires.forest.ends c.args.index _ (slice_get-get_or c.args.links.now c.args.index (record { a = 0; b = 0 }) c.requires.inside)).1

pub returns : goal.returns
returns c = λ way.
    elim (parent_link_at_end c.args.links.now c.args.parents.now c.requires.forest c.args.index _ (slice_get-get_or c.args.links.now c.args.index (record { a = 0; b = 0 }) c.requires.inside) way) [
      | inl at_a ↦ let yes : c.is_parent_link.result ≡ true = c.is_parent_link.ensures.1 at_a in let no : c.is_parent_link.result ≡ false = c.if-is_parent_link.false in cc
      | inr at_b ↦ let yes : c.is_parent_link-2.result ≡ true = c.is_parent_link-2.ensures.1 at_b in let no : c.is_parent_link-2.result ≡ false = c.if-is_parent_link-2.false in cc
    ]
