use Rattle.std.proofs.Common.{nat_lt, drop}
use Rattle.un_replies.proofs.Steps.{IsPrintedBut}
use Rattle.un_replies.proofs.reach.add_items.Given as goal

abbrev pub invariant-loop-place : goal.invariant-loop-place
invariant-loop-place g l = record {
  text : IsPrintedBut g.T.ToText.text_value l.fn.out.items (nat_lt 0 l.place) (drop l.place l.values) l.values l.out.items;
}
