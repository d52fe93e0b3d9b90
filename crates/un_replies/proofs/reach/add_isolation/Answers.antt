use Rattle.std.proofs.Common.{◌≡◌, ◌++◌, codes}
use Rattle.un_values.proofs.Shows.{on_ok}
use Rattle.un_replies.proofs.ReachTexts.{isolation_steps}
use Rattle.un_replies.proofs.reach.add_isolation.Goals as goal

pub returns : goal.returns
returns c =
    on_ok c.add_text-4.result (c.add_text-4.new.out.items ≡ c.add_number.new.out.items ++ codes "}") _ c.add_text-4.ensures (λ last.
    isolation_steps c.args.borders.now c.args.features.now c.args.version c.args.out.now.items c.add_text.new.out.items c.add_list.new.out.items c.add_text-2.new.out.items c.add_list-2.new.out.items
    c.add_text-3.new.out.items c.add_number.new.out.items c.add_text-4.new.out.items
    c.in_ok-add_text.ensures (rw c.as_slice.ensures at c.in_ok-add_list.ensures) c.in_ok-add_text-2.ensures (rw c.as_slice-2.ensures at c.in_ok-add_list-2.ensures)
    c.in_ok-add_text-3.ensures c.in_ok-add_number.ensures last)
