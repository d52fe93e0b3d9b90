use Rattle.std.proofs.Common.{◌≡◌, ◌++◌, codes}
use Rattle.un_values.proofs.Shows.{on_ok}
use Rattle.un_replies.proofs.ReachTexts.{loops_steps}
use Rattle.un_replies.proofs.reach.add_loops.Goals as goal

pub returns : goal.returns
returns c =
    on_ok c.add_text-3.result (c.add_text-3.new.out.items ≡ c.add_number.new.out.items ++ codes "}") _ c.add_text-3.ensures (λ last.
    loops_steps c.args.segments.now c.args.version c.args.out.now.items c.add_text.new.out.items c.add_list.new.out.items c.add_text-2.new.out.items c.add_number.new.out.items c.add_text-3.new.out.items
    c.in_ok-add_text.ensures (rw c.as_slice.ensures at c.in_ok-add_list.ensures) c.in_ok-add_text-2.ensures c.in_ok-add_number.ensures last)
