use Rattle.std.proofs.Common.{◌≡◌, ◌++◌, codes, ap, ◌∙◌}
use Rattle.un_values.proofs.Shows.{on_ok}
use Rattle.un_replies.proofs.ReachTexts.{result_steps}
use Rattle.un_replies.proofs.reach.add_result.Goals as goal

pub returns : goal.returns
returns c =
    on_ok c.add_text-9.result (c.add_text-9.new.out.items ≡ c.add_number.new.out.items ++ codes "}") _ c.add_text-9.ensures (λ last.
    result_steps c.args.traced.now c.args.version c.args.out.now.items
    c.add_text.new.out.items c.add_list.new.out.items c.add_text-2.new.out.items c.add_list-2.new.out.items c.add_text-3.new.out.items c.add_list-3.new.out.items
    c.add_text-4.new.out.items c.add_list-4.new.out.items c.add_text-5.new.out.items c.add_text-6.new.out.items c.add_text-7.new.out.items c.add_list-5.new.out.items
    c.add_text-8.new.out.items c.add_number.new.out.items c.add_text-9.new.out.items
    c.in_ok-add_text.ensures (rw c.as_slice.ensures at c.in_ok-add_list.ensures) c.in_ok-add_text-2.ensures (rw c.as_slice-2.ensures at c.in_ok-add_list-2.ensures)
    c.in_ok-add_text-3.ensures (rw c.as_slice-3.ensures at c.in_ok-add_list-3.ensures) c.in_ok-add_text-4.ensures (rw c.as_slice-4.ensures at c.in_ok-add_list-4.ensures)
    c.in_ok-add_text-5.ensures (c.in_ok-add_text-6.ensures ∙ ap (λ t. c.add_text-5.new.out.items ++ t) (c.as_bytes.ensures.value ∙ c.text.ensures)) c.in_ok-add_text-7.ensures (rw c.as_slice-5.ensures at c.in_ok-add_list-5.ensures)
    c.in_ok-add_text-8.ensures c.in_ok-add_number.ensures last)
