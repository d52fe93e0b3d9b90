use Rattle.std.proofs.Common.{◌≡◌, ◌∙◌}
use Rattle.un_journal.proofs.Leading.{since_prepared, take_rest}
use Rattle.un_journal.proofs.journal.Journal.decide.Goals as goal

pub apply-requires-2 : goal.apply-requires-2
apply-requires-2 g c =
    let i = c.self.invariant in
    let asked = rw c.in-Some.is at c.requires in
    let log : c.as_slice-entries.result.now ≡ c.self.inside.board.log = c.as_slice-entries.ensures.value ∙ i.0 in
    let state = c.deref-state.ensures ∙ i.1 in
    rw (c.in-Some.is, take_rest, c.prepared_at.ensures, log, state)
    (since_prepared g.M.Machine.step g.M.Machine.prepared g.M.Machine.place g.J.BoardName.opening c.self.inside.board.log c.self.inside.board.state c.in-Some.given.now (rw (← c.self.view_is) at asked) i.3)
