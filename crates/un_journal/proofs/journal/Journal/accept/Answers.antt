use Rattle.std.proofs.Common.{ℕ, inl, ◌≡◌, ◌+◌, ◌++◌, ◌∷◌, [], Some, length, ◌<◌, refl, ap, sym, ◌∙◌, arith}
use Rattle.std.specs.Prelude.{slice_index}
use Rattle.std.specs.Arc.{arc_value}
use Rattle.un_machine.specs.Logs.{entries_of}
use Rattle.un_publish.specs.Models.{BoardModel}
use Rattle.un_publish.proofs.Growing.{reaches_more}
use Rattle.un_journal.specs.Books.{JournalModel}
use Rattle.un_journal.proofs.Booking.{on_err, on_ok, next_books, get_any, some_same, after}
use Rattle.un_machine.specs.declared.Entry.{Entry}
use Rattle.un_journal.proofs.journal.Journal.accept.Goals as goal

pub invariant_of-self-then-is_err-3 : goal.invariant_of-self-then-is_err-3
invariant_of-self-then-is_err-3 g c =
    let q = on_err c.publish.result (sym c.is_err-2.ensures.value ∙ c.if-is_err-3.true) c.publish.ensures.memory in
    let s = on_ok c.stage.result (sym c.is_err-else-is_err.ensures.value ∙ c.if-is_err-2.false) c.stage.ensures.ok in
    let log : c.publish.new.self.log ≡ c.self.inside.board.log = ap (λ (b : BoardModel g.row.M.Denot g.row.M-Cmd.Denot g.row.M-Reply.Denot g.row.M-Hint.Denot g.row.M-Mark.Denot). b.log) (q ∙ s) in
    let state : c.publish.new.self.state ≡ c.self.inside.board.state = ap (λ (b : BoardModel g.row.M.Denot g.row.M-Cmd.Denot g.row.M-Reply.Denot g.row.M-Hint.Denot g.row.M-Mark.Denot). b.state) (q ∙ s) in
    rw (log, state, c.reserve.ensures.items) c.self.invariant

pub invariant_of-self-2 : goal.invariant_of-self-2
invariant_of-self-2 g c =
    let i = c.self.invariant in
    let e : Entry g.row.M.Denot g.row.M-Cmd.Denot g.row.M-Reply.Denot g.row.M-Hint.Denot g.row.M-Mark.Denot = record { session = c.args.number; n = c.in-Some.n; cmd = c.args.cmd; reply = c.in-Ok-Ok.copy; mark = c.args.mark } in
    let published = sym c.is_err-2.ensures.value ∙ c.if-is_err-3.false in
    let s = on_ok c.stage.result (sym c.is_err-else-is_err.ensures.value ∙ c.if-is_err-2.false) c.stage.ensures.ok in
    let log : c.publish.new.self.log ≡ c.self.inside.board.log ++ e ∷ [] = on_ok c.publish.result published c.publish.ensures.log ∙ ap (λ (b : BoardModel g.row.M.Denot g.row.M-Cmd.Denot g.row.M-Reply.Denot g.row.M-Hint.Denot g.row.M-Mark.Denot). b.log ++ e ∷ []) s in
    let staged : Some c.publish.new.self.state ≡ Some (arc_value c.in-Ok-Ok-2.staged) = on_ok c.publish.result published c.publish.ensures.state ∙ ap (λ (b : BoardModel g.row.M.Denot g.row.M-Cmd.Denot g.row.M-Reply.Denot g.row.M-Hint.Denot g.row.M-Mark.Denot). b.staged) s in
    let next : arc_value c.in-Ok-Ok.next ≡ c.args.next = c.in-Ok-Ok.ensures'.ok in
    let state : c.publish.new.self.state ≡ c.args.next = some_same _ _ staged ∙ c.in-Ok-Ok-2.ensures ∙ next in
    let steps : g.M.Machine.step c.self.inside.board.state c.args.cmd ≡ inl (c.args.next, (c.in-Ok-Ok.copy, c.args.mark)) = rw (c.in-Ok-Ok.ensures) (ap (λ (b : JournalModel g.row.M.Denot g.row.M-Cmd.Denot g.row.M-Reply.Denot g.row.M-Hint.Denot g.row.M-Mark.Denot). g.M.Machine.step b.state c.args.cmd) c.self.view_is ∙ c.requires.steps) in
    let room : c.args.number < length c.self.inside.books.items = omega (arith, i.2.0, c.requires.number) in
    let here : c.index.result.now ≡ slice_index c.self.inside.books.items c.args.number = c.index.ensures ∙ get_any c.self.inside.books.items c.args.number c.index.result.now 0 room in
    let book : c.in-Some.n ≡ length (entries_of c.args.number c.self.inside.board.log) + 1 = c.in-Some.ensures.1 ∙ ap (λ (k : ℕ). k + 1) (here ∙ i.2.1 c.args.number c.requires.number) in (
      c.push_reserved.ensures.items ∙ ap (λ l. l ++ e ∷ []) (c.reserve.ensures.items ∙ i.0) ∙ sym log,
      next ∙ sym state,
      rw log (next_books c.self.inside.books.items c.self.inside.board.log c.args.number c.in-Some.n e c.requires.number refl book i.2),
      rw (log, state) (reaches_more g.M.Machine.step g.J.BoardName.opening c.self.inside.board.log c.self.inside.board.state e c.args.next i.3 steps book),
    )

pub returns-clause-ok : goal.returns-clause-ok
returns-clause-ok g c =
    let i = c.self.invariant in
    let e : Entry g.row.M.Denot g.row.M-Cmd.Denot g.row.M-Reply.Denot g.row.M-Hint.Denot g.row.M-Mark.Denot = record { session = c.args.number; n = c.in-Some.n; cmd = c.args.cmd; reply = c.in-Ok-Ok.copy; mark = c.args.mark } in
    let published = sym c.is_err-2.ensures.value ∙ c.if-is_err-3.false in
    let s = on_ok c.stage.result (sym c.is_err-else-is_err.ensures.value ∙ c.if-is_err-2.false) c.stage.ensures.ok in
    let log : c.publish.new.self.log ≡ c.self.inside.board.log ++ e ∷ [] = on_ok c.publish.result published c.publish.ensures.log ∙ ap (λ (b : BoardModel g.row.M.Denot g.row.M-Cmd.Denot g.row.M-Reply.Denot g.row.M-Hint.Denot g.row.M-Mark.Denot). b.log ++ e ∷ []) s in
    let staged : Some c.publish.new.self.state ≡ Some (arc_value c.in-Ok-Ok-2.staged) = on_ok c.publish.result published c.publish.ensures.state ∙ ap (λ (b : BoardModel g.row.M.Denot g.row.M-Cmd.Denot g.row.M-Reply.Denot g.row.M-Hint.Denot g.row.M-Mark.Denot). b.staged) s in
    let next : arc_value c.in-Ok-Ok.next ≡ c.args.next = c.in-Ok-Ok.ensures'.ok in
    let state : c.publish.new.self.state ≡ c.args.next = some_same _ _ staged ∙ c.in-Ok-Ok-2.ensures ∙ next in
    let room : c.args.number < length c.self.inside.books.items = omega (arith, i.2.0, c.requires.number) in
    let here : c.index.result.now ≡ slice_index c.self.inside.books.items c.args.number = c.index.ensures ∙ get_any c.self.inside.books.items c.args.number c.index.result.now 0 room in
    let book : c.in-Some.n ≡ length (entries_of c.args.number c.self.inside.board.log) + 1 = c.in-Some.ensures.1 ∙ ap (λ (k : ℕ). k + 1) (here ∙ i.2.1 c.args.number c.requires.number) in
    let old : c.self.inside.board.log ≡ c.args.self.now.log = ap (λ (b : JournalModel g.row.M.Denot g.row.M-Cmd.Denot g.row.M-Reply.Denot g.row.M-Hint.Denot g.row.M-Mark.Denot). b.log) c.self.view_is in (
      after c.publish.new.self.log c.self.inside.board.log c.args.self.now.log c.publish.new.self.state c.args.next c.args.number c.in-Some.n c.args.cmd c.in-Ok-Ok.copy c.args.reply c.args.mark log state book c.in-Ok-Ok.ensures old,
      c.len-version.ensures,
      refl,
      refl,
      refl,
      c.in-Ok-Ok-2.ensures' ∙ next,
    )
