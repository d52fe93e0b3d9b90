use Rattle.std.proofs.Common.{◌≡◌, ◌==◌, nat_le, true, false, length, map, Some, None, sym, ap, subst, ◌∙◌}
use Rattle.std.proofs.lemmas.Result.{err_from_is_err_and}
use Rattle.std.specs.List.Sorted.{IsStrictlySortedBy}
use Rattle.un_geom.specs.Places.{point_cmp}
use Rattle.un_defs.proofs.Rising.{sorted-rising}
use Rattle.un_defs.proofs.OrderLaws.{point_total}
use Rattle.un_defs.specs.declared.walk.Mode.TheVariants.{Any}
use Rattle.un_ask.specs.declared.typed.TypedAsk.{TypedAsk}
use Rattle.un_ask.specs.declared.stored.StoredSubnet.{StoredSubnet}
use Rattle.un_subnet.specs.Answer.{IsForUpdate, walk_refusal, row_of}
use Rattle.un_subnet.specs.Outcome.{has_controllers, has_row, most_rows, outcome_refusal, stores}
use Rattle.un_subnet.proofs.Starts.{may_update}
use Rattle.un_core.specs.State.{State, kept_ground}
use Rattle.un_core.specs.Walked.{kept_survey, reached}
use Rattle.un_core.specs.Updating.{walk_of}
use Rattle.un_core.proofs.Updated.{controllers_by_starts, row_alone, nothing_there, walk_refused, is_full, is_stored}
use Rattle.un_core.proofs.net.Net.row_by.Goals as goal

pub walked_row-requires : goal.walked_row-requires
walked_row-requires c =
    let s = c.args.self.now in
    let tier = c.args.tier in
    let subnet = c.args.subnet.now in
    let walk = walk_of s tier subnet in
    let some : has_controllers s.features tier subnet ≡ true =
    controllers_by_starts s c.version-version.ensures.state tier subnet false (ap (λ (t : TypedAsk). length t.starts == 0) (sym c.requires) ∙ sym (c.is_empty.ensures ∙ ap (λ l. length l == 0) c.as_slice.ensures) ∙ c.if-is_empty.false) in
    subst IsForUpdate (sym c.requires) (may_update s.setup.schema s.features walk.barriers.of_tier walk.disjoint tier subnet c.version-version.ensures.state.sound some)

pub returns-then-has_row-clause-row : goal.returns-then-has_row-clause-row
returns-then-has_row-clause-row c =
    let s = c.args.self.now in
    let tier = c.args.tier in
    let subnet = c.args.subnet.now in
    let none : has_controllers s.features tier subnet ≡ false =
    controllers_by_starts s c.version-version.ensures.state tier subnet true (ap (λ (t : TypedAsk). length t.starts == 0) (sym c.requires) ∙ sym (c.is_empty.ensures ∙ ap (λ l. length l == 0) c.as_slice.ensures) ∙ c.if-is_empty.true) in
    row_alone s (kept_survey s) tier subnet none (ap (λ (t : State). has_row t.stored tier subnet) (sym c.self.view_is) ∙ sym c.has-has_row.ensures ∙ c.if-has_row.true)

pub returns-then-is_empty-clause-bad : goal.returns-then-is_empty-clause-bad
returns-then-is_empty-clause-bad c = λ other.
    let s = c.args.self.now in
    let tier = c.args.tier in
    let subnet = c.args.subnet.now in
    let none : has_controllers s.features tier subnet ≡ false =
    controllers_by_starts s c.version-version.ensures.state tier subnet true (ap (λ (t : TypedAsk). length t.starts == 0) (sym c.requires) ∙ sym (c.is_empty.ensures ∙ ap (λ l. length l == 0) c.as_slice.ensures) ∙ c.if-is_empty.true) in
    ap outcome_refusal
    (nothing_there s (kept_survey s) tier subnet none (ap (λ (t : State). has_row t.stored tier subnet) (sym c.self.view_is) ∙ sym c.has-has_row.ensures ∙ c.if-has_row.false))

pub returns-in_err-row-clause-bad : goal.returns-in_err-row-clause-bad
returns-in_err-row-clause-bad c =
    let s = c.args.self.now in
    let tier = c.args.tier in
    let subnet = c.args.subnet.now in
    let some : has_controllers s.features tier subnet ≡ true =
    controllers_by_starts s c.version-version.ensures.state tier subnet false (ap (λ (t : TypedAsk). length t.starts == 0) (sym c.requires) ∙ sym (c.is_empty.ensures ∙ ap (λ l. length l == 0) c.as_slice.ensures) ∙ c.if-is_empty.false) in
    let p = err_from_is_err_and c.from_residual.result c.from_residual.ensures.1 in
    rw (p.1, p.2)
    (λ other. walk_refused s (kept_survey s) tier subnet c.in_err-row.field-0.0 some
    (subst (λ (t : TypedAsk). walk_refusal (kept_ground s) t (reached (kept_survey s) t.barriers Any t.starts) ≡ Some c.in_err-row.field-0.0) c.requires (c.in_err-row.ensures.bad other)))

pub returns-in_err-fits-clause-bad : goal.returns-in_err-fits-clause-bad
returns-in_err-fits-clause-bad c =
    let s = c.args.self.now in
    let tier = c.args.tier in
    let subnet = c.args.subnet.now in
    let some : has_controllers s.features tier subnet ≡ true =
    controllers_by_starts s c.version-version.ensures.state tier subnet false (ap (λ (t : TypedAsk). length t.starts == 0) (sym c.requires) ∙ sym (c.is_empty.ensures ∙ ap (λ l. length l == 0) c.as_slice.ensures) ∙ c.if-is_empty.false) in
    let due : walk_refusal (kept_ground s) (walk_of s tier subnet) (reached (kept_survey s) (walk_of s tier subnet).barriers Any (walk_of s tier subnet).starts) ≡ None =
    subst (λ (t : TypedAsk). walk_refusal (kept_ground s) t (reached (kept_survey s) t.barriers Any t.starts) ≡ None) c.requires c.in_ok-row.ensures.good in
    let stored_is = ap (λ (t : State). t.stored) c.self.view_is in
    let row : has_row s.stored tier subnet ≡ false = ap (λ rows. has_row rows tier subnet) (sym stored_is) ∙ sym c.has-has_row.ensures ∙ c.in_err-fits.ensures.bad.1 in
    let full : nat_le most_rows (length s.stored) ≡ true = ap (λ rows. nat_le most_rows (length rows)) (sym stored_is) ∙ ap (nat_le most_rows) (sym c.len.ensures.len) ∙ c.in_err-fits.ensures.bad.2 in
    let p = err_from_is_err_and c.from_residual-in_err-fits.result c.from_residual-in_err-fits.ensures.1 in
    rw (p.1, p.2) (λ other. is_full s (kept_survey s) tier subnet some due row full ∙ ap Some (sym c.in_err-fits.ensures.bad.0))

pub returns-clause-row : goal.returns-clause-row
returns-clause-row c =
    let s = c.args.self.now in
    let tier = c.args.tier in
    let subnet = c.args.subnet.now in
    let some : has_controllers s.features tier subnet ≡ true =
    controllers_by_starts s c.version-version.ensures.state tier subnet false (ap (λ (t : TypedAsk). length t.starts == 0) (sym c.requires) ∙ sym (c.is_empty.ensures ∙ ap (λ l. length l == 0) c.as_slice.ensures) ∙ c.if-is_empty.false) in
    let due : walk_refusal (kept_ground s) (walk_of s tier subnet) (reached (kept_survey s) (walk_of s tier subnet).barriers Any (walk_of s tier subnet).starts) ≡ None =
    subst (λ (t : TypedAsk). walk_refusal (kept_ground s) t (reached (kept_survey s) t.barriers Any t.starts) ≡ None) c.requires c.in_ok-row.ensures.good in
    let stored_is = ap (λ (t : State). t.stored) c.self.view_is in
    let row : has_row s.stored tier subnet ≡ c.has-has_row.result = ap (λ rows. has_row rows tier subnet) (sym stored_is) ∙ sym c.has-has_row.ensures in
    let full : nat_le most_rows (length s.stored) ≡ nat_le most_rows c.len.result = ap (λ rows. nat_le most_rows (length rows)) (sym stored_is) ∙ ap (nat_le most_rows) (sym c.len.ensures.len) in
    is_stored s (kept_survey s) tier subnet c.has-has_row.result (nat_le most_rows c.len.result) some due row full c.in_ok-fits.ensures.good
    ∙ ap stores (sym (c.in_ok-row.ensures.row ∙ ap (λ (t : TypedAsk). row_of t (reached (kept_survey s) t.barriers Any t.starts)) c.requires))

pub returns-clause-ordered : goal.returns-clause-ordered
returns-clause-ordered c =
    let s = c.args.self.now in
    let ask = c.args.ask.now in
    subst (λ (row : StoredSubnet). IsStrictlySortedBy point_cmp row.points) (sym c.in_ok-row.ensures.row)
    (sorted-rising point_total (map (λ n. n.at) (reached (kept_survey s) ask.barriers Any ask.starts)))
