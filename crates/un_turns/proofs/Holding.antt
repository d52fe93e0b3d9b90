-- What turns report is true of the entries that the session has seen in the end.
use Rattle.std.proofs.Common.{◌≡◌, ◌⊎◌, ◌≤◌, ◌<◌, ℕ, true, false, Option, None, Some, List, [], ◌∷◌, length, take, refl, ap, sym, ◌∙◌, subst, inl, inr, arith}
use Rattle.std.specs.Arc.{arc_value}
use Rattle.std.proofs.lemmas.List.{take-append-le, take_all, length-take}
use mathlib.Core.List.{IsPrefix}
use Rattle.un_machine.specs.declared.Entry.{Entry}
use Rattle.un_machine.specs.Logs.{Reaches}
use Rattle.un_publish.specs.Models.{SessionModel}
use Rattle.un_publish.specs.declared.session.View.{View}
use Rattle.un_publish.specs.declared.session.SessionFault.TheVariants.{Denied as Refused, Memory}
use Rattle.un_turns.proofs.Prefixes.{prefix_length}
use Rattle.un_journal.specs.Books.{JournalModel, entry}
use Rattle.un_journal.specs.declared.receipt.Receipt.{Receipt}
use Rattle.un_desk.specs.Desks.{IsSubmitted, counted}
use Rattle.un_desk.specs.declared.desk.ViewFault.{ViewFault}
use Rattle.un_desk.specs.declared.desk.ViewFault.TheVariants.{Ahead, Denied as NotTaught, Memory as NoMemory}
use Rattle.un_desk.specs.declared.past.PastFault.{PastFault}
use Rattle.un_desk.specs.declared.past.PastFault.TheVariants.{Ahead as PastAhead, Denied as PastDenied, Memory as PastMemory}
use Rattle.un_turns.specs.Turns.{Turn, Passed, Decided, Undecided, Unprepared, Answered, Unanswered, Recalled, Unread, Unrecalled, Compared, Reversed, UnreadSpan, Uncompared, end_of, IsTurn, IsRead, IsAnswered, IsUnanswered, IsUnrecalled, IsCompared, IsUncompared, IsUnreached}
use Rattle.un_turns.specs.Conversations.{Conversed, IsDecidedAt, IsLastEntry, IsAheadOf, IsNotYet, IsNotReached, IsTrueTurn, AreTrueTurns, TrueTurnsLaw}
use Rattle.un_turns.proofs.Turning.{turn_number, all_seen, recalled_seen, compared_seen}

take_prefix : {A : Type 0} (n : ℕ) (xs ys : List A) → IsPrefix xs ys → n ≤ length xs → take n ys ≡ take n xs
take_prefix n xs ys p le = ap (λ l. take n l) (sym p.1) ∙ take-append-le n xs p.0 le

take_whole : {A : Type 0} (n : ℕ) (xs : List A) → n ≡ length xs → take n xs ≡ xs
take_whole n xs e = take_all n xs (omega (arith, e))

-- what is true of a beginning of the log stays true
ahead_longer : (n k l : ℕ) (f : ViewFault) → k ≤ l → IsAheadOf n k f → IsAheadOf n l f
ahead_longer n k l (Ahead a) le h = (h.0, omega (arith, h.1, le), h.2)
ahead_longer n k l (NotTaught d) le h = tt
ahead_longer n k l NoMemory le h = tt

not_yet_longer : (n k l : ℕ) (f : PastFault) → k ≤ l → IsNotYet n k f → IsNotYet n l f
not_yet_longer n k l (PastAhead a) le h = (h.0, omega (arith, h.1, le), h.2)
not_yet_longer n k l (PastDenied d) le h = tt
not_yet_longer n k l PastMemory le h = tt

not_reached_longer : (since : ℕ) (upto : Option ℕ) (n k l : ℕ) (f : PastFault) → k ≤ l → IsNotReached since upto n k f → IsNotReached since upto n l f
not_reached_longer since upto n k l (PastAhead a) le h = (h.0, h.1, omega (arith, h.2, le), h.3)
not_reached_longer since upto n k l (PastDenied d) le h = tt
not_reached_longer since upto n k l PastMemory le h = tt

-- a second version that was not reached was asked for: that of a view has been seen
asked_for : (upto : Option ℕ) (v at seen : ℕ) → v ≤ seen → at ≡ end_of upto v → seen < at → upto ≡ Some at
asked_for None v at seen le e lt = absurd (omega (arith, le, e, lt))
asked_for (Some u) v at seen le e lt = ap Some (sym e)

module _ {M C R H K : Type 0} (step : M → C → (M × (R × K)) ⊎ R) (opening : List M) where
  decided_holds : (s t : SessionModel M C R H K) (cmd : C) (r : Receipt M C R H K) → IsSubmitted step opening s t cmd r
      → IsDecidedAt step opening s.number (take r.version t.seen) cmd r
  decided_holds s t cmd r h =
      let now : take r.version t.seen ≡ h.after.log =
      ap (λ (l : List (Entry M C R H K)). take r.version l) h.receipt.seen ∙ take_whole r.version h.after.log h.receipt.version in
      let here : IsDecidedAt step opening s.number h.after.log cmd r = record {
        version = h.receipt.version;
        view = h.receipt.view;
        reaches = subst (λ (z : M). Reaches step opening h.after.log z) (sym h.receipt.state) h.reaches;
        decided = elim h.receipt.decided as (λ _. ((r.accepted ≡ true) × IsLastEntry s.number h.after.log cmd r.reply) ⊎ ((r.accepted ≡ false) × (step (arc_value r.view.state) cmd ≡ inr r.reply))) [
          | inl d ↦ inl (d.0, record { before = h.before.log; entry = entry h.before.log s.number cmd r.reply d.1.mark; last = d.1.log; session = refl; same_cmd = refl; same_reply = refl })
          | inr d ↦ inr (d.0, ap (λ (z : M). step z cmd) (h.receipt.state ∙ ap (λ (j : JournalModel M C R H K). j.state) d.1.same) ∙ d.1.steps)
        ];
      } in
      subst (λ (l : List (Entry M C R H K)). IsDecidedAt step opening s.number l cmd r) (sym now) here

  pub decided_here : (s t : SessionModel M C R H K) (cmd : C) (r : Receipt M C R H K) → IsSubmitted step opening s t cmd r → IsDecidedAt step opening s.number t.seen cmd r
  decided_here s t cmd r h =
      let whole : take r.version t.seen ≡ t.seen = take_whole r.version t.seen (h.receipt.version ∙ ap length (sym h.receipt.seen)) in
      subst (λ (l : List (Entry M C R H K)). IsDecidedAt step opening s.number l cmd r) whole (decided_holds s t cmd r h)

  read_holds : (s t : SessionModel M C R H K) (v : View M) → IsRead step opening s t v → (v.version ≤ length t.seen) × Reaches step opening (take v.version t.seen) (arc_value v.state)
  read_holds s t v r = (
    omega (arith, r.version),
    subst (λ (l : List (Entry M C R H K)). Reaches step opening l (arc_value v.state)) (sym (take_whole v.version t.seen r.version)) r.reaches,
  )

  pub answered_holds : (s t : SessionModel M C R H K) (n : ℕ) (v : View M) → IsAnswered step opening s t n v
      → (n ≤ v.version) × (v.version ≤ length t.seen) × Reaches step opening (take v.version t.seen) (arc_value v.state)
  answered_holds s t n v h =
      let facts : (v.version ≤ length t.seen) × Reaches step opening (take v.version t.seen) (arc_value v.state) =
      elim h.1 as (λ _. (v.version ≤ length t.seen) × Reaches step opening (take v.version t.seen) (arc_value v.state)) [
        | inl r ↦ read_holds s t v r
        | inr w ↦ read_holds (counted w.0) t v w.2
      ] in
      (h.0, facts.0, facts.1)

  unanswered_holds : (s t : SessionModel M C R H K) (n : ℕ) (f : ViewFault) → IsUnanswered step opening s t n f → IsAheadOf n (length t.seen) f
  unanswered_holds s t n (NotTaught d) h = tt
  unanswered_holds s t n NoMemory h = tt
  unanswered_holds s t n (Ahead a) (inl (Refused d, e, r, p)) = absurd (cc e)
  unanswered_holds s t n (Ahead a) (inl (Memory, e, r, p)) = absurd (cc e)
  unanswered_holds s t n (Ahead a) (inr (m, o, v, p)) = (v.0.0, omega (arith, v.0.1), omega (arith, v.0.1, v.0.2))

  unrecalled_holds : (s t : SessionModel M C R H K) (n at : ℕ) (f : PastFault) → IsUnrecalled step opening s t n at f → IsNotYet at (length t.seen) f
  unrecalled_holds s t n at (PastDenied d) h = tt
  unrecalled_holds s t n at PastMemory h = tt
  unrecalled_holds s t n at (PastAhead a) h = let v = h.fault in (v.0.0, omega (arith, v.0.1), omega (arith, v.0.1, v.0.2))

  pub compared_holds : (s t : SessionModel M C R H K) (n since : ℕ) (upto : Option ℕ) (v old new : View M) → IsCompared step opening s t n since upto v old new
      → Reaches step opening (take since t.seen) (arc_value old.state)
  compared_holds s t n since upto v old new h =
      subst (λ (l : List (Entry M C R H K)). Reaches step opening l (arc_value old.state)) (sym (take_prefix since h.between.seen t.seen h.newer.seen h.older.past.after.0)) h.older.past.after.1

  unreached_holds : (s t : SessionModel M C R H K) (n since : ℕ) (upto : Option ℕ) (at : ℕ) (f : PastFault) → IsUnreached step opening s t n since upto at f → IsNotReached since upto at (length t.seen) f
  unreached_holds s t n since upto at (PastDenied d) h = tt
  unreached_holds s t n since upto at PastMemory h = tt
  unreached_holds s t n since upto at (PastAhead a) h =
      let v = h.fault in
      let seen = recalled_seen step opening s h.between n since h.view h.old h.older in
      let more = prefix_length h.between.seen t.seen h.seen in
      (inr (asked_for upto h.view.version at (length t.seen) (omega (arith, seen.1, more)) h.is_end v.0.2), v.0.0, omega (arith, v.0.1), omega (arith, v.0.1, v.0.2))

  pub uncompared_holds : (s t : SessionModel M C R H K) (n since : ℕ) (upto : Option ℕ) (at : ℕ) (f : PastFault) → IsUncompared step opening s t n since upto at f → IsNotReached since upto at (length t.seen) f
  uncompared_holds s t n since upto at f (inr h) = unreached_holds s t n since upto at f h
  uncompared_holds s t n since upto at (PastDenied d) (inl h) = tt
  uncompared_holds s t n since upto at PastMemory (inl h) = tt
  uncompared_holds s t n since upto at (PastAhead a) (inl h) =
      let v = h.1.fault in
      (inl h.0, v.0.0 ∙ sym h.0, omega (arith, v.0.1), omega (arith, v.0.1, v.0.2, h.0))

module _ {M C R H K Q : Type 0} (step : M → C → (M × (R × K)) ⊎ R) (opening : List M) (least : Q → ℕ) where
  turn_holds : (s t : SessionModel M C R H K) (u : Turn M C R H K Q) → IsTurn step opening least s u t → IsTrueTurn step opening least s.number t.seen u
  turn_holds s t Passed h = tt
  turn_holds s t (Decided cmd r) h = decided_holds step opening s t cmd r h
  turn_holds s t (Undecided cmd f) h = tt
  turn_holds s t (Unprepared cmd f) h = tt
  turn_holds s t (Answered query v) h = answered_holds step opening s t (least query) v h
  turn_holds s t (Unanswered query f) h = unanswered_holds step opening s t (least query) f h
  turn_holds s t (Recalled query at v w) h =
      let r = recalled_seen step opening s t (least query) at v w h in
      (h.first.0, r.1, h.past.version, r.2, h.past.after.1)
  turn_holds s t (Unread query at f) h = unanswered_holds step opening s t (least query) f h
  turn_holds s t (Unrecalled query at f) h = unrecalled_holds step opening s t (least query) at f h
  turn_holds s t (Compared query since upto v old new) h =
      let r = compared_seen step opening s t (least query) since upto v old new h in
      (h.older.first.0, r.1, h.order, r.3, compared_holds step opening s t (least query) since upto v old new h, h.newer.after.1)
  turn_holds s t (Reversed query since upto v old) h =
      let r = recalled_seen step opening s t (least query) since v old h.older in
      (h.older.first.0, r.1, h.order)
  turn_holds s t (UnreadSpan query since upto f) h = unanswered_holds step opening s t (least query) f h
  turn_holds s t (Uncompared query since upto at f) h = uncompared_holds step opening s t (least query) since upto at f h

  holds_longer : (number : ℕ) (xs ys : List (Entry M C R H K)) (u : Turn M C R H K Q) → IsPrefix xs ys → IsTrueTurn step opening least number xs u → IsTrueTurn step opening least number ys u
  holds_longer number xs ys Passed p h = tt
  holds_longer number xs ys (Decided cmd r) p h =
      let le : r.version ≤ length xs = let e = h.version ∙ length-take r.version xs in omega (arith, e) in
      subst (λ (l : List (Entry M C R H K)). IsDecidedAt step opening number l cmd r) (sym (take_prefix r.version xs ys p le)) h
  holds_longer number xs ys (Undecided cmd f) p h = tt
  holds_longer number xs ys (Unprepared cmd f) p h = tt
  holds_longer number xs ys (Answered query v) p h =
      let longer = prefix_length xs ys p in
      (h.0, omega (arith, h.1, longer), subst (λ (l : List (Entry M C R H K)). Reaches step opening l (arc_value v.state)) (sym (take_prefix v.version xs ys p h.1)) h.2)
  holds_longer number xs ys (Unanswered query f) p h = ahead_longer (least query) (length xs) (length ys) f (prefix_length xs ys p) h
  holds_longer number xs ys (Recalled query at v w) p h =
      let longer = prefix_length xs ys p in
      (h.0, omega (arith, h.1, longer), h.2, omega (arith, h.3, longer), subst (λ (l : List (Entry M C R H K)). Reaches step opening l (arc_value w.state)) (sym (take_prefix at xs ys p h.3)) h.4)
  holds_longer number xs ys (Unread query at f) p h = ahead_longer (least query) (length xs) (length ys) f (prefix_length xs ys p) h
  holds_longer number xs ys (Unrecalled query at f) p h = not_yet_longer at (length xs) (length ys) f (prefix_length xs ys p) h
  holds_longer number xs ys (Compared query since upto v old new) p h =
      let longer = prefix_length xs ys p in
      let known : since ≤ length xs = omega (arith, h.2, h.3) in (
        h.0,
        omega (arith, h.1, longer),
        h.2,
        omega (arith, h.3, longer),
        subst (λ (l : List (Entry M C R H K)). Reaches step opening l (arc_value old.state)) (sym (take_prefix since xs ys p known)) h.4,
        subst (λ (l : List (Entry M C R H K)). Reaches step opening l (arc_value new.state)) (sym (take_prefix (end_of upto v.version) xs ys p h.3)) h.5,
      )
  holds_longer number xs ys (Reversed query since upto v old) p h = let longer = prefix_length xs ys p in (h.0, omega (arith, h.1, longer), h.2)
  holds_longer number xs ys (UnreadSpan query since upto f) p h = ahead_longer (least query) (length xs) (length ys) f (prefix_length xs ys p) h
  holds_longer number xs ys (Uncompared query since upto at f) p h = not_reached_longer since upto at (length xs) (length ys) f (prefix_length xs ys p) h

  hold_on : (number : ℕ) (s t : SessionModel M C R H K) (us : List (Turn M C R H K Q)) → s.number ≡ number → Conversed step opening least s us t → AreTrueTurns step opening least number t.seen us
  hold_on number s t [] e h = tt
  hold_on number s t (u ∷ us) e h =
      let here : IsTrueTurn step opening least number h.0.seen u = subst (λ (n : ℕ). IsTrueTurn step opening least n h.0.seen u) e (turn_holds s h.0 u h.1) in
      (holds_longer number h.0.seen t.seen u (all_seen step opening least h.0 t us h.2) here, hold_on number h.0 t us (turn_number step opening least s h.0 u h.1 ∙ e) h.2)

  pub all_hold : TrueTurnsLaw H step opening least
  all_hold s t us h = hold_on s.number s t us refl h
