-- What each turn keeps, and the versions that turns tell.
use Rattle.std.proofs.Common.{◌≡◌, ◌⊎◌, ◌≤◌, ◌<◌, ◌+◌, ℕ, max, Option, List, [], ◌∷◌, length, refl, ap, sym, ◌∙◌, subst, inl, inr, ⊎_elim, arith}
use Rattle.std.specs.Prelude.{flat_map}
use Rattle.std.proofs.lemmas.Bool.Decides.{nat_tests}
use mathlib.Core.List.{IsPrefix}
use Rattle.un_machine.specs.declared.Entry.{Entry}
use Rattle.un_publish.specs.Models.{SessionModel, risen}
use Rattle.un_publish.specs.Faults.{IsReadFault}
use Rattle.un_publish.specs.declared.session.View.{View}
use Rattle.un_publish.specs.declared.session.Denied.{Denied}
use Rattle.un_publish.specs.declared.session.Denied.TheVariants.{NoCopy, Book, Long}
use Rattle.un_publish.specs.declared.session.SessionFault.{SessionFault}
use Rattle.un_publish.specs.declared.session.SessionFault.TheVariants.{Denied as Refused, Memory}
use Rattle.un_turns.proofs.Prefixes.{prefix_self, prefix_trans, prefix_length}
use Rattle.un_journal.specs.declared.receipt.Receipt.{Receipt}
use Rattle.un_desk.specs.Desks.{IsSubmitted, IsDeskFault, IsNotTaught, counted}
use Rattle.un_desk.specs.Views.{IsViewFault}
use Rattle.un_desk.specs.declared.desk.ViewFault.{ViewFault}
use Rattle.un_desk.specs.declared.desk.ViewFault.TheVariants.{Ahead, Denied as NotTaught, Memory as NoMemory}
use Rattle.un_desk.specs.declared.past.PastFault.{PastFault}
use Rattle.un_desk.specs.declared.past.PastFault.TheVariants.{Ahead as PastAhead, Denied as PastDenied, Memory as PastMemory}
use Rattle.un_desk.specs.Pasts.{IsPastFault}
use Rattle.un_turns.specs.Turns.{Turn, Passed, Decided, Undecided, Unprepared, Answered, Unanswered, Recalled, Unread, Unrecalled, Compared, Reversed, UnreadSpan, Uncompared, end_of, later_of, IsTurn, IsRead, IsOlder, IsAnswered, IsUnanswered, IsPastView, IsRecalled, IsUnrecalled, IsCompared, IsUncompared}
use Rattle.un_turns.specs.Conversations.{Conversed, accepted_by, accepted_of, waits_of, wait_if_later, known_after, versions_of, Rises, SnocLaw, VersionLaw}

risen_le : (n : ℕ) → risen n ≤ n + 1
risen_le n = omega arith

later_one : (known least : ℕ) → known < least → wait_if_later known least ≡ 1
later_one known least h = grind (arith, nat_tests)

module _ {M C R H K : Type 0} where
  -- The session stays the same one and sees no less. It has so many more entries of its own, and waited at most so often.
  pub record IsMove (s t : SessionModel M C R H K) (a b : ℕ) : Type 0 where
    pub number : t.number ≡ s.number
    pub seen : IsPrefix s.seen t.seen
    pub own : t.own ≡ s.own + a
    pub waits : t.waits ≤ s.waits + b

  pub move : (s t : SessionModel M C R H K) (xs : List (Entry M C R H K)) (own denied waits a b : ℕ)
      → t ≡ record { number = s.number; seen = xs; own = own; denied = denied; waits = waits }
      → IsPrefix s.seen t.seen → own ≡ s.own + a → waits ≤ s.waits + b → IsMove s t a b
  move s t xs own denied waits a b h p o w = record {
    number = ap (λ (u : SessionModel M C R H K). u.number) h;
    seen = p;
    own = ap (λ (u : SessionModel M C R H K). u.own) h ∙ o;
    waits = let e = ap (λ (u : SessionModel M C R H K). u.waits) h in omega arith;
  }

  pub move_trans : (s m t : SessionModel M C R H K) (a b c d : ℕ) → IsMove s m a b → IsMove m t c d → IsMove s t (a + c) (b + d)
  move_trans s m t a b c d p q = record {
    number = q.number ∙ p.number;
    seen = prefix_trans s.seen m.seen t.seen p.seen q.seen;
    own = omega (arith, p.own, q.own);
    waits = omega (arith, p.waits, q.waits);
  }

  pub desk_fault_moves : (s t : SessionModel M C R H K) (f : SessionFault) → IsDeskFault (counted s) t f → IsPrefix s.seen t.seen → IsMove s t 0 1
  desk_fault_moves s t Memory h p = move s t t.seen s.own s.denied (risen s.waits) 0 1 h p (omega arith) (risen_le s.waits)
  desk_fault_moves s t (Refused NoCopy) h p = move s t t.seen s.own (risen s.denied) (risen s.waits) 0 1 h p (omega arith) (risen_le s.waits)
  desk_fault_moves s t (Refused (Long a b)) h p = move s t t.seen s.own (risen s.denied) (risen s.waits) 0 1 h.0 p (omega arith) (risen_le s.waits)
  desk_fault_moves s t (Refused (Book a b)) h p = move s t t.seen s.own (risen s.denied) (risen s.waits) 0 1 h.0 p (omega arith) (risen_le s.waits)

  pub read_fault_moves : (s t : SessionModel M C R H K) (f : SessionFault) → IsReadFault s t f → IsPrefix s.seen t.seen → IsMove s t 0 0
  read_fault_moves s t Memory h p = move s t t.seen s.own s.denied s.waits 0 0 h p (omega arith) (omega arith)
  read_fault_moves s t (Refused NoCopy) h p = move s t s.seen s.own (risen s.denied) s.waits 0 0 h p (omega arith) (omega arith)
  read_fault_moves s t (Refused (Long a b)) h p = absurd h
  read_fault_moves s t (Refused (Book a b)) h p = absurd h

  pub not_taught_moves : (s t : SessionModel M C R H K) (d : Denied) → IsNotTaught (counted s) t d → IsPrefix s.seen t.seen → IsMove s t 0 1
  not_taught_moves s t NoCopy h p = move s t s.seen s.own (risen s.denied) (risen s.waits) 0 1 h p (omega arith) (risen_le s.waits)
  not_taught_moves s t (Long a b) h p = move s t t.seen s.own (risen s.denied) (risen s.waits) 0 1 h.0 p (omega arith) (risen_le s.waits)
  not_taught_moves s t (Book a b) h p = absurd h

  pub view_fault_moves : (s t : SessionModel M C R H K) (n : ℕ) (f : ViewFault) → IsViewFault (counted s) t n f → IsPrefix s.seen t.seen → IsMove s t 0 1
  view_fault_moves s t n (Ahead a) h p = move s t t.seen s.own s.denied (risen s.waits) 0 1 h.1 p (omega arith) (risen_le s.waits)
  view_fault_moves s t n (NotTaught d) h p = not_taught_moves s t d h p
  view_fault_moves s t n NoMemory h p = move s t t.seen s.own s.denied (risen s.waits) 0 1 h p (omega arith) (risen_le s.waits)

  pub past_fault_moves : (s t : SessionModel M C R H K) (at : ℕ) (f : PastFault) → IsPastFault (counted s) t at f → IsPrefix s.seen t.seen → IsMove s t 0 1
  past_fault_moves s t at (PastAhead a) h p = move s t t.seen s.own s.denied (risen s.waits) 0 1 h.1 p (omega arith) (risen_le s.waits)
  past_fault_moves s t at (PastDenied NoCopy) h p = move s t t.seen s.own (risen s.denied) (risen s.waits) 0 1 h p (omega arith) (risen_le s.waits)
  past_fault_moves s t at (PastDenied (Long a b)) h p = move s t t.seen s.own (risen s.denied) (risen s.waits) 0 1 h.0 p (omega arith) (risen_le s.waits)
  past_fault_moves s t at (PastDenied (Book a b)) h p = absurd h
  past_fault_moves s t at PastMemory h p = move s t t.seen s.own s.denied (risen s.waits) 0 1 h p (omega arith) (risen_le s.waits)

  pub wider : (s t : SessionModel M C R H K) (a b c : ℕ) → IsMove s t a b → b ≤ c → IsMove s t a c
  wider s t a b c m le = record { number = m.number; seen = m.seen; own = m.own; waits = omega (arith, m.waits, le) }

module _ {M C R H K : Type 0} (step : M → C → (M × (R × K)) ⊎ R) (opening : List M) where
  pub read_moves : (s t : SessionModel M C R H K) (v : View M) → IsRead step opening s t v → IsMove s t 0 0
  read_moves s t v r = move s t t.seen s.own s.denied s.waits 0 0 r.kept r.seen (omega arith) (omega arith)

  pub waited_moves : (s t : SessionModel M C R H K) (v : View M) → IsRead step opening (counted s) t v → IsMove s t 0 1
  waited_moves s t v r = move s t t.seen s.own s.denied (risen s.waits) 0 1 r.kept r.seen (omega arith) (risen_le s.waits)

  -- a query waits only if it asks for more than is known
  older_later : (s m : SessionModel M C R H K) (known n : ℕ) → known ≤ length s.seen → IsOlder step opening s m n → wait_if_later known n ≡ 1
  older_later s m known n k o =
      let grown = prefix_length s.seen m.seen o.read.seen in
      let lt : known < n = omega (arith, o.read.version, o.older, grown, k) in
      later_one known n lt

  pub answered_moves : (s t : SessionModel M C R H K) (known n : ℕ) (v : View M) → known ≤ length s.seen → IsAnswered step opening s t n v → IsMove s t 0 (wait_if_later known n)
  answered_moves s t known n v k h =
      elim h.1 as (λ _. IsMove s t 0 (wait_if_later known n)) [
        | inl r ↦ wider s t 0 0 (wait_if_later known n) (read_moves s t v r) (omega arith)
        | inr w ↦
            let one = older_later s w.0 known n k w.1 in
            wider s t 0 1 (wait_if_later known n) (move_trans s w.0 t 0 0 0 1 (read_moves s w.0 w.1.view w.1.read) (waited_moves w.0 t v w.2)) (omega (arith, one))
      ]

  pub unanswered_moves : (s t : SessionModel M C R H K) (known n : ℕ) (f : ViewFault) → known ≤ length s.seen → IsUnanswered step opening s t n f → IsMove s t 0 (wait_if_later known n)
  unanswered_moves s t known n f k h =
      elim h as (λ _. IsMove s t 0 (wait_if_later known n)) [
        | inl r ↦ wider s t 0 0 (wait_if_later known n) (read_fault_moves s t r.0 r.2 r.3) (omega arith)
        | inr w ↦
            let one = older_later s w.0 known n k w.1 in
            wider s t 0 1 (wait_if_later known n) (move_trans s w.0 t 0 0 0 1 (read_moves s w.0 w.1.view w.1.read) (view_fault_moves w.0 t n f w.2 w.3)) (omega (arith, one))
      ]

  recalled_moves : (s t : SessionModel M C R H K) (known n at : ℕ) (v w : View M) → known ≤ length s.seen → IsRecalled step opening s t n at v w → IsMove s t 0 (wait_if_later known n + 1)
  recalled_moves s t known n at v w k h =
      let past = move h.between t t.seen h.between.own h.between.denied (risen h.between.waits) 0 1 h.past.kept h.past.seen (omega arith) (risen_le h.between.waits) in
      move_trans s h.between t 0 (wait_if_later known n) 0 1 (answered_moves s h.between known n v k h.first) past

  unrecalled_moves : (s t : SessionModel M C R H K) (known n at : ℕ) (f : PastFault) → known ≤ length s.seen → IsUnrecalled step opening s t n at f → IsMove s t 0 (wait_if_later known n + 1)
  unrecalled_moves s t known n at f k h =
      move_trans s h.between t 0 (wait_if_later known n) 0 1 (answered_moves s h.between known n h.view k h.first) (past_fault_moves h.between t at f h.fault h.seen)

  past_view_moves : (s t : SessionModel M C R H K) (at : ℕ) (v : View M) → IsPastView step opening s t at v → IsMove s t 0 1
  past_view_moves s t at v h = move s t t.seen s.own s.denied (risen s.waits) 0 1 h.kept h.seen (omega arith) (risen_le s.waits)

  compared_moves : (s t : SessionModel M C R H K) (known n since : ℕ) (upto : Option ℕ) (v old new : View M) → known ≤ length s.seen → IsCompared step opening s t n since upto v old new
      → IsMove s t 0 (wait_if_later known n + 2)
  compared_moves s t known n since upto v old new k h =
      wider s t 0 ((wait_if_later known n + 1) + 1) (wait_if_later known n + 2)
      (move_trans s h.between t 0 (wait_if_later known n + 1) 0 1 (recalled_moves s h.between known n since v old k h.older) (past_view_moves h.between t (end_of upto v.version) new h.newer)) (omega arith)

  uncompared_moves : (s t : SessionModel M C R H K) (known n since : ℕ) (upto : Option ℕ) (at : ℕ) (f : PastFault) → known ≤ length s.seen → IsUncompared step opening s t n since upto at f
      → IsMove s t 0 (wait_if_later known n + 2)
  uncompared_moves s t known n since upto at f k h =
      elim h as (λ _. IsMove s t 0 (wait_if_later known n + 2)) [
        | inl u ↦ wider s t 0 (wait_if_later known n + 1) (wait_if_later known n + 2) (unrecalled_moves s t known n since f k u.1) (omega arith)
        | inr u ↦
            wider s t 0 ((wait_if_later known n + 1) + 1) (wait_if_later known n + 2)
            (move_trans s u.between t 0 (wait_if_later known n + 1) 0 1 (recalled_moves s u.between known n since u.view u.old k u.older) (past_fault_moves u.between t at f u.fault u.seen)) (omega arith)
      ]

  answered_version : (s t : SessionModel M C R H K) (n : ℕ) (v : View M) → IsAnswered step opening s t n v → v.version ≡ length t.seen
  answered_version s t n v h = ⊎_elim (λ (r : IsRead step opening s t v). r.version) (λ (w : (m : SessionModel M C R H K) × IsOlder step opening s m n × IsRead step opening (counted m) t v). w.2.version) h.1

  -- the versions of a query at a past version have been seen, and the first view is not below what had been seen
  pub recalled_seen : (s t : SessionModel M C R H K) (n at : ℕ) (v w : View M) → IsRecalled step opening s t n at v w → (length s.seen ≤ v.version) × (v.version ≤ length t.seen) × (at ≤ length t.seen)
  recalled_seen s t n at v w h =
      let first = prefix_length s.seen h.between.seen (answered_moves s h.between 0 n v (omega arith) h.first).seen in
      let more = prefix_length h.between.seen t.seen h.past.seen in
      let e = answered_version s h.between n v h.first in
      (omega (arith, first, e), omega (arith, more, e), h.past.after.0)

  -- the versions of a query about two of them have been seen, and the first view is not below what had been seen
  pub compared_seen : (s t : SessionModel M C R H K) (n since : ℕ) (upto : Option ℕ) (v old new : View M) → IsCompared step opening s t n since upto v old new
      → (length s.seen ≤ v.version) × (v.version ≤ length t.seen) × (since ≤ length t.seen) × (end_of upto v.version ≤ length t.seen)
  compared_seen s t n since upto v old new h =
      let r = recalled_seen s h.between n since v old h.older in
      let more = prefix_length h.between.seen t.seen h.newer.seen in
      (r.0, omega (arith, r.1, more), omega (arith, r.2, more), h.newer.after.0)

  pub decided_moves : (s t : SessionModel M C R H K) (cmd : C) (r : Receipt M C R H K) → IsSubmitted step opening s t cmd r
      → IsMove s t (length (accepted_by cmd r)) 1
  decided_moves s t cmd r h =
      elim h.receipt.decided as (λ _. IsMove s t (length (accepted_by cmd r)) 1) [
        | inl d ↦ rw d.0 (move s t h.after.log (s.own + 1) s.denied (risen s.waits) 1 1 d.1.session h.seen refl (risen_le s.waits))
        | inr d ↦ rw d.0 (move s t h.before.log s.own s.denied (risen s.waits) 0 1 d.1.session h.seen (omega arith) (risen_le s.waits))
      ]

module _ {M C R H K Q : Type 0} (step : M → C → (M × (R × K)) ⊎ R) (opening : List M) (least : Q → ℕ) where
  pub turn_moves : (known : ℕ) (s t : SessionModel M C R H K) (u : Turn M C R H K Q) → known ≤ length s.seen → IsTurn step opening least s u t
      → IsMove s t (length (accepted_of u)) (waits_of least known u)
  turn_moves known s t Passed k h = move s t s.seen s.own s.denied s.waits 0 0 h (subst (λ (x : SessionModel M C R H K). IsPrefix s.seen x.seen) (sym h) (prefix_self s.seen)) (omega arith) (omega arith)
  turn_moves known s t (Decided cmd r) k h = decided_moves step opening s t cmd r h
  turn_moves known s t (Undecided cmd f) k h = desk_fault_moves s t f h.0 h.1
  turn_moves known s t (Unprepared cmd f) k h = read_fault_moves s t f h.0 h.1
  turn_moves known s t (Answered query v) k h = answered_moves step opening s t known (least query) v k h
  turn_moves known s t (Unanswered query f) k h = unanswered_moves step opening s t known (least query) f k h
  turn_moves known s t (Recalled query at v w) k h = recalled_moves step opening s t known (least query) at v w k h
  turn_moves known s t (Unread query at f) k h = unanswered_moves step opening s t known (least query) f k h
  turn_moves known s t (Unrecalled query at f) k h = unrecalled_moves step opening s t known (least query) at f k h
  turn_moves known s t (Compared query since upto v old new) k h = compared_moves step opening s t known (least query) since upto v old new k h
  turn_moves known s t (Reversed query since upto v old) k h = recalled_moves step opening s t known (least query) since v old k h.older
  turn_moves known s t (UnreadSpan query since upto f) k h = unanswered_moves step opening s t known (least query) f k h
  turn_moves known s t (Uncompared query since upto at f) k h = uncompared_moves step opening s t known (least query) since upto at f k h

  -- every turn keeps the session's number, and the session sees no less
  pub turn_number : (s t : SessionModel M C R H K) (u : Turn M C R H K Q) → IsTurn step opening least s u t → t.number ≡ s.number
  turn_number s t u h = (turn_moves 0 s t u (omega arith) h).number

  pub turn_seen : (s t : SessionModel M C R H K) (u : Turn M C R H K Q) → IsTurn step opening least s u t → IsPrefix s.seen t.seen
  turn_seen s t u h = (turn_moves 0 s t u (omega arith) h).seen

  pub all_seen : (s t : SessionModel M C R H K) (us : List (Turn M C R H K Q)) → Conversed step opening least s us t → IsPrefix s.seen t.seen
  all_seen s t [] h = subst (λ (x : SessionModel M C R H K). IsPrefix s.seen x.seen) (sym h) (prefix_self s.seen)
  all_seen s t (u ∷ us) h = prefix_trans s.seen h.0.seen t.seen (turn_seen s h.0 u h.1) (all_seen h.0 t us h.2)

  pub conversed_more : SnocLaw H step opening least
  conversed_more s m t [] u h turn = (t, subst (λ (x : SessionModel M C R H K). IsTurn step opening least x u t) h turn, refl)
  conversed_more s m t (w ∷ ws) u h turn = (h.0, h.1, conversed_more h.0 m t ws u h.2 turn)

  known_le : (n k : ℕ) (xs ys : List (Entry M C R H K)) → k ≤ length xs → n ≡ length ys → IsPrefix xs ys → max k n ≤ length ys
  known_le n k xs ys le e p = let g = prefix_length xs ys p in omega (arith, g, e, le)

  decided_version : (s t : SessionModel M C R H K) (cmd : C) (r : Receipt M C R H K) → IsSubmitted step opening s t cmd r → r.version ≡ length t.seen
  decided_version s t cmd r h = h.receipt.version ∙ ap length (sym h.receipt.seen)

  -- what is known has been seen
  pub known_seen : (known : ℕ) (s t : SessionModel M C R H K) (u : Turn M C R H K Q) → known ≤ length s.seen → IsTurn step opening least s u t → known_after known u ≤ length t.seen
  known_seen known s t Passed k h = let g = prefix_length s.seen t.seen (turn_seen s t Passed h) in omega (arith, g, k)
  known_seen known s t (Decided cmd r) k h = known_le r.version known s.seen t.seen k (decided_version s t cmd r h) h.seen
  known_seen known s t (Undecided cmd f) k h = let g = prefix_length s.seen t.seen h.1 in omega (arith, g, k)
  known_seen known s t (Unprepared cmd f) k h = let g = prefix_length s.seen t.seen h.1 in omega (arith, g, k)
  known_seen known s t (Answered query v) k h = known_le v.version known s.seen t.seen k (answered_version step opening s t (least query) v h) (turn_seen s t (Answered query v) h)
  known_seen known s t (Unanswered query f) k h = let g = prefix_length s.seen t.seen (turn_seen s t (Unanswered query f) h) in omega (arith, g, k)
  known_seen known s t (Recalled query at v w) k h =
      let g = prefix_length s.seen t.seen (turn_seen s t (Recalled query at v w) h) in
      let r = recalled_seen step opening s t (least query) at v w h in
      omega (arith, g, k, r.1, r.2)
  known_seen known s t (Unread query at f) k h = let g = prefix_length s.seen t.seen (turn_seen s t (Unread query at f) h) in omega (arith, g, k)
  known_seen known s t (Unrecalled query at f) k h = let g = prefix_length s.seen t.seen (turn_seen s t (Unrecalled query at f) h) in omega (arith, g, k)
  known_seen known s t (Compared query since upto v old new) k h =
      let g = prefix_length s.seen t.seen (turn_seen s t (Compared query since upto v old new) h) in
      let r = compared_seen step opening s t (least query) since upto v old new h in
      omega (arith, g, k, r.1, r.3)
  known_seen known s t (Reversed query since upto v old) k h =
      let g = prefix_length s.seen t.seen (turn_seen s t (Reversed query since upto v old) h) in
      let r = recalled_seen step opening s t (least query) since v old h.older in
      omega (arith, g, k, r.1)
  known_seen known s t (UnreadSpan query since upto f) k h = let g = prefix_length s.seen t.seen (turn_seen s t (UnreadSpan query since upto f) h) in omega (arith, g, k)
  known_seen known s t (Uncompared query since upto at f) k h = let g = prefix_length s.seen t.seen (turn_seen s t (Uncompared query since upto at f) h) in omega (arith, g, k)

  -- the versions rise from what the session had seen
  rise_from : (from : ℕ) (s t : SessionModel M C R H K) (us : List (Turn M C R H K Q)) → from ≤ length s.seen → Conversed step opening least s us t → Rises from (flat_map versions_of us)
  rise_from from s t [] k h = tt
  rise_from from s t (Passed ∷ us) k h = rise_from from h.0 t us (known_seen from s h.0 Passed k h.1) h.2
  rise_from from s t (Decided cmd r ∷ us) k h =
      let seen = known_seen from s h.0 (Decided cmd r) k h.1 in
      let e = decided_version s h.0 cmd r h.1 in
      (omega (arith, seen, e), rise_from r.version h.0 t us (omega (arith, e)) h.2)
  rise_from from s t (Undecided cmd f ∷ us) k h = rise_from from h.0 t us (known_seen from s h.0 (Undecided cmd f) k h.1) h.2
  rise_from from s t (Unprepared cmd f ∷ us) k h = rise_from from h.0 t us (known_seen from s h.0 (Unprepared cmd f) k h.1) h.2
  rise_from from s t (Answered query v ∷ us) k h =
      let seen = known_seen from s h.0 (Answered query v) k h.1 in
      let e = answered_version step opening s h.0 (least query) v h.1 in
      (omega (arith, seen, e), rise_from v.version h.0 t us (omega (arith, e)) h.2)
  rise_from from s t (Unanswered query f ∷ us) k h = rise_from from h.0 t us (known_seen from s h.0 (Unanswered query f) k h.1) h.2
  rise_from from s t (Recalled query at v w ∷ us) k h =
      let r = recalled_seen step opening s h.0 (least query) at v w h.1 in
      (omega (arith, k, r.0), rise_from (max v.version at) h.0 t us (omega (arith, r.1, r.2)) h.2)
  rise_from from s t (Unread query at f ∷ us) k h = rise_from from h.0 t us (known_seen from s h.0 (Unread query at f) k h.1) h.2
  rise_from from s t (Unrecalled query at f ∷ us) k h = rise_from from h.0 t us (known_seen from s h.0 (Unrecalled query at f) k h.1) h.2
  rise_from from s t (Compared query since upto v old new ∷ us) k h =
      let r = compared_seen step opening s h.0 (least query) since upto v old new h.1 in
      (omega (arith, k, r.0), rise_from (later_of upto v.version) h.0 t us (omega (arith, r.1, r.3)) h.2)
  rise_from from s t (Reversed query since upto v old ∷ us) k h =
      let r = recalled_seen step opening s h.0 (least query) since v old h.1.older in
      (omega (arith, k, r.0), rise_from v.version h.0 t us (omega (arith, r.1)) h.2)
  rise_from from s t (UnreadSpan query since upto f ∷ us) k h = rise_from from h.0 t us (known_seen from s h.0 (UnreadSpan query since upto f) k h.1) h.2
  rise_from from s t (Uncompared query since upto at f ∷ us) k h = rise_from from h.0 t us (known_seen from s h.0 (Uncompared query since upto at f) k h.1) h.2

  pub versions_rise : VersionLaw H step opening least
  versions_rise s t us h = rise_from (length s.seen) s t us (omega arith) h
