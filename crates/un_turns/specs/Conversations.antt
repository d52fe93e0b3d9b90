-- What requests that are handled one after another do to a session, and the laws of it.
use Rattle.std.specs.Prelude.{◌≡◌, ◌⊎◌, ◌≤◌, ◌<◌, ◌+◌, ◌-◌, ◌^◌, min, ℕ, true, false, if◌then◌else◌, nat_lt, max, Option, Some, List, [], ◌∷◌, ◌++◌, length, map, take, flat_map}
use Rattle.std.proofs.Common.{inr}
use Rattle.std.specs.Arc.{arc_value}
use Rattle.un_machine.specs.declared.Entry.{Entry}
use Rattle.un_machine.specs.Logs.{Reaches}
use Rattle.un_publish.specs.Models.{SessionModel}
use Rattle.un_journal.specs.declared.receipt.Receipt.{Receipt}
use Rattle.un_publish.specs.declared.session.SessionFault.TheVariants.{Denied as Refused, Memory as NoMemory}
use Rattle.un_desk.specs.declared.desk.ViewFault.{ViewFault}
use Rattle.un_desk.specs.declared.desk.ViewFault.TheVariants.{Ahead, Denied, Memory}
use Rattle.un_turns.specs.Own.{own_entries, IsWithin}
use Rattle.un_desk.specs.declared.past.PastFault.{PastFault}
use Rattle.un_desk.specs.declared.past.PastFault.TheVariants.{Ahead as PastAhead, Denied as PastDenied, Memory as PastMemory}
use Rattle.un_turns.specs.Turns.{Turn, IsTurn, Passed, Decided, Undecided, Unprepared, Answered, Unanswered, Recalled, Unread, Unrecalled, Compared, Reversed, UnreadSpan, Uncompared, end_of, later_of}

-- 1 if more entries are asked for than are known, and otherwise 0
abbrev pub wait_if_later : ℕ → ℕ → ℕ
wait_if_later known least = if nat_lt known least then 1 else 0

-- a query that is refused because it asks for more entries than the session has then seen
abbrev pub IsAheadOf : ℕ → ℕ → ViewFault → Type 0
IsAheadOf least seen (Ahead a) = (a.seen ≡ least) × (a.latest ≤ seen) × (a.latest < least)
IsAheadOf least seen (Denied d) = Unit {0}
IsAheadOf least seen Memory = Unit {0}

-- a query at a past version that is refused because the version is over what the session has then seen
abbrev pub IsNotYet : ℕ → ℕ → PastFault → Type 0
IsNotYet at seen (PastAhead a) = (a.seen ≡ at) × (a.latest ≤ seen) × (a.latest < at)
IsNotYet at seen (PastDenied d) = Unit {0}
IsNotYet at seen PastMemory = Unit {0}

-- a query about two versions that is refused because one of them, which it names, is over what the session has then seen
abbrev pub IsNotReached : ℕ → Option ℕ → ℕ → ℕ → PastFault → Type 0
IsNotReached since upto at seen (PastAhead a) = ((at ≡ since) ⊎ (upto ≡ Some at)) × (a.seen ≡ at) × (a.latest ≤ seen) × (a.latest < at)
IsNotReached since upto at seen (PastDenied d) = Unit {0}
IsNotReached since upto at seen PastMemory = Unit {0}

module _ {M C R H K : Type 0} where
  -- the command of a receipt with its reply, if it was accepted
  abbrev pub accepted_by : C → Receipt M C R H K → List (C × R)
  accepted_by cmd r = if r.accepted then (cmd, r.reply) ∷ [] else []

module _ {M C R H K Q : Type 0} where
  -- the turns take the session from s to t, one after another
  abbrev pub Conversed : (M → C → (M × (R × K)) ⊎ R) → List M → (Q → ℕ) → SessionModel M C R H K → List (Turn M C R H K Q) → SessionModel M C R H K → Type 0
  Conversed step opening least s [] t = t ≡ s
  Conversed step opening least s (u ∷ us) t = (m : SessionModel M C R H K) × IsTurn step opening least s u m × Conversed step opening least m us t

  -- the versions that a turn reports
  abbrev pub versions_of : Turn M C R H K Q → List ℕ
  versions_of Passed = []
  versions_of (Decided cmd r) = r.version ∷ []
  versions_of (Undecided cmd f) = []
  versions_of (Unprepared cmd f) = []
  versions_of (Answered query v) = v.version ∷ []
  versions_of (Unanswered query f) = []
  versions_of (Recalled query at v w) = max v.version at ∷ []
  versions_of (Unread query at f) = []
  versions_of (Unrecalled query at f) = []
  versions_of (Compared query since upto v old new) = later_of upto v.version ∷ []
  versions_of (Reversed query since upto v old) = v.version ∷ []
  versions_of (UnreadSpan query since upto f) = []
  versions_of (Uncompared query since upto at f) = []

  -- the command that a turn accepted, with its reply
  abbrev pub accepted_of : Turn M C R H K Q → List (C × R)
  accepted_of Passed = []
  accepted_of (Decided cmd r) = accepted_by cmd r
  accepted_of (Undecided cmd f) = []
  accepted_of (Unprepared cmd f) = []
  accepted_of (Answered query v) = []
  accepted_of (Unanswered query f) = []
  accepted_of (Recalled query at v w) = []
  accepted_of (Unread query at f) = []
  accepted_of (Unrecalled query at f) = []
  accepted_of (Compared query since upto v old new) = []
  accepted_of (Reversed query since upto v old) = []
  accepted_of (UnreadSpan query since upto f) = []
  accepted_of (Uncompared query since upto at f) = []

  -- how many times a turn may wait: once for a command that comes to the desk, once for a query that asks for more entries than are known, once
  -- for a past version that is asked of the desk, and twice for two versions
  abbrev pub waits_of : (Q → ℕ) → ℕ → Turn M C R H K Q → ℕ
  waits_of least known Passed = 0
  waits_of least known (Decided cmd r) = 1
  waits_of least known (Undecided cmd f) = 1
  waits_of least known (Unprepared cmd f) = 0
  waits_of least known (Answered query v) = wait_if_later known (least query)
  waits_of least known (Unanswered query f) = wait_if_later known (least query)
  waits_of least known (Recalled query at v w) = wait_if_later known (least query) + 1
  waits_of least known (Unread query at f) = wait_if_later known (least query)
  waits_of least known (Unrecalled query at f) = wait_if_later known (least query) + 1
  waits_of least known (Compared query since upto v old new) = wait_if_later known (least query) + 2
  waits_of least known (Reversed query since upto v old) = wait_if_later known (least query) + 1
  waits_of least known (UnreadSpan query since upto f) = wait_if_later known (least query)
  waits_of least known (Uncompared query since upto at f) = wait_if_later known (least query) + 2

  -- how many entries are known after a turn: those known before it, or the version that it reports
  abbrev pub known_after : ℕ → Turn M C R H K Q → ℕ
  known_after known Passed = known
  known_after known (Decided cmd r) = max known r.version
  known_after known (Undecided cmd f) = known
  known_after known (Unprepared cmd f) = known
  known_after known (Answered query v) = max known v.version
  known_after known (Unanswered query f) = known
  known_after known (Recalled query at v w) = max known (max v.version at)
  known_after known (Unread query at f) = known
  known_after known (Unrecalled query at f) = known
  known_after known (Compared query since upto v old new) = max known (later_of upto v.version)
  known_after known (Reversed query since upto v old) = max known v.version
  known_after known (UnreadSpan query since upto f) = known
  known_after known (Uncompared query since upto at f) = known

  -- how many times the turns may wait, if this many entries are known before them
  abbrev pub waits_due : (Q → ℕ) → ℕ → List (Turn M C R H K Q) → ℕ
  waits_due least known [] = 0
  waits_due least known (u ∷ us) = waits_of least known u + waits_due least (known_after known u) us

-- how many times a query was denied, by its fault
abbrev pub view_denials : ViewFault → ℕ
view_denials (Ahead a) = 0
view_denials (Denied d) = 1
view_denials Memory = 0

-- and at a past version
abbrev pub past_denials : PastFault → ℕ
past_denials (PastAhead a) = 0
past_denials (PastDenied d) = 1
past_denials PastMemory = 0

module _ {M C R H K Q : Type 0} where
  -- how many times a turn was denied
  abbrev pub denials_of : Turn M C R H K Q → ℕ
  denials_of Passed = 0
  denials_of (Decided cmd r) = 0
  denials_of (Undecided cmd (Refused d)) = 1
  denials_of (Undecided cmd NoMemory) = 0
  denials_of (Unprepared cmd (Refused d)) = 1
  denials_of (Unprepared cmd NoMemory) = 0
  denials_of (Answered query v) = 0
  denials_of (Unanswered query f) = view_denials f
  denials_of (Recalled query at v w) = 0
  denials_of (Unread query at f) = view_denials f
  denials_of (Unrecalled query at f) = past_denials f
  denials_of (Compared query since upto v old new) = 0
  denials_of (Reversed query since upto v old) = 0
  denials_of (UnreadSpan query since upto f) = view_denials f
  denials_of (Uncompared query since upto at f) = past_denials f

  abbrev pub denials : List (Turn M C R H K Q) → ℕ
  denials [] = 0
  denials (u ∷ us) = denials_of u + denials us

-- no number is below the one before it, and the first is not below `from`
abbrev pub Rises : ℕ → List ℕ → Type 0
Rises from [] = Unit {0}
Rises from (n ∷ ns) = (from ≤ n) × Rises n ns

module _ {M C R H K : Type 0} where
  -- the command of an entry, and its reply
  abbrev pub decision : Entry M C R H K → C × R
  decision e = (e.cmd, e.reply)

  -- the last entry of the log is this session's, for this command, with this reply
  pub record IsLastEntry (number : ℕ) (log : List (Entry M C R H K)) (cmd : C) (reply : R) : Type 0 where
    pub before : List (Entry M C R H K)
    pub entry : Entry M C R H K
    pub last : log ≡ before ++ entry ∷ []
    pub session : entry.session ≡ number
    pub same_cmd : entry.cmd ≡ cmd
    pub same_reply : entry.reply ≡ reply

  -- a receipt at a log: its view is the state after the log; an accepted command is the last entry, and a refused one was refused at that state
  pub record IsDecidedAt (step : M → C → (M × (R × K)) ⊎ R) (opening : List M) (number : ℕ) (log : List (Entry M C R H K)) (cmd : C) (r : Receipt M C R H K) : Type 0 where
    pub version : r.version ≡ length log
    pub view : r.view.version ≡ length log
    pub reaches : Reaches step opening log (arc_value r.view.state)
    pub decided : ((r.accepted ≡ true) × IsLastEntry number log cmd r.reply) ⊎ ((r.accepted ≡ false) × (step (arc_value r.view.state) cmd ≡ inr r.reply))

module _ {M C R H K Q : Type 0} where
  -- What a turn reports is true of the entries that the session has seen in the end: its version is a number of these entries, and what it
  -- reports is so after the first `version` of them; at a past version it is so after that many of them.
  abbrev pub IsTrueTurn : (M → C → (M × (R × K)) ⊎ R) → List M → (Q → ℕ) → ℕ → List (Entry M C R H K) → Turn M C R H K Q → Type 0
  IsTrueTurn step opening least number seen Passed = Unit {0}
  IsTrueTurn step opening least number seen (Decided cmd r) = IsDecidedAt step opening number (take r.version seen) cmd r
  IsTrueTurn step opening least number seen (Undecided cmd f) = Unit {0}
  IsTrueTurn step opening least number seen (Unprepared cmd f) = Unit {0}
  IsTrueTurn step opening least number seen (Answered query v) = (least query ≤ v.version) × (v.version ≤ length seen) × Reaches step opening (take v.version seen) (arc_value v.state)
  IsTrueTurn step opening least number seen (Unanswered query f) = IsAheadOf (least query) (length seen) f
  IsTrueTurn step opening least number seen (Recalled query at v w) =
      (least query ≤ v.version) × (v.version ≤ length seen) × (w.version ≡ at) × (at ≤ length seen) × Reaches step opening (take at seen) (arc_value w.state)
  IsTrueTurn step opening least number seen (Unread query at f) = IsAheadOf (least query) (length seen) f
  IsTrueTurn step opening least number seen (Unrecalled query at f) = IsNotYet at (length seen) f
  IsTrueTurn step opening least number seen (Compared query since upto v old new) =
      (least query ≤ v.version) × (v.version ≤ length seen) × (since ≤ end_of upto v.version) × (end_of upto v.version ≤ length seen)
      × Reaches step opening (take since seen) (arc_value old.state) × Reaches step opening (take (end_of upto v.version) seen) (arc_value new.state)
  IsTrueTurn step opening least number seen (Reversed query since upto v old) = (least query ≤ v.version) × (v.version ≤ length seen) × (end_of upto v.version < since)
  IsTrueTurn step opening least number seen (UnreadSpan query since upto f) = IsAheadOf (least query) (length seen) f
  IsTrueTurn step opening least number seen (Uncompared query since upto at f) = IsNotReached since upto at (length seen) f

  abbrev pub AreTrueTurns : (M → C → (M × (R × K)) ⊎ R) → List M → (Q → ℕ) → ℕ → List (Entry M C R H K) → List (Turn M C R H K Q) → Type 0
  AreTrueTurns step opening least number seen [] = Unit {0}
  AreTrueTurns step opening least number seen (u ∷ us) = IsTrueTurn step opening least number seen u × AreTrueTurns step opening least number seen us

module _ {M C R K Q : Type 0} where
  -- one more turn may follow
  abbrev pub SnocLaw : (H : Type 0) → (M → C → (M × (R × K)) ⊎ R) → List M → (Q → ℕ) → Type 0
  SnocLaw H step opening least =
      (s m t : SessionModel M C R H K) (us : List (Turn M C R H K Q)) (u : Turn M C R H K Q)
      → Conversed step opening least s us m → IsTurn step opening least m u t → Conversed step opening least s (us ++ u ∷ []) t

  -- the versions never fall, and none is below what the session had seen
  abbrev pub VersionLaw : (H : Type 0) → (M → C → (M × (R × K)) ⊎ R) → List M → (Q → ℕ) → Type 0
  VersionLaw H step opening least =
      (s t : SessionModel M C R H K) (us : List (Turn M C R H K Q))
      → Conversed step opening least s us t → Rises (length s.seen) (flat_map versions_of us)

  -- the session's own entries are those before, and then the accepted commands, each once and in order
  abbrev pub OwnLaw : (H : Type 0) → (M → C → (M × (R × K)) ⊎ R) → List M → (Q → ℕ) → Type 0
  OwnLaw H step opening least =
      (s t : SessionModel M C R H K) (us : List (Turn M C R H K Q))
      → IsWithin s → Conversed step opening least s us t
      → IsWithin t × ((es : List (Entry M C R H K)) × (own_entries t ≡ own_entries s ++ es) × (map decision es ≡ flat_map accepted_of us))

  -- the count of waits rises by at most one for each command, one for each query that asks for more entries than are known, one for each past version, and two for
  -- each two versions
  abbrev pub WaitLaw : (H : Type 0) → (M → C → (M × (R × K)) ⊎ R) → List M → (Q → ℕ) → Type 0
  WaitLaw H step opening least =
      (s t : SessionModel M C R H K) (us : List (Turn M C R H K Q))
      → Conversed step opening least s us t → t.waits ≤ s.waits + waits_due least (length s.seen) us

  -- what each turn reports is true of the entries that the session has seen in the end
  abbrev pub TrueTurnsLaw : (H : Type 0) → (M → C → (M × (R × K)) ⊎ R) → List M → (Q → ℕ) → Type 0
  TrueTurnsLaw H step opening least =
      (s t : SessionModel M C R H K) (us : List (Turn M C R H K Q))
      → Conversed step opening least s us t → AreTrueTurns step opening least s.number t.seen us

  -- each denial is counted, and nothing else is
  abbrev pub DenialLaw : (H : Type 0) → (M → C → (M × (R × K)) ⊎ R) → List M → (Q → ℕ) → Type 0
  DenialLaw H step opening least =
      (s t : SessionModel M C R H K) (us : List (Turn M C R H K Q))
      → s.denied < 2 ^ 64 → Conversed step opening least s us t → t.denied ≡ min (s.denied + denials us) (2 ^ 64 - 1)
