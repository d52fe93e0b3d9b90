-- What one request does to the session that handles it.
use Rattle.std.specs.Prelude.{◌≡◌, ◌⊎◌, ◌≤◌, ◌<◌, ℕ, max, List, length, Option, unwrap_or}
use Rattle.std.specs.Arc.{arc_value}
use mathlib.Core.List.{IsPrefix}
use Rattle.un_machine.specs.Logs.{Reaches}
use Rattle.un_publish.specs.Models.{SessionModel}
use Rattle.un_publish.specs.Faults.{IsReadFault}
use Rattle.un_publish.specs.declared.session.View.{View}
use Rattle.un_publish.specs.declared.session.SessionFault.{SessionFault}
use Rattle.un_publish.specs.declared.session.SessionFault.TheVariants.{Denied as Refused, Memory}
use Rattle.un_journal.specs.declared.receipt.Receipt.{Receipt}
use Rattle.un_desk.specs.declared.desk.ViewFault.{ViewFault}
use Rattle.un_desk.specs.declared.desk.ViewFault.TheVariants.{Denied as NotTaught, Memory as NoMemory}
use Rattle.un_desk.specs.Desks.{IsSubmitted, IsDeskFault, counted}
use Rattle.un_desk.specs.Views.{IsViewFault}
use Rattle.un_desk.specs.declared.past.PastFault.{PastFault}
use Rattle.un_desk.specs.Pasts.{IsPastFault}
use Rattle.un_asof.specs.Pasts.{IsAfter}

-- A request that was handled, and its outcome.
pub data Turn (M C R H K Q : Type 0) : Type 0 where
  -- it asked nothing of the session, or memory ran out before it could
  Passed : Turn M C R H K Q
  -- a command that was accepted or refused
  Decided : C → Receipt M C R H K → Turn M C R H K Q
  -- a command that was not decided
  Undecided : C → SessionFault → Turn M C R H K Q
  -- a command that was not decided: the session could not read, or memory ran out, while work for it was done in advance
  Unprepared : C → SessionFault → Turn M C R H K Q
  -- a query that was answered at a view
  Answered : Q → View M → Turn M C R H K Q
  -- a query that was not answered
  Unanswered : Q → ViewFault → Turn M C R H K Q
  -- a query that was answered at a past version: the view that was read first, and the view of that version
  Recalled : Q → ℕ → View M → View M → Turn M C R H K Q
  -- a query at a past version, before which nothing could be read
  Unread : Q → ℕ → ViewFault → Turn M C R H K Q
  -- a query at a past version that was not answered after the first view was read
  Unrecalled : Q → ℕ → PastFault → Turn M C R H K Q
  -- a query about two versions that was answered: the view that was read first, and the views of the two versions
  Compared : Q → ℕ → Option ℕ → View M → View M → View M → Turn M C R H K Q
  -- a query about two versions of which the first comes after the second: the view that was read first, and that of the first version
  Reversed : Q → ℕ → Option ℕ → View M → View M → Turn M C R H K Q
  -- a query about two versions, before which nothing could be read
  UnreadSpan : Q → ℕ → Option ℕ → ViewFault → Turn M C R H K Q
  -- a query about two versions that was not answered after the first view was read: the version that was not reached
  Uncompared : Q → ℕ → Option ℕ → ℕ → PastFault → Turn M C R H K Q

-- the second of two versions, which is that of a view if no other is asked for
abbrev pub end_of : Option ℕ → ℕ → ℕ
end_of upto version = unwrap_or upto version

-- the version that is reported with an answer about two versions: that of the view, or the second one if it is greater
abbrev pub later_of : Option ℕ → ℕ → ℕ
later_of upto version = max version (end_of upto version)

-- the fault of a read, as the fault of a view
abbrev pub view_fault : SessionFault → ViewFault
view_fault (Refused d) = NotTaught d
view_fault Memory = NoMemory

module _ {M C R H K : Type 0} where
  -- a view that a session reads by itself
  pub record IsRead (step : M → C → (M × (R × K)) ⊎ R) (opening : List M) (s t : SessionModel M C R H K) (v : View M) : Type 0 where
    pub seen : IsPrefix s.seen t.seen
    pub version : v.version ≡ length t.seen
    pub reaches : Reaches step opening t.seen (arc_value v.state)
    pub kept : t ≡ record s { seen = t.seen }

  -- a read whose view is older than what is asked for
  pub record IsOlder (step : M → C → (M × (R × K)) ⊎ R) (opening : List M) (s t : SessionModel M C R H K) (least : ℕ) : Type 0 where
    pub view : View M
    pub read : IsRead step opening s t view
    pub older : view.version < least

  -- a query that was answered: by a read alone if its view is late enough, and otherwise by the desk
  abbrev pub IsAnswered : (M → C → (M × (R × K)) ⊎ R) → List M → SessionModel M C R H K → SessionModel M C R H K → ℕ → View M → Type 0
  IsAnswered step opening s t least v =
      (least ≤ v.version) × (IsRead step opening s t v ⊎ ((m : SessionModel M C R H K) × IsOlder step opening s m least × IsRead step opening (counted m) t v))

  -- a query that was not answered: the read failed; or its view is older than what is asked for, and the desk returned none
  abbrev pub IsUnanswered : (M → C → (M × (R × K)) ⊎ R) → List M → SessionModel M C R H K → SessionModel M C R H K → ℕ → ViewFault → Type 0
  IsUnanswered step opening s t least f =
      ((e : SessionFault) × (f ≡ view_fault e) × IsReadFault s t e × IsPrefix s.seen t.seen)
      ⊎ ((m : SessionModel M C R H K) × IsOlder step opening s m least × IsViewFault (counted m) t least f × IsPrefix m.seen t.seen)

module _ {M C R H K : Type 0} where
  -- a view of a past version, which the desk gave
  pub record IsPastView (step : M → C → (M × (R × K)) ⊎ R) (opening : List M) (s t : SessionModel M C R H K) (at : ℕ) (v : View M) : Type 0 where
    pub seen : IsPrefix s.seen t.seen
    pub version : v.version ≡ at
    pub after : IsAfter step opening t.seen (at, arc_value v.state)
    pub kept : t ≡ record (counted s) { seen = t.seen }

  -- a query that was answered at a past version: after a view as for any query
  pub record IsRecalled (step : M → C → (M × (R × K)) ⊎ R) (opening : List M) (s t : SessionModel M C R H K) (least at : ℕ) (v w : View M) : Type 0 where
    pub between : SessionModel M C R H K
    pub first : IsAnswered step opening s between least v
    pub past : IsPastView step opening between t at w

  -- a query that was not answered at a past version, after a view as for any query
  pub record IsUnrecalled (step : M → C → (M × (R × K)) ⊎ R) (opening : List M) (s t : SessionModel M C R H K) (least at : ℕ) (f : PastFault) : Type 0 where
    pub between : SessionModel M C R H K
    pub view : View M
    pub first : IsAnswered step opening s between least view
    pub fault : IsPastFault (counted between) t at f
    pub seen : IsPrefix between.seen t.seen

module _ {M C R H K : Type 0} where
  -- a query that was answered about two versions: after a view as for any query, and that of the first version
  pub record IsCompared (step : M → C → (M × (R × K)) ⊎ R) (opening : List M) (s t : SessionModel M C R H K) (least since : ℕ) (upto : Option ℕ) (v old new : View M) : Type 0 where
    pub between : SessionModel M C R H K
    pub older : IsRecalled step opening s between least since v old
    pub order : since ≤ end_of upto v.version
    pub newer : IsPastView step opening between t (end_of upto v.version) new

  -- a query about two versions of which the first, which was reached, comes after the second
  pub record IsReversed (step : M → C → (M × (R × K)) ⊎ R) (opening : List M) (s t : SessionModel M C R H K) (least since : ℕ) (upto : Option ℕ) (v old : View M) : Type 0 where
    pub older : IsRecalled step opening s t least since v old
    pub order : end_of upto v.version < since

  -- a query about two versions of which the first was reached, and the second was not
  pub record IsUnreached (step : M → C → (M × (R × K)) ⊎ R) (opening : List M) (s t : SessionModel M C R H K) (least since : ℕ) (upto : Option ℕ) (at : ℕ) (f : PastFault) : Type 0 where
    pub between : SessionModel M C R H K
    pub view : View M
    pub old : View M
    pub older : IsRecalled step opening s between least since view old
    pub is_end : at ≡ end_of upto view.version
    pub fault : IsPastFault (counted between) t at f
    pub seen : IsPrefix between.seen t.seen

  -- a query about two versions of which one was not reached
  abbrev pub IsUncompared : (M → C → (M × (R × K)) ⊎ R) → List M → SessionModel M C R H K → SessionModel M C R H K → ℕ → ℕ → Option ℕ → ℕ → PastFault → Type 0
  IsUncompared step opening s t least since upto at f =
      ((at ≡ since) × IsUnrecalled step opening s t least since f) ⊎ IsUnreached step opening s t least since upto at f

module _ {M C R H K Q : Type 0} where
  -- what a request did to the session. `least` is the number of entries that a query asks for at least
  abbrev pub IsTurn : (M → C → (M × (R × K)) ⊎ R) → List M → (Q → ℕ) → SessionModel M C R H K → Turn M C R H K Q → SessionModel M C R H K → Type 0
  IsTurn step opening least s Passed t = t ≡ s
  IsTurn step opening least s (Decided cmd r) t = IsSubmitted step opening s t cmd r
  IsTurn step opening least s (Undecided cmd f) t = IsDeskFault (counted s) t f × IsPrefix s.seen t.seen
  IsTurn step opening least s (Unprepared cmd f) t = IsReadFault s t f × IsPrefix s.seen t.seen
  IsTurn step opening least s (Answered query v) t = IsAnswered step opening s t (least query) v
  IsTurn step opening least s (Unanswered query f) t = IsUnanswered step opening s t (least query) f
  IsTurn step opening least s (Recalled query at v w) t = IsRecalled step opening s t (least query) at v w
  IsTurn step opening least s (Unread query at f) t = IsUnanswered step opening s t (least query) f
  IsTurn step opening least s (Unrecalled query at f) t = IsUnrecalled step opening s t (least query) at f
  IsTurn step opening least s (Compared query since upto v old new) t = IsCompared step opening s t (least query) since upto v old new
  IsTurn step opening least s (Reversed query since upto v old) t = IsReversed step opening s t (least query) since upto v old
  IsTurn step opening least s (UnreadSpan query since upto f) t = IsUnanswered step opening s t (least query) f
  IsTurn step opening least s (Uncompared query since upto at f) t = IsUncompared step opening s t (least query) since upto at f
