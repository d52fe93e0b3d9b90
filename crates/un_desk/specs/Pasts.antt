-- Why a call returns no view of a past version.
use Rattle.std.specs.Prelude.{◌≡◌, ◌<◌, ℕ, length}
use Rattle.un_publish.specs.Models.{SessionModel}
use Rattle.un_publish.specs.Faults.{IsDenied}
use Rattle.un_publish.specs.declared.session.Denied.{Denied}
use Rattle.un_publish.specs.declared.session.Denied.TheVariants.{NoCopy, Book, Long}
use Rattle.un_journal.specs.Books.{IsAhead}
use Rattle.un_desk.specs.declared.past.PastFault.{PastFault}
use Rattle.un_desk.specs.declared.past.PastFault.TheVariants.{Ahead, Denied as Refused, Memory}

module _ {M C R H K : Type 0} where
  -- a session that was not taught, after it may have seen more
  abbrev pub IsNotTaughtThen : SessionModel M C R H K → SessionModel M C R H K → Denied → Type 0
  IsNotTaughtThen s t NoCopy = IsDenied s t
  IsNotTaughtThen s t (Book book own) = ⊥
  IsNotTaughtThen s t (Long seen n) = IsDenied s t × (seen ≡ length t.seen) × (n < seen)

  -- the log was shorter than the version, and all of it was seen; or the session was not taught; or memory ran out
  abbrev pub IsPastFault : SessionModel M C R H K → SessionModel M C R H K → ℕ → PastFault → Type 0
  IsPastFault s t at (Ahead a) = IsAhead t.seen at a × (t ≡ record s { seen = t.seen })
  IsPastFault s t at (Refused d) = IsNotTaughtThen s t d
  IsPastFault s t at Memory = t ≡ record s { seen = t.seen }
