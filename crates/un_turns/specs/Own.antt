-- The entries that are a session's own.
use Rattle.std.specs.Prelude.{◌≤◌, List, length, take}
use Rattle.un_machine.specs.declared.Entry.{Entry}
use Rattle.un_machine.specs.Logs.{entries_of}
use Rattle.un_publish.specs.Models.{SessionModel}

module _ {M C R H K : Type 0} where
  -- the first `own` of the entries with the session's number, among those that it has seen
  abbrev pub own_entries : SessionModel M C R H K → List (Entry M C R H K)
  own_entries s = take s.own (entries_of s.number s.seen)

  -- the session counts at most as many entries as its own as it has seen with its number
  abbrev pub IsWithin : SessionModel M C R H K → Type 0
  IsWithin s = s.own ≤ length (entries_of s.number s.seen)
