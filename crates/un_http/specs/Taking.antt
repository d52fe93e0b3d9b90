-- What reading the next request finds: a request, which the kept bytes begin with, or an end.
use Rattle.std.specs.Prelude.{◌≡◌, ◌⊎◌, ℕ, ◌+◌, ◌≤◌, List, ◌++◌, length, take, Option, ⊤}
use Rattle.std.specs.Io.KnownBytes.{Consumes, IsAtEnd}
use Rattle.un_http.specs.declared.check.Check.{Check}
use Rattle.un_http.specs.declared.head.Passed.{Passed}
use Rattle.un_http.specs.declared.take.Taken.{Taken}
use Rattle.un_http.specs.declared.take.Taken.TheVariants.{Request as TookRequest, Failed, Closed, Cut, ReadFault}
use Rattle.un_http.specs.Block.{IsBlank, Begins, EndsAt}
use Rattle.un_http.specs.Passed.{IsPassed}
use Rattle.un_http.specs.Requests.{IsRefused, FailsAt, IsInBlock, IsInBody, IsCut}

-- the bytes begin with a block of this length and its body
pub record HoldsRequest (bytes : List ℕ) (passed : Passed) (size : ℕ) : Type 0 where
  pub begins : Begins bytes
  pub ends : EndsAt bytes size
  pub short : size ≤ 8192
  pub passed_head : IsPassed (take size bytes) passed
  pub whole : size + passed.size ≤ length bytes

-- the bytes begin with what fails this check
pub record RefusedAt (bytes : List ℕ) (check : Check) : Type 0 where
  pub refused : List ℕ
  pub rest : List ℕ
  pub cut : bytes ≡ refused ++ rest
  pub is_refused : IsRefused refused check

-- what is found where the bytes begin a request
abbrev pub TakesBegun : List ℕ → Option (List ℕ) → Taken → Type 0
TakesBegun bytes left (TookRequest passed size) = HoldsRequest bytes passed size
TakesBegun bytes left (Failed check) = RefusedAt bytes check
TakesBegun bytes left Closed = ⊥
TakesBegun bytes left (Cut count) = (length bytes ≡ count) × Begins bytes × (IsInBlock bytes ⊎ IsInBody bytes) × IsAtEnd left
TakesBegun bytes left ReadFault = ⊤

-- what is found in all of these bytes, where those after the blank ones are kept
abbrev pub Takes : List ℕ → List ℕ → Option (List ℕ) → Taken → Type 0
Takes all bytes left (TookRequest passed size) = (blank : List ℕ) × (IsBlank blank × (all ≡ blank ++ bytes) × HoldsRequest bytes passed size)
Takes all bytes left (Failed check) = FailsAt all check
Takes all bytes left Closed = IsBlank all × IsAtEnd left
Takes all bytes left (Cut count) = IsCut all count × IsAtEnd left
Takes all bytes left ReadFault = ⊤

-- bytes of the link were read, and this is found in the kept bytes and in those that were read
abbrev pub TakesNext : List ℕ → List ℕ → Option (List ℕ) → Option (List ℕ) → Taken → Type 0
TakesNext bytes bytes' left left' result = (read : List ℕ) × (Consumes left left' read × Takes (bytes ++ read) bytes' left' result)
