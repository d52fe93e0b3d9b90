-- What the next answer of an inbox says of the bytes that it held and of those that were read.
use Rattle.std.specs.Prelude.{ℕ, Bool, List, ◌++◌, Option, ⊤}
use Rattle.std.specs.Io.KnownBytes.{Consumes, IsAtEnd}
use Rattle.un_http.specs.declared.inbox.Next.{Next}
use Rattle.un_http.specs.declared.inbox.Next.TheVariants.{Request as Given, Failed, Closed, Cut, ReadFault}
use Rattle.un_http.specs.Block.{IsBlank}
use Rattle.un_http.specs.Requests.{Request, IsRequest, FailsAt, IsCut}
use Rattle.un_http.specs.States.{Holding}

-- the request that the inbox gives
abbrev pub given : Holding → Bool → Request
given inbox close = record { method = inbox.method; path = inbox.path; body = inbox.body; close = close }

-- these bytes begin with the request that the inbox gives, and it holds the rest of them; or they fail a check; or they end
abbrev pub Answers : List ℕ → Holding → Option (List ℕ) → Next → Type 0
Answers bytes inbox left (Given head) = IsRequest bytes (given inbox head.close) inbox.held
Answers bytes inbox left (Failed check) = FailsAt bytes check
Answers bytes inbox left Closed = IsBlank bytes × IsAtEnd left
Answers bytes inbox left (Cut count) = IsCut bytes count × IsAtEnd left
Answers bytes inbox left ReadFault = ⊤

-- bytes of the link were read, and this answers them and those that the inbox held before them
abbrev pub AnswersNext : Holding → Holding → Option (List ℕ) → Option (List ℕ) → Next → Type 0
AnswersNext inbox inbox' left left' result = (read : List ℕ) × (Consumes left left' read × Answers (inbox.held ++ read) inbox' left' result)
