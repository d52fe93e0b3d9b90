-- What the reads of a link append to the bytes that have come.
use Rattle.std.specs.Prelude.{◌≡◌, ℕ, ◌+◌, ◌<◌, ◌≤◌, List, [], ◌++◌, length, Option, ⊤}
use Rattle.std.specs.Io.KnownBytes.{Consumes, IsAtEnd}
use Rattle.un_io.specs.declared.source.Got.{Got}
use Rattle.un_io.specs.declared.source.Got.TheVariants.{Bytes, End, Failed}
use Rattle.un_http.specs.declared.fill.Filled.{Filled}
use Rattle.un_http.specs.declared.fill.Filled.TheVariants.{Ready, End as NoMore, Failed as ReadFailed}
use Rattle.un_http.specs.declared.fill.Found.{Found}
use Rattle.un_http.specs.declared.fill.Found.TheVariants.{Block, TooLong, End as NoEnd, Failed as Unread}
use Rattle.un_http.specs.Block.{IsBlank, Begins, HasNoEnd, EndsAt}

-- the bytes that were read are appended
abbrev pub More : Option (List ℕ) → Option (List ℕ) → List ℕ → List ℕ → Type 0
More left left' bytes bytes' = (read : List ℕ) × (Consumes left left' read × (bytes' ≡ bytes ++ read))

-- what one read appended
abbrev pub Appended : List ℕ → List ℕ → Option (List ℕ) → ℕ → Got → Type 0
Appended bytes bytes' left most (Bytes count) = (0 < count) × (count ≤ most) × (length bytes' ≡ length bytes + count)
Appended bytes bytes' left most End = (bytes' ≡ bytes) × IsAtEnd left
Appended bytes bytes' left most Failed = bytes' ≡ bytes

-- the bytes that were read are appended, and blank ones are gone from the front
pub record Skips (left left' : Option (List ℕ)) (bytes bytes' : List ℕ) : Type 0 where
  pub read : List ℕ
  pub blank : List ℕ
  pub consumed : Consumes left left' read
  pub cut : bytes ++ read ≡ blank ++ bytes'
  pub is_blank : IsBlank blank

-- a request begins, or there is none
abbrev pub BeginsBy : List ℕ → Option (List ℕ) → Filled → Type 0
BeginsBy bytes left Ready = Begins bytes
BeginsBy bytes left NoMore = (bytes ≡ []) × IsAtEnd left
BeginsBy bytes left ReadFailed = ⊤

-- there are so many bytes, or the input ended first
abbrev pub FillsBy : List ℕ → Option (List ℕ) → ℕ → Filled → Type 0
FillsBy bytes left need Ready = need ≤ length bytes
FillsBy bytes left need NoMore = (length bytes < need) × IsAtEnd left
FillsBy bytes left need ReadFailed = ⊤

-- the length of the block, or why it has none
abbrev pub Finds : List ℕ → Option (List ℕ) → Found → Type 0
Finds bytes left (Block size) = EndsAt bytes size × (size ≤ 8192)
Finds bytes left TooLong = (8192 ≤ length bytes) × HasNoEnd 8192 bytes
Finds bytes left NoEnd = (length bytes < 8192) × HasNoEnd (length bytes) bytes × IsAtEnd left
Finds bytes left Unread = ⊤
