-- The headers of a block as the code holds them: by their places in the block.
use Rattle.std.specs.Prelude.{ℕ, ◌==◌, Bool, ◌&&◌, List, length, map}
use Rattle.std.specs.List.{All}
use Rattle.httparse.specs.declared.spans.HeaderSpan.{HeaderSpan}
use Rattle.httparse.specs.Spans.{IsHeaderWithin, header_bytes}
use Rattle.un_http.specs.Head.{Header, is_number, number}

-- the places are in the block
abbrev pub AreWithin : List ℕ → List HeaderSpan → Type 0
AreWithin block headers = All (IsHeaderWithin (length block)) headers

-- the headers at these places
abbrev pub headers_at : List ℕ → List HeaderSpan → List Header
headers_at block headers = map (header_bytes block) headers

-- the text is a number, the same as the first one
abbrev pub is_same : List ℕ → List ℕ → Bool
is_same first text = is_number text && number text == number first
