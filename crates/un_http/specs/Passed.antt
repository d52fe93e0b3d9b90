-- What is found in a block that passes all checks.
use Rattle.std.specs.Prelude.{◌≡◌, ◌≤◌, List, ℕ, None, length}
use Rattle.httparse.specs.Grammar.{RequestHead}
use Rattle.httparse.specs.Spans.{IsWithin, span_bytes}
use Rattle.un_http.specs.declared.head.Passed.{Passed}
use Rattle.httparse.specs.declared.spans.RequestSpans.{RequestSpans}
use Rattle.un_http.specs.Head.{Header, IsHead, headers_of, first_check, body_size, closes, path_of}

-- what is kept of this head: places in the block, the length of the body, and whether the link closes
pub record IsPassedOf (block : List ℕ) (passed : Passed) (head : RequestHead) : Type 0 where
  pub is_head : IsHead block head
  pub passes : first_check head.method (headers_of head) ≡ None
  pub method : span_bytes block passed.method ≡ head.method
  pub path : span_bytes block passed.path ≡ path_of head.target
  pub method_within : IsWithin (length block) passed.method
  pub path_within : IsWithin (length block) passed.path
  pub size : passed.size ≡ body_size (headers_of head)
  pub small : passed.size ≤ 1048576
  pub close : passed.close ≡ closes head.minor (headers_of head)

abbrev pub IsPassed : List ℕ → Passed → Type 0
IsPassed block passed = (head : RequestHead) × IsPassedOf block passed head

-- the same, of a head of which the headers and the places of its parts are known
pub record IsChecked (block : List ℕ) (headers : List Header) (spans : RequestSpans) (passed : Passed) : Type 0 where
  pub passes : first_check (span_bytes block spans.method) headers ≡ None
  pub method : passed.method ≡ spans.method
  pub path : span_bytes block passed.path ≡ path_of (span_bytes block spans.path)
  pub path_within : IsWithin (length block) passed.path
  pub size : passed.size ≡ body_size headers
  pub small : passed.size ≤ 1048576
  pub close : passed.close ≡ closes spans.version headers
