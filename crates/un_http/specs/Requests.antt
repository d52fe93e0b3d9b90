-- The requests in the bytes of a link (RFC 9112, sections 2 and 3): a profile, where the head is a block and the body has a length.
use Rattle.std.specs.Prelude.{◌≡◌, ◌⊎◌, ℕ, ◌<◌, ◌≤◌, Bool, List, [], ◌∷◌, ◌++◌, length, None}
use Rattle.httparse.specs.Grammar.{RequestHead}
use Rattle.un_http.specs.declared.check.Check.{Check}
use Rattle.un_http.specs.declared.check.Check.TheVariants.{ManyHeaders}
use Rattle.un_http.specs.Block.{IsBlank, Begins, HasNoEnd, EndsAt}
use Rattle.un_http.specs.Head.{IsHead, Fails, headers_of, first_check, body_size, closes, path_of}

-- a request as it is answered
pub record Request : Type 0 where
  pub method : List ℕ
  pub path : List ℕ
  pub body : List ℕ
  pub close : Bool

-- a block: it begins with a byte that isn't blank, ends with its first empty line, and has at most 8,192 bytes
pub record IsBlock (block : List ℕ) : Type 0 where
  pub begins : Begins block
  pub ends : EndsAt block (length block)
  pub short : length block ≤ 8192

-- the bytes are blank ones, then this request, then the rest
pub record IsRequest (bytes : List ℕ) (request : Request) (rest : List ℕ) : Type 0 where
  pub blank : List ℕ
  pub block : List ℕ
  pub head : RequestHead
  pub cut : bytes ≡ blank ++ (block ++ (request.body ++ rest))
  pub is_blank : IsBlank blank
  pub is_block : IsBlock block
  pub is_head : IsHead block head
  pub passes : first_check head.method (headers_of head) ≡ None
  pub method : request.method ≡ head.method
  pub path : request.path ≡ path_of head.target
  pub size : length request.body ≡ body_size (headers_of head)
  pub close : request.close ≡ closes head.minor (headers_of head)

-- as many bytes as a block may have, and no end of it
pub record IsEndless (bytes : List ℕ) : Type 0 where
  pub begins : Begins bytes
  pub size : length bytes ≡ 8192
  pub endless : HasNoEnd 8192 bytes

-- these bytes fail the check: a block that does not end, or a block whose head fails it
abbrev pub IsRefused : List ℕ → Check → Type 0
IsRefused bytes check = ((check ≡ ManyHeaders) × IsEndless bytes) ⊎ (IsBlock bytes × Fails bytes check)

-- the bytes are blank ones, then what fails this check, then any rest
pub record FailsAt (bytes : List ℕ) (check : Check) : Type 0 where
  pub blank : List ℕ
  pub refused : List ℕ
  pub rest : List ℕ
  pub cut : bytes ≡ blank ++ (refused ++ rest)
  pub is_blank : IsBlank blank
  pub is_refused : IsRefused refused check

-- a block without its end
abbrev pub IsInBlock : List ℕ → Type 0
IsInBlock bytes = (length bytes < 8192) × HasNoEnd (length bytes) bytes

-- a block whose body isn't all there
pub record IsInBody (bytes : List ℕ) : Type 0 where
  pub block : List ℕ
  pub part : List ℕ
  pub head : RequestHead
  pub cut : bytes ≡ block ++ part
  pub is_block : IsBlock block
  pub is_head : IsHead block head
  pub passes : first_check head.method (headers_of head) ≡ None
  pub short : length part < body_size (headers_of head)

-- the bytes end inside a request, of which there are so many bytes
pub record IsCut (bytes : List ℕ) (count : ℕ) : Type 0 where
  pub blank : List ℕ
  pub inside : List ℕ
  pub cut : bytes ≡ blank ++ inside
  pub is_blank : IsBlank blank
  pub begins : Begins inside
  pub count_is : length inside ≡ count
  pub is_inside : IsInBlock inside ⊎ IsInBody inside

-- how the requests end
pub data End : Type 0 where
  Failed : Check → End
  Closed : End
  Cut : ℕ → End

abbrev pub EndsBy : List ℕ → End → Type 0
EndsBy bytes (Failed check) = FailsAt bytes check
EndsBy bytes Closed = IsBlank bytes
EndsBy bytes (Cut count) = IsCut bytes count

-- the bytes are these requests, one after another, and end so
abbrev pub AreRequests : List ℕ → List Request → End → Type 0
AreRequests bytes [] end = EndsBy bytes end
AreRequests bytes (request ∷ requests) end = (rest : List ℕ) × IsRequest bytes request rest × AreRequests rest requests end

-- the bytes are these requests, one after another, and then the rest
abbrev pub AreFirst : List ℕ → List Request → List ℕ → Type 0
AreFirst bytes [] rest = bytes ≡ rest
AreFirst bytes (request ∷ requests) rest = (next : List ℕ) × IsRequest bytes request next × AreFirst next requests rest
