-- What responses say, and their bytes.
use Rattle.std.specs.Prelude.{ℕ, Bool, List, ◌++◌, Option, Some, None, length, codes, decimal}
use Rattle.un_http.specs.Response.{response}
use Rattle.un_http.specs.declared.check.Check.{Check}
use Rattle.un_http.specs.declared.check.Check.TheVariants.{BadHead, ManyHeaders, NotSupported, LongBody, NoLength}
use Rattle.un_exchange.specs.declared.status.Status.{Status}
use Rattle.un_exchange.specs.declared.status.Status.TheVariants as status

-- the number of a status
abbrev pub number : Status → ℕ
number status.Ok = 200
number status.BadRequest = 400
number status.NotFound = 404
number (status.WrongMethod allow_get) = 405
number status.Conflict = 409
number status.LengthRequired = 411
number status.TooLarge = 413
number status.Unprocessable = 422
number status.HeadTooLarge = 431
number status.Denied = 500
number status.NotImplemented = 501
number status.Unavailable = 503

-- whether the route takes GET, for the status that names its method
abbrev pub allow : Status → Option Bool
allow status.Ok = None
allow status.BadRequest = None
allow status.NotFound = None
allow (status.WrongMethod allow_get) = Some allow_get
allow status.Conflict = None
allow status.LengthRequired = None
allow status.TooLarge = None
allow status.Unprocessable = None
allow status.HeadTooLarge = None
allow status.Denied = None
allow status.NotImplemented = None
allow status.Unavailable = None

-- what a response says
pub record PageModel : Type 0 where
  pub status : Status
  pub body : List ℕ

abbrev pub page : Status → List ℕ → PageModel
page status body = record { status = status; body = body }

-- the bytes of a response; `close` says that the link closes after it
abbrev pub response_bytes : PageModel → Bool → List ℕ
response_bytes page close = response (number page.status) page.body (length page.body) (allow page.status) close

-- a response that says its status alone
abbrev pub http_body : Status → List ℕ
http_body status = codes "{\"http\":" ++ decimal (number status) ++ codes "}"

abbrev pub http_page : Status → PageModel
http_page status = page status (http_body status)

-- out of memory
abbrev pub memory_page : PageModel
memory_page = page status.Unavailable (codes "{\"memory\":true}")

-- a query that asks for more entries than there are
abbrev pub conflict_page : List ℕ → PageModel
conflict_page body = page status.Conflict body

-- a query about two versions of which the first comes after the second
abbrev pub reversed_page : List ℕ → PageModel
reversed_page body = page status.Unprocessable body

-- the status of a check that a request failed
abbrev pub check_status : Check → Status
check_status BadHead = status.BadRequest
check_status ManyHeaders = status.HeadTooLarge
check_status NotSupported = status.NotImplemented
check_status LongBody = status.TooLarge
check_status NoLength = status.LengthRequired
