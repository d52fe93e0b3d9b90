-- The bodies of responses that say their status alone.
use Rattle.std.proofs.Common.{◌≡◌, Bool, true, codes, refl}
use Rattle.std.specs.Fmt.{digits}
use Rattle.un_exchange.specs.declared.status.Status.TheVariants as status
use Rattle.un_exchange.specs.Pages.{http_body, memory_page, response_bytes}

pub text_200 : codes "{\"http\":200}" ≡ http_body status.Ok
unfolding digits
text_200 = refl

pub text_400 : codes "{\"http\":400}" ≡ http_body status.BadRequest
unfolding digits
text_400 = refl

pub text_404 : codes "{\"http\":404}" ≡ http_body status.NotFound
unfolding digits
text_404 = refl

pub text_405 : (get : Bool) → codes "{\"http\":405}" ≡ http_body (status.WrongMethod get)
unfolding digits
text_405 get = refl

pub text_409 : codes "{\"http\":409}" ≡ http_body status.Conflict
unfolding digits
text_409 = refl

pub text_411 : codes "{\"http\":411}" ≡ http_body status.LengthRequired
unfolding digits
text_411 = refl

pub text_413 : codes "{\"http\":413}" ≡ http_body status.TooLarge
unfolding digits
text_413 = refl

pub text_422 : codes "{\"http\":422}" ≡ http_body status.Unprocessable
unfolding digits
text_422 = refl

pub text_431 : codes "{\"http\":431}" ≡ http_body status.HeadTooLarge
unfolding digits
text_431 = refl

pub text_500 : codes "{\"http\":500}" ≡ http_body status.Denied
unfolding digits
text_500 = refl

pub text_501 : codes "{\"http\":501}" ≡ http_body status.NotImplemented
unfolding digits
text_501 = refl

pub text_503 : codes "{\"http\":503}" ≡ http_body status.Unavailable
unfolding digits
text_503 = refl

pub memory_response : response_bytes memory_page true ≡ codes "HTTP/1.1 503 Service Unavailable\r\nContent-Type: application/json\r\nContent-Length: 15\r\nConnection: close\r\n\r\n{\"memory\":true}"
unfolding digits
memory_response = refl
