-- Responses (RFC 9112, section 4).
use Rattle.std.specs.Prelude.{ℕ, ◌==◌, Bool, true, false, if◌then◌else◌, List, [], ◌∷◌, ◌++◌, Option, Some, None, codes, decimal}
use Rattle.std.specs.List.{list_any}

-- the statuses that are answered
abbrev pub is_status : ℕ → Bool
is_status status = list_any (λ known. known == status) (200 ∷ 400 ∷ 404 ∷ 405 ∷ 409 ∷ 411 ∷ 413 ∷ 422 ∷ 431 ∷ 500 ∷ 501 ∷ 503 ∷ [])

-- the phrase of a status
abbrev pub phrase : ℕ → List ℕ
phrase status =
    if status == 200 then codes "OK"
    else if status == 400 then codes "Bad Request"
    else if status == 404 then codes "Not Found"
    else if status == 405 then codes "Method Not Allowed"
    else if status == 409 then codes "Conflict"
    else if status == 411 then codes "Length Required"
    else if status == 413 then codes "Content Too Large"
    else if status == 422 then codes "Unprocessable Content"
    else if status == 431 then codes "Request Header Fields Too Large"
    else if status == 500 then codes "Internal Server Error"
    else if status == 501 then codes "Not Implemented"
    else if status == 503 then codes "Service Unavailable"
    else []

-- the line that names the method that a route takes, where it is asked for
abbrev pub allow_line : Option Bool → List ℕ
allow_line None = []
allow_line (Some true) = codes "Allow: GET\r\n"
allow_line (Some false) = codes "Allow: POST\r\n"

-- the line that says that the link closes after the response
abbrev pub close_line : Bool → List ℕ
close_line true = codes "Connection: close\r\n"
close_line false = []

-- a response up to its body, which has so many bytes
abbrev pub response_head : ℕ → ℕ → Option Bool → Bool → List ℕ
response_head status size allow close =
    codes "HTTP/1.1 " ++ decimal status ++ codes " " ++ phrase status
    ++ codes "\r\nContent-Type: application/json\r\nContent-Length: " ++ decimal size ++ codes "\r\n"
    ++ allow_line allow ++ close_line close ++ codes "\r\n"

-- a whole response
abbrev pub response : ℕ → List ℕ → ℕ → Option Bool → Bool → List ℕ
response status body size allow close = response_head status size allow close ++ body
