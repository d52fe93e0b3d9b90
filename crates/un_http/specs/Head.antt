-- What a request's head asks for, and which check refuses it.
use Rattle.std.specs.Prelude.{◌≡◌, ◌⊎◌, ℕ, ◌==◌, Bool, ◌&&◌, ◌||◌, not, nat_lt, if◌then◌else◌, List, [], ◌∷◌, length, map, Option, Some, None, codes}
use Rattle.std.specs.List.{filter, list_all, list_any, before_first, slice_split}
use Rattle.std.specs.Char.{is_ascii_digit}
use Rattle.std.specs.Str.{bytes_eq, str_eq_ignore_ascii_case}
use Rattle.std.specs.Str.Parse.{digits_value}
use Rattle.httparse.specs.Grammar.{RequestHead, ReadsRequest, trim_ows}
use Rattle.httparse.specs.Spans.{name_and_value}
use Rattle.un_http.specs.declared.check.Check.{Check}
use Rattle.un_http.specs.declared.check.Check.TheVariants.{BadHead, ManyHeaders, NotSupported, LongBody, NoLength}

-- a header's name, and its value without the white space around it
abbrev pub Header : Type 0
Header = List ℕ × List ℕ

abbrev pub headers_of : RequestHead → List Header
headers_of head = map name_and_value head.fields

-- names are compared without regard to ASCII case
abbrev pub is_named : List ℕ → Header → Bool
is_named name header = str_eq_ignore_ascii_case header.0 name

abbrev pub has : List ℕ → List Header → Bool
has name headers = list_any (is_named name) headers

-- the values of the headers of a name
abbrev pub values : List ℕ → List Header → List (List ℕ)
values name headers = map (λ header. header.1) (filter (is_named name) headers)

-- one or more decimal digits, and their number
abbrev pub is_number : List ℕ → Bool
is_number text = nat_lt 0 (length text) && list_all is_ascii_digit text

abbrev pub number : List ℕ → ℕ
number text = digits_value 10 text

-- the number of the first of some texts; none says 0
abbrev pub first_number : List (List ℕ) → ℕ
first_number [] = 0
first_number (text ∷ texts) = number text

-- each text is a number, and no two numbers differ
abbrev pub agree : List (List ℕ) → Bool
agree texts = list_all (λ text. is_number text && number text == first_number texts) texts

-- the lengths that a head gives (RFC 9112, section 6.2)
abbrev pub lengths : List Header → List (List ℕ)
lengths headers = values (codes "content-length") headers

-- how many bytes the body has
abbrev pub body_size : List Header → ℕ
body_size headers = first_number (lengths headers)

-- POST without a length (RFC 9112, section 6.3)
abbrev pub wants_length : List ℕ → List Header → Bool
wants_length method headers = bytes_eq method (codes "POST") && length (lengths headers) == 0

-- the first check that the lengths fail
abbrev pub length_check : List ℕ → List Header → Option Check
length_check method headers =
    if not (agree (lengths headers)) then Some BadHead
    else if nat_lt 1048576 (body_size headers) then Some LongBody
    else if wants_length method headers then Some NoLength
    else None

-- the first check that a head of this method with these headers fails
abbrev pub first_check : List ℕ → List Header → Option Check
first_check method headers =
    if nat_lt 32 (length headers) then Some ManyHeaders
    else if has (codes "transfer-encoding") headers || has (codes "expect") headers then Some NotSupported
    else length_check method headers

-- close is an item of a list by commas
abbrev pub lists_close : List ℕ → Bool
lists_close text = list_any (λ item. str_eq_ignore_ascii_case (trim_ows item) (codes "close")) (slice_split (λ byte. byte == 44) text)

-- a Connection header has close in its list
abbrev pub asks_close : List Header → Bool
asks_close headers = list_any lists_close (values (codes "connection") headers)

-- the link closes after the response (RFC 9112, section 9.3)
abbrev pub closes : ℕ → List Header → Bool
closes minor headers = minor == 0 || asks_close headers

-- the target up to the first question mark
abbrev pub path_of : List ℕ → List ℕ
path_of target = before_first (λ byte. byte == 63) target

-- the block is this head at its whole length, by the grammar of httparse (RFC 9112, sections 3 and 5)
abbrev pub IsHead : List ℕ → RequestHead → Type 0
IsHead block head = ReadsRequest block head []

-- the block fails this check: it is no head, or its head fails it first
abbrev pub Fails : List ℕ → Check → Type 0
Fails block check =
    ((check ≡ BadHead) × ((head : RequestHead) → ¬ (IsHead block head)))
    ⊎ ((head : RequestHead) × IsHead block head × (first_check head.method (headers_of head) ≡ Some check))
