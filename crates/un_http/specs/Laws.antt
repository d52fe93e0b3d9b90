-- Laws of the requests in the bytes of a link.
use Rattle.std.specs.Prelude.{◌≡◌, ℕ, List, [], ◌∷◌, ◌++◌}
use Rattle.un_http.specs.Requests.{Request, IsRequest, End, EndsBy, AreRequests, AreFirst}

-- bytes that are read as requests in two ways have the same requests and the same end
abbrev pub OneReadingLaw : Type 0
OneReadingLaw = (bytes : List ℕ) (requests requests' : List Request) (end end' : End) → AreRequests bytes requests end → AreRequests bytes requests' end' → (requests ≡ requests') × (end ≡ end')

-- after some requests, one more request in the rest and the bytes after it is one more request of all the bytes
abbrev pub NextRequestLaw : Type 0
NextRequestLaw = (bytes more rest rest' : List ℕ) (requests : List Request) (request : Request) → AreFirst bytes requests rest → IsRequest (rest ++ more) request rest' → AreFirst (bytes ++ more) (requests ++ request ∷ []) rest'

-- after some requests, the end of the rest and the bytes after it is the end of all the bytes
abbrev pub LastEndLaw : Type 0
LastEndLaw = (bytes more rest : List ℕ) (requests : List Request) (end : End) → AreFirst bytes requests rest → EndsBy (rest ++ more) end → AreRequests (bytes ++ more) requests end
