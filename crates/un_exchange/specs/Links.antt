-- What holds of a link: the requests in the bytes that were read, and the responses in those that were written.
use Rattle.std.specs.Prelude.{◌≡◌, ◌⊎◌, ℕ, List, [], ◌∷◌, ◌++◌, Option, Some, ⊤, MatchOption}
use Rattle.std.specs.List.{All}
use Rattle.std.specs.Io.KnownBytes.{Consumes, Appends, IsAtEnd}
use Rattle.un_io.specs.Outside.{AppendsPrefix}
use Rattle.un_publish.specs.Models.{SessionModel}
use Rattle.un_http.specs.Block.{IsBlank}
use Rattle.un_http.specs.Requests.{AreFirst, FailsAt, IsCut}
use Rattle.un_http.specs.declared.check.Check.{Check}
use Rattle.un_turns.specs.declared.request.Span.{Span}
use Rattle.un_turns.specs.Served.{Answering, AreServed, answering}
use Rattle.un_turns.specs.Truths.{IsTruthful}
use Rattle.un_exchange.specs.declared.asked.Asked.{Asked}
use Rattle.un_exchange.specs.declared.end.LinkEnd.{LinkEnd}
use Rattle.un_exchange.specs.declared.end.LinkEnd.TheVariants as ending
use Rattle.un_exchange.specs.Pages.{http_page, check_status}
use Rattle.un_exchange.specs.Exchanges.{Printing, Exchange, IsAsked, end_after, all_bytes, received, requests, responses, AreOpen}
use Rattle.un_exchange.specs.Writing.{WritesMemoryPage, page_bytes, check_end}

module _ {M C R H K Q A : Type 0} where
  -- The exchanges of a link so far: the bytes that were read are their requests and then what is held; the session handled them in order; none
  -- closes the link; and the bytes that were written are their responses.
  pub record HasExchanged (step : M → C → (M × (R × K)) ⊎ R) (opening : List M) (least : Q → ℕ) (answer : Answering M Q A) (asks : List ℕ → List ℕ → List ℕ → Asked C Q → Type 0) (p : Printing R A)
      (s t : SessionModel M C R H K) (left left' taken taken' : Option (List ℕ)) (held : List ℕ) : Type 0 where
    pub read : List ℕ
    pub exchanges : List (Exchange C R Q A)
    pub consumed : Consumes left left' read
    pub first : AreFirst read (received exchanges) held
    pub asked : All (IsAsked asks) exchanges
    pub served : AreServed step opening least answer s (requests exchanges) (responses exchanges) t
    pub goes_on : AreOpen exchanges
    pub written : Appends taken taken' (all_bytes p exchanges)

-- no more requests came: the input ended between requests or inside one, or a read failed
abbrev pub NoMore : List ℕ → Option (List ℕ) → LinkEnd → Type 0
NoMore rest left ending.Closed = IsBlank rest × IsAtEnd left
NoMore rest left (ending.Cut bytes) = IsCut rest bytes × IsAtEnd left
NoMore rest left ending.ReadFault = ⊤
NoMore rest left _ = ⊥

module _ {C R Q A : Type 0} where
  -- the link ended after the last exchange, whose response was written
  pub record EndsAfterLast (p : Printing R A) (exchanges : List (Exchange C R Q A)) (taken taken' : Option (List ℕ)) (end : LinkEnd) : Type 0 where
    pub before : List (Exchange C R Q A)
    pub last : Exchange C R Q A
    pub split : exchanges ≡ before ++ last ∷ []
    pub goes_on : AreOpen before
    pub ends : end_after last.request.close last.response ≡ Some end
    pub written : Appends taken taken' (all_bytes p exchanges)

  -- a write failed in the response of the last exchange
  pub record FailsInLast (p : Printing R A) (exchanges : List (Exchange C R Q A)) (taken taken' : Option (List ℕ)) (end : LinkEnd) : Type 0 where
    pub before : List (Exchange C R Q A)
    pub last : Exchange C R Q A
    pub split : exchanges ≡ before ++ last ∷ []
    pub goes_on : AreOpen before
    pub is_fault : end ≡ ending.WriteFault
    pub written : AppendsPrefix taken taken' (all_bytes p exchanges)

  -- no more requests came
  pub record EndsInInput (p : Printing R A) (exchanges : List (Exchange C R Q A)) (rest : List ℕ) (left taken taken' : Option (List ℕ)) (end : LinkEnd) : Type 0 where
    pub goes_on : AreOpen exchanges
    pub no_more : NoMore rest left end
    pub written : Appends taken taken' (all_bytes p exchanges)

  -- the next request failed a check, whose response comes after the others
  pub record EndsByCheck (p : Printing R A) (exchanges : List (Exchange C R Q A)) (rest : List ℕ) (taken taken' : Option (List ℕ)) (end : LinkEnd) : Type 0 where
    pub check : Check
    pub goes_on : AreOpen exchanges
    pub fails : FailsAt rest check
    pub response : ((end ≡ check_end check) × Appends taken taken' (all_bytes p exchanges ++ page_bytes (http_page (check_status check)) (Some (check_end check))))
        ⊎ ((end ≡ ending.WriteFault) × AppendsPrefix taken taken' (all_bytes p exchanges ++ page_bytes (http_page (check_status check)) (Some (check_end check))))

  abbrev pub Ends : Printing R A → List (Exchange C R Q A) → List ℕ → Option (List ℕ) → Option (List ℕ) → Option (List ℕ) → LinkEnd → Type 0
  Ends p exchanges rest left taken taken' end =
      EndsAfterLast p exchanges taken taken' end ⊎ (FailsInLast p exchanges taken taken' end
      ⊎ (EndsInInput p exchanges rest left taken taken' end ⊎ EndsByCheck p exchanges rest taken taken' end))

module _ {M C R H K Q A : Type 0} where
  -- The whole of a link: the bytes that were read begin with the requests of the exchanges; the session handled these in order; and so it ended.
  pub record HasEnded (step : M → C → (M × (R × K)) ⊎ R) (opening : List M) (least : Q → ℕ) (answer : Answering M Q A) (asks : List ℕ → List ℕ → List ℕ → Asked C Q → Type 0) (p : Printing R A)
      (s t : SessionModel M C R H K) (left left' taken taken' : Option (List ℕ)) (end : LinkEnd) : Type 0 where
    pub read : List ℕ
    pub exchanges : List (Exchange C R Q A)
    pub rest : List ℕ
    pub consumed : Consumes left left' read
    pub first : AreFirst read (received exchanges) rest
    pub asked : All (IsAsked asks) exchanges
    pub served : AreServed step opening least answer s (requests exchanges) (responses exchanges) t
    pub ends : Ends p exchanges rest left' taken taken' end

  -- One more request: from what holds of a link so far, either the link goes on and this holds of it, or it has ended.
  abbrev pub Proceeds : (M → C → (M × (R × K)) ⊎ R) → List M → (Q → ℕ) → Answering M Q A → (List ℕ → List ℕ → List ℕ → Asked C Q → Type 0) → Printing R A
      → SessionModel M C R H K → SessionModel M C R H K → Option (List ℕ) → Option (List ℕ) → Option (List ℕ) → Option (List ℕ) → List ℕ → List ℕ → Option LinkEnd → Type 0
  Proceeds step opening least answer asks p m t left left' taken taken' held held' result =
      (s : SessionModel M C R H K) (left_first taken_first : Option (List ℕ)) → HasExchanged step opening least answer asks p s m left_first left taken_first taken held
      → MatchOption result (HasExchanged step opening least answer asks p s t left_first left' taken_first taken' held') (λ end. HasEnded step opening least answer asks p s t left_first left' taken_first taken' end)

module _ {M C R H K : Type 0} where
  -- there was no memory for the room that a link takes: nothing was read, and the response that says so was written, unless a write failed
  pub record HasNoRoom (s t : SessionModel M C R H K) (left left' taken taken' : Option (List ℕ)) (end : LinkEnd) : Type 0 where
    pub same : t ≡ s
    pub unread : left' ≡ left
    pub writes : WritesMemoryPage taken taken' end

module _ {M C R H K Q A : Type 0} where
  -- the whole of a link, with all that is promised of its requests and their responses
  pub record HasServed (step : M → C → (M × (R × K)) ⊎ R) (opening : List M) (least : Q → ℕ) (answer : Answering M Q A) (asks : List ℕ → List ℕ → List ℕ → Asked C Q → Type 0) (p : Printing R A)
      (s t : SessionModel M C R H K) (left left' taken taken' : Option (List ℕ)) (end : LinkEnd) : Type 0 where
    pub read : List ℕ
    pub exchanges : List (Exchange C R Q A)
    pub rest : List ℕ
    pub consumed : Consumes left left' read
    pub first : AreFirst read (received exchanges) rest
    pub asked : All (IsAsked asks) exchanges
    pub truthful : IsTruthful step opening least answer s (requests exchanges) (responses exchanges) t
    pub ends : Ends p exchanges rest left' taken taken' end

  abbrev pub Serves : (M → C → (M × (R × K)) ⊎ R) → List M → (Q → ℕ) → Answering M Q A → (List ℕ → List ℕ → List ℕ → Asked C Q → Type 0) → Printing R A
      → SessionModel M C R H K → SessionModel M C R H K → Option (List ℕ) → Option (List ℕ) → Option (List ℕ) → Option (List ℕ) → LinkEnd → Type 0
  Serves step opening least answer asks p s t left left' taken taken' end =
      HasServed step opening least answer asks p s t left left' taken taken' end ⊎ HasNoRoom s t left left' taken taken' end

  -- the same by what queries are answered, and by the functions that say which bytes of the link are left and which it has taken
  abbrev pub ServesLink : {L : Type 0} → (M → C → (M × (R × K)) ⊎ R) → List M → (Q → ℕ) → (M → Q → A) → (Span → M → M → Q → A) → (List ℕ → List ℕ → List ℕ → Asked C Q → Type 0) → Printing R A
      → SessionModel M C R H K → SessionModel M C R H K → (L → Option (List ℕ)) → (L → Option (List ℕ)) → L → L → LinkEnd → Type 0
  ServesLink step opening least at between asks p s t left taken link link' end = Serves step opening least (answering at between) asks p s t (left link) (left link') (taken link) (taken link') end
