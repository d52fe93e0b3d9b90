-- Requests of a link and their responses.
use Rattle.std.specs.Prelude.{◌≡◌, ◌⊎◌, ℕ, Bool, false, if◌then◌else◌, List, map, flat_map, Option, Some, None, is_some}
use Rattle.std.proofs.Common.{inl, inr}
use Rattle.std.specs.List.{All}
use Rattle.un_http.specs.Requests.{Request as Received}
use Rattle.un_turns.specs.declared.request.Request.{Request}
use Rattle.un_turns.specs.declared.request.Request.TheVariants.{Other, Command as Decide, Query as Find, Past as Recall, Between as Compare}
use Rattle.un_turns.specs.declared.request.Response.{Response}
use Rattle.un_turns.specs.declared.request.Response.TheVariants.{Nothing, Accepted, Refused, Answer, PastAnswer, BetweenAnswer, Reversed, Ahead, NotYet, Denied, Memory}
use Rattle.un_exchange.specs.declared.asked.Asked.{Asked}
use Rattle.un_exchange.specs.declared.asked.Asked.TheVariants.{Page, Command, Query, Past, Between}
use Rattle.un_exchange.specs.declared.end.LinkEnd.{LinkEnd}
use Rattle.un_exchange.specs.declared.end.LinkEnd.TheVariants as end
use Rattle.un_exchange.specs.declared.status.Status.TheVariants as status
use Rattle.un_exchange.specs.Pages.{PageModel, http_page, memory_page, conflict_page, reversed_page, response_bytes}

-- What replies and answers are printed as, an answer at a past version with the version of its response; and the bodies for a query that asks for
-- more entries than there are, for a version that is over them, and for two versions of which the first comes after the second.
pub record Printing (R A : Type 0) : Type 0 where
  pub reply : R → PageModel
  pub answer : A → PageModel
  pub past : ℕ → A → PageModel
  pub ahead : ℕ → ℕ → List ℕ
  pub not_yet : ℕ → ℕ → List ℕ
  pub reversed : ℕ → ℕ → ℕ → List ℕ

module _ {M C R K : Type 0} where
  -- each reply that a step gives to the command fits
  abbrev pub CanPrint : (M → C → (M × (R × K)) ⊎ R) → (R → Type 0) → C → Type 0
  CanPrint step fits cmd =
      ((s t : M) (reply : R) (mark : K) → step s cmd ≡ inl (t, (reply, mark)) → fits reply) × ((s : M) (reply : R) → step s cmd ≡ inr reply → fits reply)

-- a request may ask to close the link
abbrev pub end_if : Bool → Option LinkEnd
end_if close = if close then Some end.Closed else None

module _ {R A : Type 0} where
  -- how the link ends after a response, if it does; `close` says that the request asks for that
  abbrev pub end_after : Bool → Response R A → Option LinkEnd
  end_after close Nothing = end_if close
  end_after close (Accepted v reply) = end_if close
  end_after close (Refused v reply) = end_if close
  end_after close (Answer v answer) = end_if close
  end_after close (PastAnswer v answer) = end_if close
  end_after close (BetweenAnswer v answer) = end_if close
  end_after close (Reversed v since upto) = end_if close
  end_after close (Ahead a) = end_if close
  end_after close (NotYet a) = end_if close
  end_after close (Denied d) = Some (end.Denied d)
  end_after close Memory = Some end.Memory

module _ {C Q : Type 0} where
  -- what is asked of the session
  abbrev pub request_of : Asked C Q → Request C Q
  request_of (Page page) = Other
  request_of (Command cmd) = Decide cmd
  request_of (Query query) = Find query
  request_of (Past at query) = Recall at query
  request_of (Between since upto query) = Compare since upto query

  -- the page of a request that asks nothing of the session
  abbrev pub own_page : Asked C Q → PageModel
  own_page (Page page) = page
  own_page (Command cmd) = memory_page
  own_page (Query query) = memory_page
  own_page (Past at query) = memory_page
  own_page (Between since upto query) = memory_page

module _ {C R Q A : Type 0} where
  -- what a response says
  abbrev pub page_of : Printing R A → Asked C Q → Response R A → PageModel
  page_of p asked Nothing = own_page asked
  page_of p asked (Accepted v reply) = p.reply reply
  page_of p asked (Refused v reply) = p.reply reply
  page_of p asked (Answer v answer) = p.answer answer
  page_of p asked (PastAnswer v answer) = p.past v answer
  page_of p asked (BetweenAnswer v answer) = p.answer answer
  page_of p asked (Reversed v since upto) = reversed_page (p.reversed v since upto)
  page_of p asked (Ahead a) = conflict_page (p.ahead a.seen a.latest)
  page_of p asked (NotYet a) = conflict_page (p.not_yet a.seen a.latest)
  page_of p asked (Denied d) = http_page status.Denied
  page_of p asked Memory = memory_page

-- a request, what it asks, and the response
pub record Exchange (C R Q A : Type 0) : Type 0 where
  pub request : Received
  pub asked : Asked C Q
  pub response : Response R A

module _ {C R Q A : Type 0} where
  -- what is asked is what the service reads; if memory ran out, it may not have been read
  abbrev pub IsAsked : (List ℕ → List ℕ → List ℕ → Asked C Q → Type 0) → Exchange C R Q A → Type 0
  IsAsked asks x = asks x.request.method x.request.path x.request.body x.asked ⊎ (x.response ≡ Memory)

  -- the link closes after the exchange
  abbrev pub closes : Exchange C R Q A → Bool
  closes x = is_some (end_after x.request.close x.response)

  -- the bytes of the response
  abbrev pub bytes_of : Printing R A → Exchange C R Q A → List ℕ
  bytes_of p x = response_bytes (page_of p x.asked x.response) (closes x)

  -- the same of all exchanges, in order
  abbrev pub all_bytes : Printing R A → List (Exchange C R Q A) → List ℕ
  all_bytes p xs = flat_map (bytes_of p) xs

  abbrev pub received : List (Exchange C R Q A) → List Received
  received xs = map (λ x. x.request) xs

  abbrev pub requests : List (Exchange C R Q A) → List (Request C Q)
  requests xs = map (λ x. request_of x.asked) xs

  abbrev pub responses : List (Exchange C R Q A) → List (Response R A)
  responses xs = map (λ x. x.response) xs

  -- no exchange closes the link
  abbrev pub AreOpen : List (Exchange C R Q A) → Type 0
  AreOpen xs = All (λ x. closes x ≡ false) xs
