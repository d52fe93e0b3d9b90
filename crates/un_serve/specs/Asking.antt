-- What the requests of HTTP ask of a network.
use Rattle.std.specs.Prelude.{◌≡◌, ℕ, List, slice_range, Result, Ok, Err}
use Rattle.un_schema.specs.declared.place.Place.TheVariants as place
use Rattle.un_http.specs.declared.route.Route.{Route}
use Rattle.un_http.specs.declared.route.Route.TheVariants as route
use Rattle.un_http.specs.Routes.{Finds}
use Rattle.un_ask.specs.declared.request.Command.{Command}
use Rattle.un_ask.specs.declared.request.Request.{Request}
use Rattle.un_ask.specs.declared.request.Request.TheVariants as request
use Rattle.un_ask.specs.declared.query.Query.{Query}
use Rattle.un_ask.specs.declared.query.PastQuery.{PastQuery}
use Rattle.un_ask.specs.declared.query.Asked.{Asked as Question}
use Rattle.un_ask.specs.declared.query.Asked.TheVariants as question
use Rattle.un_json.specs.declared.fault.ReadFault.{ReadFault}
use Rattle.un_json.specs.declared.fault.ReadFault.TheVariants.{BadRequest}
use Rattle.un_json.specs.Requests.{ask, fault_reply}
use Rattle.un_exchange.specs.declared.asked.Asked.{Asked}
use Rattle.un_exchange.specs.declared.asked.Asked.TheVariants as asked
use Rattle.un_exchange.specs.declared.status.Status.TheVariants as status
use Rattle.un_exchange.specs.Pages.{http_page}
use Rattle.un_serve.specs.declared.asking.NetQuery.{NetQuery}
use Rattle.un_serve.specs.declared.asking.NetQuery.TheVariants.{At, Changes}
use Rattle.un_serve.specs.Printing.{reply_page}

-- a command, a query, or a page
abbrev pub NetAsked : Type 0
NetAsked = Asked Command NetQuery

-- a question, which asks for its `seen` at least
abbrev pub now_query : Query → NetQuery
now_query q = At q.seen q

-- a question about a past version: its `seen` is about what is read, and not about the past
abbrev pub past_query : PastQuery → NetQuery
past_query p = At p.seen (record { seen = 0; what = p.what })

-- a body that is no request
abbrev pub fault_asked : ReadFault → NetAsked
fault_asked fault = asked.Page (reply_page (fault_reply fault))

-- the body of `POST /commands`: a request without `do` is none
abbrev pub command_asked : Result Request ReadFault → NetAsked
command_asked (Ok (request.Command command)) = asked.Command command
command_asked (Ok (request.Query query)) = fault_asked (BadRequest place.Do)
command_asked (Ok (request.Past past)) = fault_asked (BadRequest place.Do)
command_asked (Ok (request.Changes changes)) = fault_asked (BadRequest place.Do)
command_asked (Err fault) = fault_asked fault

-- the body of `POST /queries`: a request without `ask` is none
abbrev pub query_asked : Result Request ReadFault → NetAsked
query_asked (Ok (request.Command command)) = fault_asked (BadRequest place.Ask)
query_asked (Ok (request.Query query)) = asked.Query (now_query query)
query_asked (Ok (request.Past past)) = asked.Past past.at (past_query past)
query_asked (Ok (request.Changes changes)) = asked.Between changes.since changes.upto (Changes changes)
query_asked (Err fault) = fault_asked fault

-- a query that any version may answer
abbrev pub find : Question → NetAsked
find what = asked.Query (now_query (record { seen = 0; what = what }))

-- the query of a subnetwork, by the places of its names in the path
abbrev pub subnet_asked : List ℕ → ℕ × ℕ → ℕ × ℕ → NetAsked
subnet_asked path tier subnet = find (question.Subnet (slice_range path tier.0 tier.1) (slice_range path subnet.0 subnet.1))

-- what a route asks for, with the path and the body
abbrev pub route_asked : Route → List ℕ → List ℕ → NetAsked
route_asked route.Commands path body = command_asked (ask body)
route_asked route.Queries path body = query_asked (ask body)
route_asked route.Version path body = find question.Version
route_asked (route.Feature id) path body = find (question.Feature id)
route_asked (route.Subnetwork tier subnet) path body = subnet_asked path tier subnet
route_asked route.NotFound path body = asked.Page (http_page status.NotFound)
route_asked (route.WrongMethod allow_get) path body = asked.Page (http_page (status.WrongMethod allow_get))

-- what a request asks: what its route asks for
pub record Asks (method path body : List ℕ) (asked : NetAsked) : Type 0 where
  pub route : Route
  pub finds : Finds method path route
  pub asks : asked ≡ route_asked route path body
