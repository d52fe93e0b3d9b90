-- What a query is answered.
pub use Rattle.un_core.specs.Refusals.{refused}
pub use Rattle.un_core.specs.Walked.{kept_survey, fresh_survey}
use Rattle.std.specs.Prelude.{◌≡◌, Contains, ℕ, length, nat_lt, Bool, true, false, List, [], ◌∷◌, Option, Result, Ok, Err, if◌then◌else◌, ⊤}
use Rattle.std.specs.Option.{option_map_or}
use Rattle.un_geom.specs.Rectangle.{Rectangle}
use Rattle.un_schema.specs.Catalog.{Catalog}
use Rattle.un_defs.specs.declared.port.Node.{Node}
use Rattle.un_defs.specs.declared.walk.Mode.TheVariants.{Any}
use Rattle.un_defs.specs.declared.walk.Barriers.{Barriers}
use Rattle.un_defs.specs.Ground.{Ground}
use Rattle.un_defs.specs.declared.refusal.Refusal.{Refusal}
use Rattle.un_defs.specs.declared.refusal.Refusal.TheVariants as refusal
use Rattle.un_defs.specs.Features.{Features, row}
use Rattle.un_defs.specs.Ports.{nodes}
use Rattle.un_defs.specs.Refusing.{refused_if}
use Rattle.un_tiers.specs.Lists.{tier_named}
use Rattle.un_subnet.specs.Stored.{row_for}
use Rattle.un_ask.specs.declared.stored.StoredSubnet.{StoredSubnet}
use Rattle.un_ask.specs.declared.trace.TraceKind.{TraceKind}
use Rattle.un_ask.specs.declared.trace.TraceKind.TheVariants as kind
use Rattle.un_ask.specs.declared.trace.TraceAsk.{TraceAsk}
use Rattle.un_ask.specs.declared.typed.TypedAsk.{TypedAsk}
use Rattle.un_ask.specs.declared.query.Query.{Query}
use Rattle.un_ask.specs.declared.query.Asked.{Asked}
use Rattle.un_ask.specs.declared.query.Asked.TheVariants.{Version, Feature, Dirty, Errors, Subnet, Trace, Path, Check, Diagram}
use Rattle.un_ask.specs.declared.path.NamedPath.{NamedPath}
use Rattle.un_ask.specs.declared.path.NamedCheck.{NamedCheck}
use Rattle.un_ask.specs.declared.diagram.NamedDiagram.{NamedDiagram}
use Rattle.un_ask.specs.declared.reply.Reply.{Reply}
use Rattle.un_ask.specs.declared.reply.Reply.TheVariants as reply
use Rattle.un_resolve.specs.Resolved.{resolved, resolving_refusal}
use Rattle.un_resolve.specs.Walks.{path_asked, check_asked, diagram_asked}
use Rattle.un_trace.specs.TraceReply.{IsAnswerable, trace_reply, mode_of}
use Rattle.un_resolve.specs.Kinds.{is_isolation}
use Rattle.un_resolve.specs.Valves.{isolates}
use Rattle.un_loops.specs.Answer.{IsForLoops, loops_reply}
use Rattle.un_isolate.specs.Answer.{IsForIsolation, isolation_reply}
use Rattle.un_ask.specs.declared.typed.PathAsk.{PathAsk}
use Rattle.un_ask.specs.declared.typed.CheckAsk.{CheckAsk}
use Rattle.un_path.specs.Answer.{path_reply}
use Rattle.un_path.specs.Answer.{check_reply}
use Rattle.un_ask.specs.declared.typed.DiagramAsk.{DiagramAsk}
use Rattle.un_diagram.specs.Answer.{diagram_reply}
use Rattle.un_core.specs.State.{State}
use Rattle.un_core.specs.Validation.{met}
use Rattle.un_core.specs.Walked.{Survey, reached}
use Rattle.un_core.specs.Listed.{errors_in}
use Rattle.un_core.specs.Feature.{feature_of_row}

-- the query wants a later version
abbrev pub query_refusal : State → Query → Option Refusal
query_refusal s q = refused_if (nat_lt s.version q.seen) (refusal.Ahead q.seen s.version)

-- ---- what answers rest on

-- the topology that traces in consistent mode go over, and that of all else; the dirty areas; and the version
pub record Basis : Type 0 where
  pub consistent : Survey
  pub other : Survey
  pub areas : List (ℕ × Rectangle)
  pub version : ℕ

-- all answers rest on the kept topology
abbrev pub kept_basis : State → Basis
kept_basis s = record { consistent = kept_survey s; other = kept_survey s; areas = s.areas; version = s.version }

-- consistent traces rest on all features
abbrev pub fresh_basis : State → Basis
fresh_basis s = record { consistent = fresh_survey s; other = kept_survey s; areas = s.areas; version = s.version }

abbrev pub survey_for : Basis → Bool → Survey
survey_for b consistent = if consistent then b.consistent else b.other

-- ---- replies

-- the feature with the id as it stands, or that none is live
abbrev pub feature_reply : State → ℕ → Reply
feature_reply s id =
    option_map_or (λ r. reply.Feature (feature_of_row s.setup.schema r) s.version) (row s.features id) (refused s (refusal.NoSuchFeature id))

-- a stored row, under the name of its tier
abbrev pub row_reply : State → List ℕ → StoredSubnet → Reply
row_reply s tier row = reply.Subnet row.controllers row.members row.status row.subnet tier row.updated s.version

-- the stored row of a subnetwork of a tier, or that none is stored
abbrev pub row_in_tier : State → List ℕ → List ℕ → ℕ → Reply
row_in_tier s tier subnet number = option_map_or (row_reply s tier) (row_for s.stored number subnet) (refused s refusal.NoSuchSubnetwork)

-- of any tier, or that there is none of the name
abbrev pub subnet_reply : State → List ℕ → List ℕ → Reply
subnet_reply s tier subnet = option_map_or (row_in_tier s tier subnet) (tier_named s.setup.tiers tier) (refused s refusal.NoSuchTier)

-- the nodes that a trace reaches
abbrev pub reached_from : Survey → TypedAsk → List Node
reached_from v ask = reached v ask.barriers (mode_of ask.kind) ask.starts

-- what a walk answers, with the version of the state
abbrev pub at_version : ℕ → Reply → Reply
at_version v (reply.Traced result version) = reply.Traced result v
at_version v (reply.Controllers controllers version) = reply.Controllers controllers v
at_version v (reply.Loops segments version) = reply.Loops segments v
at_version v (reply.Isolation borders features version) = reply.Isolation borders features v
at_version v (reply.Path cost labels nodes version) = reply.Path cost labels nodes v
at_version v (reply.Check valid version) = reply.Check valid v
at_version v (reply.Diagram edges kept pieces version) = reply.Diagram edges kept pieces v
at_version v (reply.Refused r edit version) = reply.Refused r edit v
at_version v (reply.Edited areas id word version) = reply.Edited areas id word version
at_version v (reply.Batch areas ids version) = reply.Batch areas ids version
at_version v (reply.Ruled areas rules version) = reply.Ruled areas rules version
at_version v (reply.Validated cleared errors version) = reply.Validated cleared errors version
at_version v (reply.Updated row version) = reply.Updated row version
at_version v (reply.Version version) = reply.Version version
at_version v (reply.Feature feature version) = reply.Feature feature version
at_version v (reply.Dirty areas version) = reply.Dirty areas version
at_version v (reply.Errors errors version) = reply.Errors errors version
at_version v (reply.Subnet controllers members status subnet tier updated version) = reply.Subnet controllers members status subnet tier updated version

-- the reply is none of a trace, and no refusal
abbrev pub IsNoTrace : Reply → Type 0
IsNoTrace (reply.Traced result version) = ⊥
IsNoTrace (reply.Controllers controllers version) = ⊥
IsNoTrace (reply.Loops segments version) = ⊥
IsNoTrace (reply.Isolation borders features version) = ⊥
IsNoTrace (reply.Refused r edit version) = ⊥
IsNoTrace other = ⊤

-- a trace of the kind asks for loops
abbrev pub is_loops : TraceKind → Bool
is_loops kind.Connected = false
is_loops kind.Subnetwork = false
is_loops kind.Controllers = false
is_loops kind.Upstream = false
is_loops kind.Downstream = false
is_loops kind.Loops = true
is_loops kind.Isolation = false

-- no start is on a device that isolates
abbrev pub AreClear : Catalog → Features → TypedAsk → Type 0
AreClear S F ask = (n : Node) → Contains ask.starts n → isolates S F ask.isolators n.port ≡ false

-- what a trace over features has to have, so that it can be answered
pub record MayWalk (S : Catalog) (F : Features) (ask : TypedAsk) : Type 0 where
  pub starts : (n : Node) → Contains ask.starts n → Contains (nodes F) n
  pub for_loops : is_loops ask.kind ≡ true → IsForLoops ask
  pub for_isolation : is_isolation ask.kind ≡ true → IsForIsolation ask × AreClear S F ask
  pub for_other : is_loops ask.kind ≡ false → is_isolation ask.kind ≡ false → IsAnswerable ask.kind ask.barriers.tier

-- the reply to a trace that reached these nodes, with version 0
abbrev pub reply_over : Ground → TypedAsk → List Node → Reply
reply_over G ask reached =
    if is_loops ask.kind then loops_reply G ask reached
    else if is_isolation ask.kind then isolation_reply G ask reached
    else trace_reply G ask reached

-- the answer of a trace over a topology, with version 0
abbrev pub traced : Survey → TypedAsk → Reply
traced v ask = reply_over v.topology ask (reached_from v ask)

-- the answer of a trace
abbrev pub traced_on : Basis → TypedAsk → Reply
traced_on b ask = at_version b.version (traced (survey_for b ask.barriers.consistent) ask)

-- the answer of a trace that a request asks for: the first refusal that can be told before a walk, or that of the trace by numbers and nodes
abbrev pub trace_on : State → Basis → TraceAsk → Reply
trace_on s b ask = option_map_or (refused s) (resolving_refusal s.setup s.features ask) (traced_on b (resolved s.setup s.features ask))

-- ---- paths, checks and diagrams

-- the nodes that walks reach which follow any link
abbrev pub reached_any : Survey → Barriers → List Node → List Node
reached_any v B starts = reached v B Any starts

-- the answers over a topology, with version 0
abbrev pub path_over : Survey → PathAsk → Reply
path_over v ask = path_reply v.topology ask (reached_any v ask.barriers (ask.from ∷ []))

abbrev pub check_over : Survey → CheckAsk → Reply
check_over v ask = check_reply v.topology ask (reached_any v ask.barriers (ask.from ∷ []))

abbrev pub diagram_over : Survey → DiagramAsk → Reply
diagram_over v ask = diagram_reply v.topology ask (reached_any v ask.barriers ask.starts)

-- the answer of a query with its names looked up, or the refusal that can be told before a walk
abbrev pub answered_or : {A : Type 0} → State → (A → Reply) → Result A Refusal → Reply
answered_or s answer (Err r) = refused s r
answered_or s answer (Ok ask) = answer ask

-- the answers of queries that a request asks; they are always consistent
abbrev pub path_on : State → Basis → NamedPath → Reply
path_on s b ask = answered_or s (λ typed. at_version b.version (path_over b.consistent typed)) (path_asked s.setup.schema s.features ask)

abbrev pub check_on : State → Basis → NamedCheck → Reply
check_on s b ask = answered_or s (λ typed. at_version b.version (check_over b.consistent typed)) (check_asked s.setup.schema s.features ask)

abbrev pub diagram_on : State → Basis → NamedDiagram → Reply
diagram_on s b ask = answered_or s (λ typed. at_version b.version (diagram_over b.consistent typed)) (diagram_asked s.setup.schema s.features ask)

-- ---- queries

-- the answer of a query that is not refused before
abbrev pub asked_on : State → Basis → Asked → Reply
asked_on s b Version = reply.Version b.version
asked_on s b (Feature id) = feature_reply s id
asked_on s b (Dirty extent) = reply.Dirty (met extent b.areas) b.version
asked_on s b (Errors extent) = reply.Errors (errors_in b.other extent) b.version
asked_on s b (Subnet tier subnet) = subnet_reply s tier subnet
asked_on s b (Trace ask) = trace_on s b ask
asked_on s b (Path ask) = path_on s b ask
asked_on s b (Check ask) = check_on s b ask
asked_on s b (Diagram ask) = diagram_on s b ask

-- the answer of a query
abbrev pub answer_on : State → Basis → Query → Reply
answer_on s b q = option_map_or (refused s) (query_refusal s q) (asked_on s b q.what)

-- the answer of a query over the kept topology
abbrev pub answer : State → Query → Reply
answer s q = answer_on s (kept_basis s) q

-- ---- look-ups

-- the nodes that a query with its names looked up reaches, none where it is refused
abbrev pub reached_or : {A : Type 0} → (A → List Node) → Result A Refusal → List Node
reached_or nodes (Err r) = []
reached_or nodes (Ok ask) = nodes ask

-- the nodes that a query reaches
abbrev pub reached_by : State → Asked → List Node
reached_by s (Trace ask) = reached_from (kept_survey s) (resolved s.setup s.features ask)
reached_by s (Path ask) =
    reached_or (λ typed. reached_any (kept_survey s) typed.barriers (typed.from ∷ [])) (path_asked s.setup.schema s.features ask)
reached_by s (Check ask) =
    reached_or (λ typed. reached_any (kept_survey s) typed.barriers (typed.from ∷ [])) (check_asked s.setup.schema s.features ask)
reached_by s (Diagram ask) =
    reached_or (λ typed. reached_any (kept_survey s) typed.barriers typed.starts) (diagram_asked s.setup.schema s.features ask)
reached_by s what = []

-- the most stars that are looked up for it: one for each node that it reaches
abbrev pub most_look_ups : State → Query → ℕ
most_look_ups s q = length (reached_by s q.what)
