-- The members of each request, by its word, in the order in which they are looked at: `required` for a member that must be there, with its
-- name and its form, and `optional` for one that may be absent, with the value that it has then.
use Rattle.std.specs.Prelude.{ℕ, Bool, [], ◌∷◌, List, true, false, Option, None, is_some, option_map, option_and_then, Result, Err, if◌then◌else◌}
use Rattle.std.specs.Result.{result_ok}
use Rattle.serde_json.specs.Data.{Data}
use Rattle.serde_json.specs.Find.{get, as_str, as_bool}
use Rattle.un_conds.specs.Conditions.{Condition}
use Rattle.un_schema.specs.declared.place.Place.{Place}
use Rattle.un_schema.specs.declared.place.Place.TheVariants as place
use Rattle.un_schema.specs.Places.{place_text}
use Rattle.un_defs.specs.declared.row.Flow.TheVariants.{Both}
use Rattle.un_defs.specs.declared.port.Port.{Port}
use Rattle.un_defs.specs.declared.edit.Edit.{Edit}
use Rattle.un_defs.specs.declared.edit.Edit.TheVariants as edit
use Rattle.un_ask.specs.declared.word.EditWord.{EditWord}
use Rattle.un_ask.specs.declared.word.EditWord.TheVariants as word
use Rattle.un_ask.specs.declared.request.Command.{Command}
use Rattle.un_ask.specs.declared.request.Command.TheVariants as command
use Rattle.un_ask.specs.declared.query.Query.{Query}
use Rattle.un_geom.specs.declared.point.Point.{Point}
use Rattle.un_ask.specs.declared.query.PastQuery.{PastQuery}
use Rattle.un_ask.specs.declared.query.ChangesQuery.{ChangesQuery}
use Rattle.un_ask.specs.declared.query.Asked.{Asked}
use Rattle.un_ask.specs.declared.query.Asked.TheVariants as asked
use Rattle.un_ask.specs.declared.trace.TraceKind.{TraceKind}
use Rattle.un_ask.specs.declared.trace.TraceKind.TheVariants as trace
use Rattle.un_ask.specs.declared.trace.Include.{Include}
use Rattle.un_ask.specs.declared.trace.NamedFunc.{NamedFunc}
use Rattle.un_ask.specs.declared.results.Label.{Label}
use Rattle.un_ask.specs.Batches.{is_batch}
use Rattle.un_ask.specs.Words.{edit_named}
use Rattle.un_json.specs.declared.words.Word.{Word}
use Rattle.un_json.specs.declared.words.Word.TheVariants.{Do, Ask, Past, Changes}
use Rattle.un_json.specs.declared.words.CommandWord.{CommandWord}
use Rattle.un_json.specs.declared.words.CommandWord.TheVariants as does
use Rattle.un_json.specs.declared.words.QueryWord.{QueryWord}
use Rattle.un_json.specs.declared.words.QueryWord.TheVariants as asks
use Rattle.un_json.specs.declared.query.RequiredMembers.{RequiredMembers}
use Rattle.un_json.specs.declared.query.OptionalMembers.{OptionalMembers}
use Rattle.un_json.specs.Rows.{Row, Column, makes, ◌&◌, required, optional, required_when, optional_when, required_member, answers, mapped, and_then}
use Rattle.un_json.specs.Words.{word_of}
use Rattle.un_json.specs.Forms.{kept, id_of, base_of, name_of, some_name_of, weight_of, points_of, attrs_of, flow_of, ends_of, note_of, port_of, terminal_of, list_of, extent_of, rule_of, starts_of, stops_of, nodes_of, labels_of, kind_of, condition_of, some_condition_of, barriers_of, include_of, functions_of, nothing, or_null, point_of, most_of}

-- ---- edits

abbrev pub edit_row : EditWord → Row Edit
edit_row word.Insert =
    makes edit.Insert & required place.Kind name_of & required place.Points points_of
    & optional place.Attrs attrs_of [] & optional place.Flow flow_of Both & optional place.Ends ends_of (0 ∷ 0 ∷ []) & optional place.Note note_of []
edit_row word.Reshape = makes edit.Reshape & required place.Id id_of & required place.Base base_of & required place.Points points_of
edit_row word.Attrs = makes edit.Attrs & required place.Id id_of & required place.Base base_of & required place.Attrs attrs_of
edit_row word.Kind = makes edit.Kind & required place.Id id_of & required place.Base base_of & required place.Kind name_of
edit_row word.Path = makes edit.Path & required place.Id id_of & required place.Base base_of & required place.Path name_of
edit_row word.Flow = makes edit.Flow & required place.Id id_of & required place.Base base_of & required place.Flow flow_of
edit_row word.Ends = makes edit.Ends & required place.Id id_of & required place.Base base_of & required place.Ends ends_of
edit_row word.Note = makes edit.Note & required place.Id id_of & required place.Base base_of & required place.Note note_of
edit_row word.Delete = makes edit.Delete & required place.Id id_of & required place.Base base_of
edit_row word.Connect = makes edit.Connect & required place.From port_of & required place.To port_of
edit_row word.Contain = makes edit.Contain & required place.Container id_of & required place.Content id_of
edit_row word.Attach = makes edit.Attach & required place.Structure id_of & required place.Content id_of
edit_row word.Detach = makes edit.Detach & required place.Assoc id_of
edit_row word.Controller =
    makes edit.Controller & required place.Id id_of & required place.Terminal terminal_of & required place.Tier name_of & required place.Subnet name_of
edit_row word.Uncontroller = makes edit.Uncontroller & required place.Id id_of & required place.Terminal terminal_of

abbrev pub edit_answer : EditWord → Data → Result Edit Place
edit_answer w d = answers place.Do (edit_row w) d

-- ---- batches

-- an edit as an element of a batch
abbrev pub edit_of : Data → Option Edit
edit_of d =
    option_and_then (λ w. result_ok (edit_answer w d)) (option_and_then edit_named (option_and_then as_str (get (place_text place.Do) d)))

-- 1 to 256 edits
abbrev pub edits_of : Data → Option (List Edit)
edits_of d = kept is_batch (list_of edit_of d)

-- ---- commands

abbrev pub batch : Row Command
batch = makes command.Batch & required place.Edits edits_of

abbrev pub rule : Row Command
rule = makes command.Rule & required place.Rule rule_of

abbrev pub validate : Row Command
validate = makes command.Validate & required place.Extent extent_of

abbrev pub update : Row Command
update = makes command.Update & required place.Tier name_of & required place.Subnet name_of

abbrev pub command_answer : CommandWord → Data → Result Command Place
command_answer (does.Edit w) d = mapped command.Edit (edit_answer w d)
command_answer does.Batch d = answers place.Do batch d
command_answer does.Rule d = answers place.Do rule d
command_answer does.Validate d = answers place.Do validate d
command_answer does.Update d = answers place.Do update d

-- ---- queries

-- a query; `seen` stands last in each row
abbrev pub query : Asked → ℕ → Query
query what seen = record { seen = seen; what = what }

abbrev pub version : Row Query
version = makes (query asked.Version) & optional place.Seen base_of 0

abbrev pub feature : Row Query
feature = makes (λ id. query (asked.Feature id)) & required place.Id id_of & optional place.Seen base_of 0

abbrev pub dirty : Row Query
dirty = makes (λ extent. query (asked.Dirty extent)) & required place.Extent extent_of & optional place.Seen base_of 0

abbrev pub errors : Row Query
errors = makes (λ extent. query (asked.Errors extent)) & required place.Extent extent_of & optional place.Seen base_of 0

abbrev pub subnet : Row Query
subnet = makes (λ tier name. query (asked.Subnet tier name)) & required place.Tier name_of & required place.Subnet name_of & optional place.Seen base_of 0

-- ---- traces

abbrev pub takes_starts : TraceKind → Bool
takes_starts trace.Subnetwork = false
takes_starts _ = true

abbrev pub takes_tier : TraceKind → Bool
takes_tier trace.Connected = false
takes_tier trace.Loops = false
takes_tier _ = true

abbrev pub takes_subnet : TraceKind → Bool
takes_subnet trace.Subnetwork = true
takes_subnet _ = false

abbrev pub takes_isolators : TraceKind → Bool
takes_isolators trace.Isolation = true
takes_isolators _ = false

-- loops and isolation are always consistent
abbrev pub takes_consistent : TraceKind → Bool
takes_consistent trace.Loops = false
takes_consistent trace.Isolation = false
takes_consistent _ = true

-- the traces with a result
abbrev pub takes_include : TraceKind → Bool
takes_include trace.Controllers = false
takes_include trace.Loops = false
takes_include trace.Isolation = false
takes_include _ = true

-- the members that the kind of a trace requires; what it does not take is none
unfoldable pub required_members : TraceKind → Row RequiredMembers
required_members kind =
    makes (λ starts tier subnet isolators. record { starts = starts; tier = tier; subnet = subnet; isolators = isolators })
    & required_when (takes_starts kind) place.Starts starts_of []
    & required_when (takes_tier kind) place.Tier some_name_of None
    & required_when (takes_subnet kind) place.Subnet some_name_of None
    & required_when (takes_isolators kind) place.Isolators some_condition_of None

-- the members of a trace that may be absent, but for `seen`
unfoldable pub optional_members : TraceKind → Row OptionalMembers
optional_members kind =
    makes (λ barriers stops consistent include functions. record { barriers = barriers; stops = stops; consistent = consistent; include = include; functions = functions })
    & optional place.Barriers barriers_of None
    & optional place.Stops stops_of []
    & optional_when (takes_consistent kind) place.Consistent as_bool true
    & optional_when (takes_include kind) place.Include include_of nothing
    & optional_when (takes_include kind) place.Functions functions_of []

-- the members of a row, as one member of a longer row
abbrev pub group : {A : Type 0} → Row A → Column A
group r = record { places = r.places; value = r.value }

abbrev pub traced : TraceKind → RequiredMembers → OptionalMembers → ℕ → Query
traced kind given options seen = query (asked.Trace (record {
  kind = kind;
  starts = given.starts;
  tier = given.tier;
  subnet = given.subnet;
  isolators = given.isolators;
  barriers = options.barriers;
  stops = options.stops;
  consistent = options.consistent;
  include = options.include;
  functions = options.functions;
})) seen

-- the members by the type, which is the first of them
abbrev pub trace_row : TraceKind → Row Query
trace_row kind =
    makes traced & required place.Type kind_of & group (required_members kind) & group (optional_members kind) & optional place.Seen base_of 0

-- ---- paths

abbrev pub path_asked : Port → Port → Option (List ℕ) → Option (Condition (List ℕ)) → List Port → Bool → ℕ → Query
path_asked from to weight barriers stops certificate seen = query (asked.Path (record {
  from = from;
  to = to;
  weight = weight;
  barriers = barriers;
  stops = stops;
  certificate = certificate;
})) seen

abbrev pub path : Row Query
path =
    makes path_asked & required place.From port_of & required place.To port_of & optional place.Weight weight_of None
    & optional place.Barriers barriers_of None & optional place.Stops stops_of [] & optional place.Certificate as_bool false
    & optional place.Seen base_of 0

abbrev pub check_asked : Port → Port → Option (List ℕ) → Option (Condition (List ℕ)) → List Port → List Port → List Label → ℕ → Query
check_asked from to weight barriers stops nodes labels seen = query (asked.Check (record {
  from = from;
  to = to;
  weight = weight;
  barriers = barriers;
  stops = stops;
  nodes = nodes;
  labels = labels;
})) seen

abbrev pub check : Row Query
check =
    makes check_asked & required place.From port_of & required place.To port_of & optional place.Weight weight_of None
    & optional place.Barriers barriers_of None & optional place.Stops stops_of [] & required place.Nodes nodes_of
    & required place.Labels labels_of & optional place.Seen base_of 0

-- ---- diagrams

abbrev pub diagram_asked : List Port → Condition (List ℕ) → Option (Condition (List ℕ)) → List Port → ℕ → Query
diagram_asked starts keep barriers stops seen = query (asked.Diagram (record {
  starts = starts;
  keep = keep;
  barriers = barriers;
  stops = stops;
})) seen

abbrev pub diagram : Row Query
diagram =
    makes diagram_asked & required place.Starts starts_of & required place.Keep condition_of & optional place.Barriers barriers_of None
    & optional place.Stops stops_of [] & optional place.Seen base_of 0

abbrev pub query_answer : QueryWord → Data → Result Query Place
query_answer asks.Version d = answers place.Ask version d
query_answer asks.Feature d = answers place.Ask feature d
query_answer asks.Dirty d = answers place.Ask dirty d
query_answer asks.Errors d = answers place.Ask errors d
query_answer asks.Subnet d = answers place.Ask subnet d
query_answer asks.Trace d = and_then (λ kind. answers place.Ask (trace_row kind) d) (required_member place.Type kind_of d)
query_answer asks.Path d = answers place.Ask path d
query_answer asks.Check d = answers place.Ask check d
query_answer asks.Diagram d = answers place.Ask diagram d

-- ---- queries at past versions

-- the query that an object is by its word, which is no command and asks neither at a past version nor for changes
abbrev pub nested_answer : Word → Data → Result Query Place
nested_answer (Ask w) d = query_answer w d
nested_answer (Do w) d = Err place.Ask
nested_answer Past d = Err place.Ask
nested_answer Changes d = Err place.Ask

-- what a request asks that is such a query and has no member `seen`
abbrev pub nested_of : Data → Option Asked
nested_of d =
    if is_some (get (place_text place.Seen) d) then None
    else option_map (λ q. q.what) (result_ok (and_then (λ w. nested_answer w d) (word_of d)))

abbrev pub past_query : ℕ → Asked → ℕ → PastQuery
past_query base what seen = record { seen = seen; at = base; what = what }

abbrev pub past : Row PastQuery
past = makes past_query & required place.At base_of & required place.Query nested_of & optional place.Seen base_of 0

abbrev pub past_answer : Data → Result PastQuery Place
past_answer d = answers place.Ask past d

-- ---- queries for changes

abbrev pub changes_query : ℕ → Option ℕ → Option Point → ℕ → ℕ → ChangesQuery
changes_query since upto after most seen = record { seen = seen; since = since; upto = upto; after = after; most = most }

abbrev pub changes : Row ChangesQuery
changes =
    makes changes_query & required place.Since base_of & optional place.Upto (or_null base_of) None
    & optional place.After (or_null point_of) None & optional place.Most most_of 500 & optional place.Seen base_of 0

abbrev pub changes_answer : Data → Result ChangesQuery Place
changes_answer d = answers place.Ask changes d
