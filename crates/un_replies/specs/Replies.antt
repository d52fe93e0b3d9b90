-- The values of replies: what each shows, member by member. A reply is printed as the compact text of its value.
use Rattle.std.specs.Prelude.{◌≡◌, ℕ, ℤ, List, [], ◌∷◌, ◌++◌, length, map, codes, Option, None, Some}
use Rattle.serde_json.specs.Data.{Data, null, boolean, string}
use Rattle.serde_json.specs.Written.{compact_text}
use Rattle.un_geom.specs.declared.point.Point.{Point}
use Rattle.un_geom.specs.Rectangle.{Rectangle}
use Rattle.un_defs.specs.declared.port.Port.{Port}
use Rattle.un_defs.specs.declared.row.Flow.{Flow}
use Rattle.un_defs.specs.declared.row.Flow.TheVariants.{With, Against, Both}
use Rattle.un_defs.specs.declared.star.TopoError.{TopoError}
use Rattle.un_defs.specs.declared.star.ErrorKind.{ErrorKind}
use Rattle.un_defs.specs.declared.star.ErrorKind.TheVariants as kind
use Rattle.un_defs.specs.declared.assoc.Controller.{Controller}
use Rattle.un_ask.specs.Words.{edit_text, trace_text}
use Rattle.un_ask.specs.declared.stored.Status.{Status}
use Rattle.un_ask.specs.declared.stored.Status.TheVariants as status
use Rattle.un_ask.specs.declared.stored.StoredSubnet.{StoredSubnet}
use Rattle.un_ask.specs.declared.results.Part.{Part}
use Rattle.un_ask.specs.declared.results.Segment.{Segment}
use Rattle.un_ask.specs.declared.results.Label.{Label}
use Rattle.un_ask.specs.declared.results.Piece.{Piece}
use Rattle.un_ask.specs.declared.results.Edge.{Edge}
use Rattle.un_ask.specs.declared.reply.FeatureReply.{FeatureReply}
use Rattle.un_ask.specs.declared.reply.ResultReply.{ResultReply}
use Rattle.un_ask.specs.declared.reply.Reply.{Reply}
use Rattle.un_ask.specs.declared.reply.Reply.TheVariants as reply
use Rattle.un_values.specs.Values.{count, counts, whole, list, tuple, object_of, attribute}
use Rattle.un_replies.specs.Refusals.{refusal_value}

-- ---- words

abbrev pub flow_text : Flow → List ℕ
flow_text With = codes "with"
flow_text Against = codes "against"
flow_text Both = codes "both"

abbrev pub status_text : Status → List ℕ
status_text status.Clean = codes "clean"
status_text status.Dirty = codes "dirty"

abbrev pub error_text : ErrorKind → List ℕ
error_text kind.Stacked = codes "Stacked"
error_text kind.MissingJunction = codes "MissingJunction"
error_text kind.NoRule = codes "NoRule"
error_text kind.BadTerminal = codes "BadTerminal"
error_text kind.MidspanTerminal = codes "MidspanTerminal"
error_text kind.AssociationRule = codes "AssociationRule"

-- the name of a path, or the empty text where there is none
abbrev pub path_text : Option (List ℕ) → List ℕ
path_text None = []
path_text (Some name) = name

-- ---- parts of replies

abbrev pub point : Point → Data
point p = tuple (whole p.x ∷ whole p.y ∷ whole p.z ∷ [])

abbrev pub port : Port → Data
port p = tuple (count p.feature ∷ count p.number ∷ [])

-- a dirty area with its number
abbrev pub area : ℕ × Rectangle → Data
area (n, r) = tuple (count n ∷ whole r.x0 ∷ whole r.y0 ∷ whole r.x1 ∷ whole r.y1 ∷ [])

-- an error of the topology at its point
abbrev pub placed_error : Point × TopoError → Data
placed_error (p, e) =
    tuple (whole p.x ∷ whole p.y ∷ whole p.z ∷ string (error_text e.kind) ∷ count e.feature ∷ count e.number ∷ count e.assoc ∷ [])

-- a feature with the numbers of its reached ports
abbrev pub part : Part → Data
part p = tuple (count p.feature ∷ counts p.numbers ∷ [])

abbrev pub segment : Segment → Data
segment s = tuple (count s.line ∷ count s.index ∷ [])

abbrev pub controller : Controller → Data
controller c = tuple (count c.port.feature ∷ count c.port.number ∷ string c.subnet ∷ [])

-- the value of a function, in all its digits; the least and the greatest of no values are null
abbrev pub total : Option ℤ → Data
total None = null
total (Some z) = whole z

-- what a walk costs, in all its digits; where there is no walk it is null
abbrev pub cost : Option ℕ → Data
cost None = null
cost (Some n) = count n

-- a reached port, and the least that a walk to it costs
abbrev pub label : Label → Data
label l = tuple (count l.port.feature ∷ count l.port.number ∷ count l.cost ∷ [])

-- a piece of a diagram: its name, and how many nodes and features it has
abbrev pub piece : Piece → Data
piece p = tuple (count p.name.feature ∷ count p.name.number ∷ count p.nodes ∷ count p.features ∷ [])

-- an edge of a diagram: the kept port that it comes from, and where it leads to
abbrev pub edge : Edge → Data
edge e = tuple (count e.from.feature ∷ count e.from.number ∷ count e.to.feature ∷ count e.to.number ∷ [])

-- ---- replies

-- how many members a stored subnetwork has, and its status; one that was removed has none
abbrev pub stored_members : Option StoredSubnet → ℕ
stored_members None = 0
stored_members (Some row) = length row.members

abbrev pub stored_status : Option StoredSubnet → List ℕ
stored_status None = codes "removed"
stored_status (Some row) = codes "clean"

abbrev pub feature_value : FeatureReply → ℕ → Data
feature_value f version = object_of (
    (codes "attrs", object_of (map attribute f.attrs)) ∷ (codes "base", count f.base) ∷ (codes "ends", counts f.ends) ∷ (codes "flow", string (flow_text f.flow))
    ∷ (codes "id", count f.id) ∷ (codes "kind", string f.kind) ∷ (codes "note", string f.note) ∷ (codes "ok", string (codes "feature"))
    ∷ (codes "path", string (path_text f.path)) ∷ (codes "points", list point f.points) ∷ (codes "version", count version) ∷ [])

abbrev pub result_value : ResultReply → ℕ → Data
result_value r version = object_of (
    (codes "containers", counts r.containers) ∷ (codes "content", counts r.content) ∷ (codes "features", list part r.features)
    ∷ (codes "functions", list total r.functions) ∷ (codes "ok", string (trace_text r.kind)) ∷ (codes "structures", counts r.structures)
    ∷ (codes "version", count version) ∷ [])

abbrev pub reply_value : Reply → Data
reply_value (reply.Edited areas id word version) = object_of (
    (codes "areas", counts areas) ∷ (codes "id", count id) ∷ (codes "ok", string (edit_text word)) ∷ (codes "version", count version) ∷ [])
reply_value (reply.Batch areas ids version) = object_of (
    (codes "areas", counts areas) ∷ (codes "ids", counts ids) ∷ (codes "ok", string (codes "batch")) ∷ (codes "version", count version) ∷ [])
reply_value (reply.Ruled areas rules version) = object_of (
    (codes "areas", counts areas) ∷ (codes "ok", string (codes "rule")) ∷ (codes "rules", count rules) ∷ (codes "version", count version) ∷ [])
reply_value (reply.Validated cleared errors version) = object_of (
    (codes "cleared", count cleared) ∷ (codes "errors", count errors) ∷ (codes "ok", string (codes "validate")) ∷ (codes "version", count version) ∷ [])
reply_value (reply.Updated row version) = object_of (
    (codes "members", count (stored_members row)) ∷ (codes "ok", string (codes "update")) ∷ (codes "status", string (stored_status row))
    ∷ (codes "version", count version) ∷ [])
reply_value (reply.Version version) = object_of ((codes "ok", string (codes "version")) ∷ (codes "version", count version) ∷ [])
reply_value (reply.Feature feature version) = feature_value feature version
reply_value (reply.Dirty areas version) = object_of (
    (codes "areas", list area areas) ∷ (codes "ok", string (codes "dirty")) ∷ (codes "version", count version) ∷ [])
reply_value (reply.Errors errors version) = object_of (
    (codes "errors", list placed_error errors) ∷ (codes "ok", string (codes "errors")) ∷ (codes "version", count version) ∷ [])
reply_value (reply.Subnet controllers members status subnet tier updated version) = object_of (
    (codes "controllers", list port controllers) ∷ (codes "members", counts members) ∷ (codes "ok", string (codes "subnet")) ∷ (codes "status", string (status_text status))
    ∷ (codes "subnet", string subnet) ∷ (codes "tier", string tier) ∷ (codes "updated", count updated) ∷ (codes "version", count version) ∷ [])
reply_value (reply.Traced result version) = result_value result version
reply_value (reply.Controllers controllers version) = object_of (
    (codes "controllers", list controller controllers) ∷ (codes "ok", string (codes "controllers")) ∷ (codes "version", count version) ∷ [])
reply_value (reply.Loops segments version) = object_of (
    (codes "ok", string (codes "loops")) ∷ (codes "segments", list segment segments) ∷ (codes "version", count version) ∷ [])
reply_value (reply.Isolation borders features version) = object_of (
    (codes "borders", list port borders) ∷ (codes "features", list part features) ∷ (codes "ok", string (codes "isolation")) ∷ (codes "version", count version) ∷ [])
reply_value (reply.Path walk_cost labels nodes version) = object_of (
    (codes "cost", cost walk_cost) ∷ (codes "labels", list label labels) ∷ (codes "nodes", list port nodes) ∷ (codes "ok", string (codes "path"))
    ∷ (codes "version", count version) ∷ [])
reply_value (reply.Check valid version) = object_of (
    (codes "ok", string (codes "check")) ∷ (codes "valid", boolean valid) ∷ (codes "version", count version) ∷ [])
reply_value (reply.Diagram edges kept pieces version) = object_of (
    (codes "edges", list edge edges) ∷ (codes "kept", list port kept) ∷ (codes "ok", string (codes "diagram")) ∷ (codes "pieces", list piece pieces)
    ∷ (codes "version", count version) ∷ [])
reply_value (reply.Refused refusal edit version) = refusal_value refusal edit version

-- the text of a reply
abbrev pub print : Reply → List ℕ
print r = compact_text (reply_value r)

-- the reply to a query at a past version: the reply or refusal at that version, and a version that is reported beside it
abbrev pub past_value : Reply → ℕ → Data
past_value past version = object_of (
    (codes "ok", string (codes "past")) ∷ (codes "past", reply_value past) ∷ (codes "version", count version) ∷ [])

-- its text
abbrev pub past_text : Reply → ℕ → List ℕ
past_text past version = compact_text (past_value past version)

-- the text of a reply, and what stands round it in the reply to a query at a past version
abbrev pub past_around : List ℕ → ℕ → List ℕ
past_around text version =
    codes "{\"ok\":\"past\",\"past\":" ++ (text ++ (codes ",\"version\":" ++ (compact_text (count version) ++ codes "}")))

-- so the reply at that version may be printed first
abbrev pub PastAroundLaw : Type 0
PastAroundLaw = (past : Reply) (version : ℕ) → past_text past version ≡ past_around (print past) version
