-- The refusals as values: the table of their numbers and names, and of what each carries.
use Rattle.std.specs.Prelude.{ℕ, Bool, not, ◌||◌, ◌==◌, if◌then◌else◌, List, [], ◌∷◌, ◌++◌, codes, Option, Some, None, true}
use Rattle.serde_json.specs.Data.{Data, null, boolean, string, object, member, no_members}
use Rattle.un_geom.specs.declared.point.Point.{Point}
use Rattle.un_schema.specs.Places.{place_text}
use Rattle.un_defs.specs.declared.refusal.Refusal.{Refusal}
use Rattle.un_defs.specs.declared.refusal.Refusal.TheVariants as refusal
use Rattle.un_defs.specs.declared.refusal.Limit.{Limit}
use Rattle.un_defs.specs.declared.refusal.Limit.TheVariants as limit
use Rattle.un_values.specs.Values.{count, whole, tuple, object_of}

-- what there is a greatest number of
abbrev pub limit_text : Limit → List ℕ
limit_text limit.Numbers = codes "numbers"
limit_text limit.Features = codes "features"
limit_text limit.Areas = codes "areas"
limit_text limit.Associations = codes "associations"
limit_text limit.Contents = codes "contents"
limit_text limit.Controllers = codes "controllers"
limit_text limit.Subnetworks = codes "subnetworks"
limit_text limit.Rules = codes "rules"

-- a point, or null where there is none
abbrev pub placed : Option Point → Data
placed None = null
placed (Some p) = tuple (whole p.x ∷ whole p.y ∷ whole p.z ∷ [])

-- a refusal's number, its name and what it carries
pub record RefusalFields : Type 0 where
  pub error : ℕ
  pub name : List ℕ
  pub carried : List (List ℕ × Data)

abbrev pub refusal_fields : ℕ → List ℕ → List (List ℕ × Data) → RefusalFields
refusal_fields error name carried = record { error = error; name = name; carried = carried }

abbrev pub fields_of : Refusal → RefusalFields
fields_of refusal.NotJson = refusal_fields 1 (codes "NotJson") []
fields_of (refusal.BadRequest place) = refusal_fields 2 (codes "BadRequest") ((codes "place", string (place_text place)) ∷ [])
fields_of refusal.LineTooLong = refusal_fields 3 (codes "LineTooLong") []
fields_of (refusal.BadSchema place) = refusal_fields 6 (codes "BadSchema") ((codes "place", string (place_text place)) ∷ [])
fields_of (refusal.NoSuchFeature id) = refusal_fields 10 (codes "NoSuchFeature") ((codes "id", count id) ∷ [])
fields_of (refusal.Moved at) = refusal_fields 11 (codes "Moved") ((codes "at", count at) ∷ [])
fields_of (refusal.BadShape place) = refusal_fields 12 (codes "BadShape") ((codes "place", count place) ∷ [])
fields_of (refusal.NoSuchKind kind) = refusal_fields 13 (codes "NoSuchKind") ((codes "kind", string kind) ∷ [])
fields_of (refusal.BadAttribute attribute) = refusal_fields 14 (codes "BadAttribute") ((codes "attribute", string attribute) ∷ [])
fields_of (refusal.BadTerminal feature) = refusal_fields 15 (codes "BadTerminal") ((codes "feature", count feature) ∷ [])
fields_of refusal.BadPath = refusal_fields 16 (codes "BadPath") []
fields_of (refusal.HasAssociations least) = refusal_fields 17 (codes "HasAssociations") ((codes "least", count least) ∷ [])
fields_of refusal.HasControllers = refusal_fields 18 (codes "HasControllers") []
fields_of refusal.NoSuchAssociation = refusal_fields 19 (codes "NoSuchAssociation") []
fields_of refusal.WrongKind = refusal_fields 20 (codes "WrongKind") []
fields_of (refusal.AlreadyContained by) = refusal_fields 21 (codes "AlreadyContained") ((codes "by", count by) ∷ [])
fields_of refusal.ContainsItself = refusal_fields 22 (codes "ContainsItself") []
fields_of refusal.NoSuchTier = refusal_fields 23 (codes "NoSuchTier") []
fields_of refusal.NotController = refusal_fields 24 (codes "NotController") []
fields_of refusal.ControllerExists = refusal_fields 25 (codes "ControllerExists") []
fields_of refusal.NoSuchController = refusal_fields 26 (codes "NoSuchController") []
fields_of refusal.NoSuchSubnetwork = refusal_fields 27 (codes "NoSuchSubnetwork") []
fields_of (refusal.Conflict subnet feature port) = refusal_fields 28 (codes "Conflict") ((codes "subnet", string subnet) ∷ (codes "feature", count feature) ∷ (codes "port", count port) ∷ [])
fields_of (refusal.Disjoint feature port) = refusal_fields 29 (codes "Disjoint") ((codes "feature", count feature) ∷ (codes "port", count port) ∷ [])
fields_of (refusal.Full what) = refusal_fields 30 (codes "Full") ((codes "what", string (limit_text what)) ∷ [])
fields_of (refusal.Ahead seen latest) = refusal_fields 31 (codes "Ahead") ((codes "seen", count seen) ∷ (codes "latest", count latest) ∷ [])
fields_of (refusal.NoStart feature port) = refusal_fields 40 (codes "NoStart") ((codes "feature", count feature) ∷ (codes "port", count port) ∷ [])
fields_of (refusal.StartIsValve feature terminal) = refusal_fields 41 (codes "StartIsValve") ((codes "feature", count feature) ∷ (codes "terminal", count terminal) ∷ [])
fields_of (refusal.BadCondition place) = refusal_fields 42 (codes "BadCondition") ((codes "place", string (place_text place)) ∷ [])
fields_of (refusal.DirtyGround area feature port) = refusal_fields 43 (codes "DirtyGround") ((codes "area", count area) ∷ (codes "feature", count feature) ∷ (codes "port", count port) ∷ [])
fields_of (refusal.NotIsolable feature terminal) = refusal_fields 44 (codes "NotIsolable") ((codes "feature", count feature) ∷ (codes "terminal", count terminal) ∷ [])
fields_of (refusal.BadRuleTerminal place) = refusal_fields 45 (codes "BadRuleTerminal") ((codes "place", count place) ∷ [])
fields_of (refusal.RuleExists place) = refusal_fields 46 (codes "RuleExists") ((codes "place", count place) ∷ [])
fields_of (refusal.NotYet at latest) = refusal_fields 47 (codes "NotYet") ((codes "at", count at) ∷ (codes "latest", count latest) ∷ [])
fields_of refusal.ServeOnly = refusal_fields 48 (codes "ServeOnly") []
fields_of (refusal.WrongPage after at) = refusal_fields 49 (codes "WrongPage") ((codes "after", placed after) ∷ (codes "at", count at) ∷ [])
fields_of (refusal.BadSpan since upto) = refusal_fields 50 (codes "BadSpan") ((codes "since", count since) ∷ (codes "upto", count upto) ∷ [])
fields_of refusal.Memory = refusal_fields 0 [] []

-- The version stands in each refusal but of a line that is no request or too long, of one that is no schema, of a query that wants a later
-- version, one that is not there yet or one that only a server answers, and of a page that a follower does not take.
abbrev pub has_version : ℕ → Bool
has_version error = not (error == 1 || error == 2 || error == 3 || error == 6 || error == 31 || error == 47 || error == 48 || error == 49)

-- the place of the refused edit in a batch
abbrev pub edit_member : Option ℕ → List (List ℕ × Data)
edit_member None = []
edit_member (Some edit) = (codes "edit", count edit) ∷ []

abbrev pub version_member : Bool → ℕ → List (List ℕ × Data)
version_member given version = if given then (codes "version", count version) ∷ [] else []

-- a refusal that is told in this way
abbrev pub fields_value : RefusalFields → Option ℕ → ℕ → Data
fields_value t edit version = object_of (
    (codes "error", count t.error) ∷ (codes "name", string t.name) ∷ t.carried ++ (edit_member edit ++ version_member (has_version t.error) version))

-- A refusal as a value, at a version of the state. Want of memory is told by itself.
abbrev pub refusal_value : Refusal → Option ℕ → ℕ → Data
refusal_value refusal.Memory edit version = object (member (codes "memory") (boolean true) no_members)
refusal_value other edit version = fields_value (fields_of other) edit version
