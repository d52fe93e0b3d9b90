-- The parts of a refusal's text, for private clauses.
use Rattle.std.specs.Prelude.{ℕ, List, [], ◌∷◌, ◌++◌, codes}
use Rattle.json.specs.Print.{quoted}
use Rattle.serde_json.specs.Data.{Data, string}
use Rattle.serde_json.specs.Written.{compact_text}
use Rattle.un_schema.specs.Places.{place_text}
use Rattle.un_defs.specs.declared.refusal.Refusal.{Refusal}
use Rattle.un_defs.specs.declared.refusal.Refusal.TheVariants as refusal
use Rattle.un_values.specs.Values.{count}
use Rattle.un_replies.specs.Refusals.{limit_text, placed}

-- members with a comma behind each, and with a comma before each
abbrev pub leading : List (List ℕ × Data) → List ℕ
leading [] = []
leading (m ∷ ms) = quoted m.0 ++ 58 ∷ (compact_text m.1 ++ 44 ∷ leading ms)

abbrev pub following : List (List ℕ × Data) → List ℕ
following [] = []
following (m ∷ ms) = 44 ∷ (quoted m.0 ++ 58 ∷ (compact_text m.1 ++ following ms))

-- what is carried before `edit`
abbrev pub early : Refusal → List (List ℕ × Data)
early (refusal.Moved at) = (codes "at", count at) ∷ []
early (refusal.BadAttribute attribute) = (codes "attribute", string attribute) ∷ []
early (refusal.AlreadyContained by) = (codes "by", count by) ∷ []
early (refusal.DirtyGround area feature port) = (codes "area", count area) ∷ []
early (refusal.NotYet at latest) = (codes "at", count at) ∷ []
early (refusal.WrongPage after at) = (codes "after", placed after) ∷ (codes "at", count at) ∷ []
early other = []

-- what is carried between `error` and `name`
abbrev pub middle : Refusal → List (List ℕ × Data)
middle (refusal.NoSuchFeature id) = (codes "id", count id) ∷ []
middle (refusal.NoSuchKind kind) = (codes "kind", string kind) ∷ []
middle (refusal.BadTerminal feature) = (codes "feature", count feature) ∷ []
middle (refusal.HasAssociations least) = (codes "least", count least) ∷ []
middle (refusal.Conflict subnet feature port) = (codes "feature", count feature) ∷ []
middle (refusal.Disjoint feature port) = (codes "feature", count feature) ∷ []
middle (refusal.Ahead seen latest) = (codes "latest", count latest) ∷ []
middle (refusal.NoStart feature port) = (codes "feature", count feature) ∷ []
middle (refusal.StartIsValve feature terminal) = (codes "feature", count feature) ∷ []
middle (refusal.DirtyGround area feature port) = (codes "feature", count feature) ∷ []
middle (refusal.NotIsolable feature terminal) = (codes "feature", count feature) ∷ []
middle (refusal.NotYet at latest) = (codes "latest", count latest) ∷ []
middle other = []

-- what is carried between `name` and `version`
abbrev pub late : Refusal → List (List ℕ × Data)
late (refusal.BadRequest place) = (codes "place", string (place_text place)) ∷ []
late (refusal.BadSchema place) = (codes "place", string (place_text place)) ∷ []
late (refusal.BadShape place) = (codes "place", count place) ∷ []
late (refusal.Conflict subnet feature port) = (codes "port", count port) ∷ (codes "subnet", string subnet) ∷ []
late (refusal.Disjoint feature port) = (codes "port", count port) ∷ []
late (refusal.Ahead seen latest) = (codes "seen", count seen) ∷ []
late (refusal.NoStart feature port) = (codes "port", count port) ∷ []
late (refusal.StartIsValve feature terminal) = (codes "terminal", count terminal) ∷ []
late (refusal.BadCondition place) = (codes "place", string (place_text place)) ∷ []
late (refusal.DirtyGround area feature port) = (codes "port", count port) ∷ []
late (refusal.NotIsolable feature terminal) = (codes "terminal", count terminal) ∷ []
late (refusal.BadRuleTerminal place) = (codes "place", count place) ∷ []
late (refusal.RuleExists place) = (codes "place", count place) ∷ []
late (refusal.BadSpan since upto) = (codes "since", count since) ∷ (codes "upto", count upto) ∷ []
late other = []

-- what is carried behind `version`
abbrev pub last : Refusal → List (List ℕ × Data)
last (refusal.Full what) = (codes "what", string (limit_text what)) ∷ []
last other = []

-- an object up to its first member
abbrev pub opening : List ℕ × Data → List ℕ
opening m = 123 ∷ (quoted m.0 ++ 58 ∷ compact_text m.1)
