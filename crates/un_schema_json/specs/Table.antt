-- The members of a schema: the form of each, and how many elements it may have. In this order they are looked at.
use Rattle.std.specs.Prelude.{ℕ, ◌==◌, false, List, [], ◌∷◌, Option, None, Some, option_and_then, if◌then◌else◌, codes}
use Rattle.serde_json.specs.Data.{Data}
use Rattle.serde_json.specs.Find.{get, as_number, as_u64}
use Rattle.un_schema.specs.declared.place.Place.{Place}
use Rattle.un_schema.specs.declared.place.Place.TheVariants as place
use Rattle.un_schema.specs.Places.{place_text}
use Rattle.un_schema.specs.declared.kind.Class.TheVariants.{Junction, Line}
use Rattle.un_schema.specs.declared.kind.Policy.TheVariants.{EndVertex, NoLine}
use Rattle.un_schema.specs.declared.raw.Format.{Format}
use Rattle.un_schema.specs.declared.raw.Format.TheVariants.{One, Two}
use Rattle.un_schema.specs.declared.raw.RawSchema.{RawSchema}
use Rattle.un_schema.specs.declared.raw.RawKind.{RawKind}
use Rattle.un_schema.specs.declared.raw.RawRule.TheVariants.{JunctionEdge}
use Rattle.un_tiers.specs.Raw.{WrittenTier}
use Rattle.un_json.specs.Forms.{list_from_to}
use Rattle.un_schema_json.specs.declared.source.Source.{Source}
use Rattle.un_schema_json.specs.declared.source.Source.TheVariants.{BuiltIn, Given}
use Rattle.un_schema_json.specs.Parts.{texts, config_of, kind_of, rule_of, tier_of}

-- the member, if it is there and has the form
abbrev pub member_of : {A : Type 0} → Place → (Data → Option A) → Data → Option A
member_of p form d = option_and_then form (get (place_text p) d)

-- ---- where the schema is

abbrev pub source_numbered : ℕ → Option Source
source_numbered n =
    if n == 0 then Some BuiltIn else (if n == 1 then Some (Given One) else (if n == 2 then Some (Given Two) else None))

-- schema: 0 for the schema that is built in, 1 and 2 for the formats of those that are given
abbrev pub source_of : Data → Option Source
source_of d = option_and_then source_numbered (option_and_then as_u64 (as_number d))

-- ---- a schema that is given

abbrev pub given : Format → Data → RawSchema
given format d = record {
  format = format;
  attributes = member_of place.Attributes (texts 32) d;
  categories = member_of place.Categories (texts 32) d;
  configs = member_of place.Configs (list_from_to 0 64 config_of) d;
  kinds = member_of place.Kinds (list_from_to 0 256 kind_of) d;
  rules = member_of place.Rules (list_from_to 0 4096 rule_of) d;
}

abbrev pub tiers_of : Data → Option (List WrittenTier)
tiers_of d = member_of place.Tiers (list_from_to 0 16 tier_of) d

-- no other members
abbrev pub given_places : List Place
given_places =
    place.Schema ∷ place.Attributes ∷ place.Categories ∷ place.Configs ∷ place.Kinds ∷ place.Rules ∷ place.Tiers ∷ []

-- ---- the schema that is built in: joints, pipes, and that a pipe may connect to a joint

abbrev pub joint : RawKind
joint = record {
  name = codes "joint";
  class = Junction;
  group = 1;
  asset_type = 1;
  policy = NoLine;
  config = [];
  categories = [];
  controller = false;
}

abbrev pub pipe : RawKind
pipe = record {
  name = codes "pipe";
  class = Line;
  group = 1;
  asset_type = 1;
  policy = EndVertex;
  config = [];
  categories = [];
  controller = false;
}

abbrev pub built_in : RawSchema
built_in = record {
  format = One;
  attributes = Some [];
  categories = Some [];
  configs = Some [];
  kinds = Some (joint ∷ pipe ∷ []);
  rules = Some (JunctionEdge (codes "joint") 0 (codes "pipe") ∷ []);
}

abbrev pub built_in_places : List Place
built_in_places = place.Schema ∷ []
