-- The schema and the tiers that a line is, or the first place where it is bad.
use Rattle.std.specs.Prelude.{ℕ, nat_lt, List, [], length, map, Option, None, Some, is_some, Result, Ok, Err, if◌then◌else◌}
use Rattle.serde_json.specs.Data.{Data}
use Rattle.serde_json.specs.Find.{as_object}
use Rattle.un_schema.specs.declared.place.Place.{Place}
use Rattle.un_schema.specs.declared.place.Place.TheVariants as place
use Rattle.un_schema.specs.declared.raw.Format.{Format}
use Rattle.un_schema.specs.declared.raw.RawSchema.{RawSchema}
use Rattle.un_schema.specs.Catalog.{Catalog}
use Rattle.un_schema.specs.Raw.{bad_place, catalog_from}
use Rattle.un_tiers.specs.declared.tier.Tier.{Tier}
use Rattle.un_tiers.specs.Raw.{WrittenTier, first_bad, tier_from}
use Rattle.un_json.specs.Rows.{required_member, no_others, without_others, mapped, and_then}
use Rattle.un_json.specs.Requests.{json_of}
use Rattle.un_schema_json.specs.declared.source.Source.{Source}
use Rattle.un_schema_json.specs.declared.source.Source.TheVariants.{BuiltIn, Given}
use Rattle.un_schema_json.specs.Table.{source_of, given, given_places, tiers_of, built_in, built_in_places}

-- the schema, or its first bad member
abbrev pub catalog_or : RawSchema → Option Place → Result Catalog Place
catalog_or s None = Ok (catalog_from s)
catalog_or s (Some p) = Err p

abbrev pub catalog_of : RawSchema → Result Catalog Place
catalog_of s = catalog_or s (bad_place s)

-- the tiers over the attributes and the categories of a schema, if none of them is bad
abbrev pub tiers_or : Catalog → List WrittenTier → Option ℕ → Result (List Tier) Place
tiers_or S tiers None = Ok (map (tier_from S.attributes S.categories) tiers)
tiers_or S tiers (Some n) = Err place.Tiers

abbrev pub tiers_over : Catalog → Option (List WrittenTier) → Result (List Tier) Place
tiers_over S None = Err place.Tiers
tiers_over S (Some tiers) = tiers_or S tiers (first_bad S.attributes S.categories [] tiers)

-- both
abbrev pub with_tiers : Data → Catalog → Result (Catalog × List Tier) Place
with_tiers d S = mapped (λ tiers. (S, tiers)) (tiers_over S (tiers_of d))

-- a schema of a format: the first bad member in order, or else `extra` where there are other members
abbrev pub given_in : Format → Data → Result (Catalog × List Tier) Place
given_in format d = without_others (and_then (with_tiers d) (catalog_of (given format d))) (no_others given_places d)

-- the schema that is built in: it has no tiers, and no other members stand beside its number
abbrev pub built_in_by : Data → Result (Catalog × List Tier) Place
built_in_by d = without_others (Ok (catalog_from built_in, [])) (no_others built_in_places d)

abbrev pub schema_from : Source → Data → Result (Catalog × List Tier) Place
schema_from BuiltIn d = built_in_by d
schema_from (Given format) d = given_in format d

-- the schema that an object is
abbrev pub object_schema : Data → Result (Catalog × List Tier) Place
object_schema d = and_then (λ source. schema_from source d) (required_member place.Schema source_of d)

abbrev pub value_schema : Option Data → Result (Catalog × List Tier) Place
value_schema None = Err place.Whole
value_schema (Some d) = if is_some (as_object d) then object_schema d else Err place.Whole

-- the schema and the tiers that a line is, or the first place where it is bad
abbrev pub schema_of : List ℕ → Result (Catalog × List Tier) Place
schema_of line = if nat_lt 1048576 (length line) then Err place.Line else value_schema (json_of line)
