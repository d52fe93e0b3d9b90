-- The schema that a line is, is a catalog as each is.
use Rattle.std.proofs.Common.{◌≡◌, ℕ, nat_lt, Bool, true, false, if◌then◌else◌, List, [], length, Option, None, Some, is_some, Result, Ok, Err, IfOk, refl, subst}
use Rattle.serde_json.specs.Data.{Data}
use Rattle.serde_json.specs.Find.{as_object}
use Rattle.un_schema.specs.declared.place.Place.{Place}
use Rattle.un_schema.specs.declared.place.Place.TheVariants as place
use Rattle.un_schema.specs.declared.raw.RawSchema.{RawSchema}
use Rattle.un_schema.specs.Catalog.{Catalog}
use Rattle.un_schema.specs.Sound.{IsCatalog}
use Rattle.un_schema.specs.Raw.{bad_place, catalog_from}
use Rattle.un_schema.proofs.GoodSchemas.{good_schema}
use Rattle.un_tiers.specs.declared.tier.Tier.{Tier}
use Rattle.un_json.specs.Rows.{required_member, no_others, without_others, mapped, and_then}
use Rattle.un_json.specs.Requests.{json_of}
use Rattle.un_schema_json.specs.declared.source.Source.{Source}
use Rattle.un_schema_json.specs.declared.source.Source.TheVariants.{BuiltIn, Given}
use Rattle.un_schema_json.specs.Table.{source_of, given, given_places, tiers_of, built_in, built_in_places}
use Rattle.un_schema_json.specs.Lines.{catalog_or, catalog_of, tiers_over, with_tiers, schema_from, object_schema, value_schema, schema_of}
use Rattle.un_schema_json.specs.Sound.{SchemaLaw}

-- what is read, if it is, has a catalog as each is
abbrev IsGood : Result (Catalog × List Tier) Place → Type 0
IsGood r = IfOk r (λ schema. IsCatalog schema.0)

catalog_good : (s : RawSchema) → IfOk (catalog_of s) IsCatalog
catalog_good s = go (bad_place s) refl
  where
    go : (o : Option Place) → bad_place s ≡ o → IfOk (catalog_or s o) IsCatalog
    go None e = good_schema s e
    go (Some p) e = tt

tiers_good : (S : Catalog) (tiers : Result (List Tier) Place) → IsCatalog S → IsGood (mapped (λ tiers. (S, tiers)) tiers)
tiers_good S (Err p) is = tt
tiers_good S (Ok tiers) is = is

with_tiers_good : (d : Data) (r : Result Catalog Place) → IfOk r IsCatalog → IsGood (and_then (with_tiers d) r)
with_tiers_good d (Err p) is = tt
with_tiers_good d (Ok S) is = tiers_good S (tiers_over S (tiers_of d)) is

others_good : (r : Result (Catalog × List Tier) Place) (others : Result (Unit {0}) Place) → IsGood r → IsGood (without_others r others)
others_good (Err p) others is = tt
others_good (Ok schema) (Err p) is = tt
others_good (Ok schema) (Ok u) is = is

built_in_good : IsCatalog (catalog_from built_in)
built_in_good = good_schema built_in refl

source_good : (source : Source) (d : Data) → IsGood (schema_from source d)
source_good BuiltIn d = others_good (Ok (catalog_from built_in, [])) (no_others built_in_places d) built_in_good
source_good (Given format) d =
    others_good (and_then (with_tiers d) (catalog_of (given format d))) (no_others given_places d)
    (with_tiers_good d (catalog_of (given format d)) (catalog_good (given format d)))

object_good : (d : Data) → IsGood (object_schema d)
object_good d = go (required_member place.Schema source_of d)
  where
    go : (r : Result Source Place) → IsGood (and_then (λ source. schema_from source d) r)
    go (Err p) = tt
    go (Ok source) = source_good source d

value_good : (o : Option Data) → IsGood (value_schema o)
value_good None = tt
value_good (Some d) = go (is_some (as_object d))
  where
    go : (b : Bool) → IsGood (if b then object_schema d else Err place.Whole)
    go true = object_good d
    go false = tt

line_good : (line : List ℕ) → IsGood (schema_of line)
line_good line = go (nat_lt 1048576 (length line))
  where
    go : (b : Bool) → IsGood (if b then Err place.Line else value_schema (json_of line))
    go true = tt
    go false = value_good (json_of line)

pub schema_is_catalog : SchemaLaw
schema_is_catalog line schema e = subst IsGood e (line_good line)
