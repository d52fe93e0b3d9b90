-- A follower opens by a schema's line.
use Rattle.std.proofs.Common.{◌≡◌, List, is_some, is_ok, Result, Ok, Err, refl}
use Rattle.un_schema.specs.declared.place.Place.{Place}
use Rattle.un_schema.specs.Catalog.{Catalog}
use Rattle.un_tiers.specs.declared.tier.Tier.{Tier}
use Rattle.un_schema_json.specs.Lines.{schema_of}
use Rattle.un_script.specs.Opening.{OpensBySchema}
use Rattle.un_script.specs.Following.{follow, opened_by}

opens : (schema : Result (Catalog × List Tier) Place) → is_some (opened_by schema) ≡ is_ok schema
opens (Ok schema) = refl
opens (Err place) = refl

pub follow_opens : OpensBySchema follow
follow_opens = record {
  opens = λ line. opens (schema_of line);
  refuses = λ line. refl;
  refuses_too_long = refl;
  refuses_missing = refl;
}
