-- The line of the built-in schema.
use Rattle.std.specs.Prelude.{◌≡◌, ℕ, List, [], codes, Ok, Err}
use Rattle.std.proofs.Common.{refl, sym, ap, ◌∙◌}
use Rattle.std.specs.Str.{is_utf8, chars}
use Rattle.serde_json.proofs.OnLiterals.{serde_json_on_literals}
use Rattle.un_schema.specs.declared.place.Place.{Place}
use Rattle.un_schema.specs.declared.schema_fault.SchemaFault.{SchemaFault}
use Rattle.un_schema.specs.declared.schema_fault.SchemaFault.TheVariants.{BadSchema, Memory}
use Rattle.un_schema.specs.SchemaFaults.{OnBadSchema}
use Rattle.un_schema.specs.Catalog.{Catalog}
use Rattle.un_schema.specs.Raw.{catalog_from}
use Rattle.un_tiers.specs.declared.tier.Tier.{Tier}
use Rattle.un_tiers.specs.declared.setup.Setup.{Setup}
use Rattle.un_json.specs.Rows.{required_member, no_others, is_named}
use Rattle.un_schema_json.specs.Table.{built_in}
use Rattle.un_schema_json.specs.Lines.{schema_of}
use Rattle.un_script.specs.Made.{built_in_setup}

abbrev line : List ℕ
line = codes "{\"schema\":0}"

of_line : schema_of line ≡ Ok (catalog_from built_in, [])
unfolding is_utf8 chars serde_json_on_literals required_member no_others is_named
of_line = refl

-- what the line sets up
pub set_up : (S : Catalog) (tiers : List Tier) → schema_of line ≡ Ok (S, tiers) → record { schema = S; tiers = tiers } ≡ built_in_setup
unfolding built_in_setup
set_up S tiers e = go (S, tiers) (cc (sym e ∙ of_line))
  where
    go : (both : Catalog × List Tier) → both ≡ (catalog_from built_in, []) → record { schema = both.0; tiers = both.1 } ≡ built_in_setup
    go both is = ap (λ (b : Catalog × List Tier). let made : Setup = record { schema = b.0; tiers = b.1 } in made) is

-- it is not bad
pub not_bad : (fault : SchemaFault) (place : Place) → OnBadSchema fault (λ p. schema_of line ≡ Err p) → fault ≡ BadSchema place → ⊥
not_bad (BadSchema p) place bad is = cc (sym bad ∙ of_line)
not_bad Memory place bad is = cc
