-- A schema that is good, and one that is bad.
use Rattle.std.proofs.Common.{◌≡◌, None, Some, Result, Ok, Err, IfOk, IfErr, OnOk, sym, ap, ◌∙◌}
use Rattle.un_schema.specs.declared.raw.RawSchema.{RawSchema}
use Rattle.un_schema.specs.declared.schema_fault.SchemaFault.{SchemaFault}
use Rattle.un_schema.specs.declared.schema_fault.SchemaFault.TheVariants.{BadSchema, Memory}
use Rattle.un_schema.specs.Catalog.{Catalog}
use Rattle.un_schema.specs.Raw.{bad_place, catalog_from}
use Rattle.un_schema.specs.SchemaFaults.{OnBadSchema}
use Rattle.un_schema_json.specs.Lines.{catalog_or, catalog_of}

pub good_catalog : (s : RawSchema) (r : Result Catalog SchemaFault) → IfOk r (λ S. S ≡ catalog_from s) → OnOk r (bad_place s ≡ None)
    → IfOk r (λ S. catalog_of s ≡ Ok S)
good_catalog s (Ok S) is good = ap (catalog_or s) good ∙ ap Ok (sym is)
good_catalog s (Err fault) is good = tt

bad_member : (s : RawSchema) (fault : SchemaFault) → OnBadSchema fault (λ p. bad_place s ≡ Some p) → OnBadSchema fault (λ p. catalog_of s ≡ Err p)
bad_member s (BadSchema p) bad = ap (catalog_or s) bad
bad_member s Memory bad = tt

pub bad_catalog : (s : RawSchema) (r : Result Catalog SchemaFault) → IfErr r (λ fault. OnBadSchema fault (λ p. bad_place s ≡ Some p))
    → IfErr r (λ fault. OnBadSchema fault (λ p. catalog_of s ≡ Err p))
bad_catalog s (Ok S) bad = tt
bad_catalog s (Err fault) bad = bad_member s fault bad
