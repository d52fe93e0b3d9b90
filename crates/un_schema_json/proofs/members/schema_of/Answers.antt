use Rattle.std.proofs.Common.{◌≡◌, IfOk, IfErr, Ok, Err, subst}
use Rattle.un_schema.specs.declared.raw.RawSchema.{RawSchema}
use Rattle.un_schema.specs.SchemaFaults.{OnBadSchema}
use Rattle.un_schema_json.specs.Lines.{catalog_of}
use Rattle.un_schema_json.proofs.Catalogs.{good_catalog, bad_catalog}
use Rattle.un_schema_json.proofs.members.schema_of.Goals as goal

pub returns-clause-ok : goal.returns-clause-ok
returns-clause-ok c =
    subst (λ (s : RawSchema). IfOk c.new.result (λ schema. catalog_of s ≡ Ok schema)) c.in_ok-raw.ensures
    (good_catalog c.in_ok-raw.raw c.new.result c.new.ensures.ok c.new.ensures.good)

pub returns-clause-bad : goal.returns-clause-bad
returns-clause-bad c =
    subst (λ (s : RawSchema). IfErr c.new.result (λ fault. OnBadSchema fault (λ place. catalog_of s ≡ Err place))) c.in_ok-raw.ensures
    (bad_catalog c.in_ok-raw.raw c.new.result c.new.ensures.bad)
