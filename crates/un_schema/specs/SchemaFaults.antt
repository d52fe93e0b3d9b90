-- What a fault of a schema names.
use Rattle.std.specs.Prelude.{⊤}
use Rattle.un_terms.specs.declared.fault.TermFault.{TermFault}
use Rattle.un_terms.specs.declared.fault.TermFault.TheVariants.{BadPair, Memory as TermMemory}
use Rattle.un_schema.specs.declared.place.Place.{Place}
use Rattle.un_schema.specs.declared.schema_fault.SchemaFault.{SchemaFault}
use Rattle.un_schema.specs.declared.schema_fault.SchemaFault.TheVariants.{BadSchema, Memory}
use Rattle.un_schema.specs.declared.schema_fault.MemberFault.{MemberFault}
use Rattle.un_schema.specs.declared.schema_fault.MemberFault.TheVariants.{Bad, Memory as MemberMemory}

-- what holds of the place that a fault names, if it names one
abbrev pub OnBadSchema : SchemaFault → (Place → Type 0) → Type 0
OnBadSchema (BadSchema place) P = P place
OnBadSchema Memory P = ⊤

-- a configuration that is not taken makes its member bad
abbrev pub of_terms : TermFault → MemberFault
of_terms (BadPair path) = Bad
of_terms TermMemory = MemberMemory
