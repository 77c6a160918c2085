-- The names of the faults of a schema's text. This project's own.
use Rattle.std.specs.Prelude.{ℕ, List, codes}
use Rattle.spec_schema.specs.declared.schema_error.SchemaError.{SchemaError}
use Rattle.spec_schema.specs.declared.schema_error.SchemaError.TheVariants as errors

abbrev pub name_of : SchemaError → List ℕ
name_of errors.TooLarge = codes "TooLarge"
name_of errors.NotJson = codes "NotJson"
name_of errors.BadNumber = codes "BadNumber"
name_of errors.Unknown = codes "Unknown"
name_of errors.OutOfProfile = codes "OutOfProfile"
name_of errors.BadName = codes "BadName"
name_of errors.Redefined = codes "Redefined"
name_of errors.BadUnion = codes "BadUnion"
name_of errors.BadSymbols = codes "BadSymbols"
name_of errors.BadDefault = codes "BadDefault"
name_of errors.NoMemory = codes "NoMemory"
