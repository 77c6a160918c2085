-- The names of what can be wrong with bytes.
use Rattle.std.specs.Prelude.{ℕ, List, codes}
use Rattle.spec_avro.specs.declared.malformed.MalformedKind.{MalformedKind}
use Rattle.spec_avro.specs.declared.malformed.MalformedKind.TheVariants as kinds

abbrev pub name_of : MalformedKind → List ℕ
name_of kinds.BadNumber = codes "BadNumber"
name_of kinds.BadBoolean = codes "BadBoolean"
name_of kinds.BadLength = codes "BadLength"
name_of kinds.BadText = codes "BadText"
name_of kinds.BadEnum = codes "BadEnum"
name_of kinds.BadBranch = codes "BadBranch"
name_of kinds.BadBlock = codes "BadBlock"
name_of kinds.TooDeep = codes "TooDeep"
name_of kinds.TooMany = codes "TooMany"
name_of kinds.Truncated = codes "Truncated"
name_of kinds.Trailing = codes "Trailing"
