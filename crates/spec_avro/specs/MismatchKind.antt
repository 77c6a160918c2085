-- What can keep a datum from its reader: its names and numbers. All of this is this project's own.
use Rattle.std.specs.Prelude.{ℕ, List, codes}
use Rattle.spec_avro.specs.declared.mismatch.MismatchKind.{MismatchKind}
use Rattle.spec_avro.specs.declared.mismatch.MismatchKind.TheVariants as kinds

abbrev pub name_of : MismatchKind → List ℕ
name_of kinds.NoMatch = codes "NoMatch"
name_of kinds.NoBranch = codes "NoBranch"
name_of kinds.NoSymbol = codes "NoSymbol"
name_of kinds.NoDefault = codes "NoDefault"
name_of kinds.BytesNotText = codes "BytesNotText"

-- the number by which images tell it
abbrev pub code_of : MismatchKind → ℕ
code_of kinds.NoMatch = 1
code_of kinds.NoBranch = 2
code_of kinds.NoSymbol = 3
code_of kinds.NoDefault = 4
code_of kinds.BytesNotText = 5
