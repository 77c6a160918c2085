-- The names of what can be wrong with a listing. This project's own.
use Rattle.std.specs.Prelude.{ℕ, List, codes}
use Rattle.spec_machine.specs.declared.listing_fault.AsmErrorKind.{AsmErrorKind}
use Rattle.spec_machine.specs.declared.listing_fault.AsmErrorKind.TheVariants as kinds

abbrev pub name_of_fault : AsmErrorKind → List ℕ
name_of_fault kinds.BadHeader = codes "BadHeader"
name_of_fault kinds.BadLine = codes "BadLine"
name_of_fault kinds.BadIndex = codes "BadIndex"
name_of_fault kinds.TooLarge = codes "TooLarge"
name_of_fault kinds.NoCode = codes "NoCode"
name_of_fault kinds.OutOfRange = codes "OutOfRange"
