-- Why an input is not answered, in one line. The lines are this project's own.
use Rattle.std.specs.Prelude.{◌≡◌, ℕ, List, [], ◌∷◌, ◌++◌, codes}
use Rattle.std.specs.Fmt.{decimal}
use Rattle.spec_schema.specs.SchemaError.{name_of}
use Rattle.spec_lines.specs.ListingFaults.{name_of_fault}
use Rattle.spec_lines.specs.declared.refusal.Refusal.{Refusal}
use Rattle.spec_lines.specs.declared.refusal.Refusal.TheVariants as refusals
use Rattle.spec_lines.specs.declared.status.Status.{Status}
use Rattle.spec_lines.specs.declared.status.Status.TheVariants.{Refused}

abbrev pub text_of : Refusal → List ℕ
text_of (refusals.BadSchema line error) = codes "bad schema " ++ decimal line ++ codes " " ++ name_of error
text_of (refusals.BadListing fault) =
    codes "bad listing " ++ decimal fault.line ++ codes " " ++ name_of_fault fault.kind
text_of refusals.ProgramTooLarge = codes "program too large"
text_of refusals.BadHex = codes "bad hex"
text_of refusals.TooLarge = codes "too large"
-- (no output is this line: want of memory ends the program with its own status and nothing written)
text_of refusals.NoMemory = codes "out of memory"

-- the output is the line of a refusal
abbrev pub IsRefused : Refusal → List ℕ → Status → Type 0
IsRefused refusal output status = (output ≡ text_of refusal ++ 10 ∷ []) × (status ≡ Refused)
