-- For private clauses: what reading a listing returns, and the lists that lines are added to.
use Rattle.std.specs.Prelude.{◌≡◌, ℕ, Bool, ◌&&◌, nat_lt, List, [], ◌∷◌, ◌++◌, length, Result, Ok, Err}
use Rattle.spec_machine.specs.declared.limits.TheConstants.{MOST_TABLES}
use Rattle.spec_machine.specs.declared.program_error.ProgramError.{ProgramError}
use Rattle.spec_machine.specs.declared.program_error.ProgramError.TheVariants as wrong
use Rattle.spec_machine.specs.Program.{Program}
use Rattle.spec_machine.specs.declared.listing_fault.AsmError.{AsmError}
use Rattle.spec_machine.specs.declared.listing_fault.AsmError.TheVariants as errors
use Rattle.spec_machine.specs.declared.listing_fault.AsmFault.{AsmFault}
use Rattle.spec_machine.specs.Assembling.{◌>>=◌, checked, is_before_maps, fits_constant}

-- What a function returned, seen by a view, is what assembling gives, unless memory ran out.
abbrev pub Fails : {Y : Type 0} → AsmError → Result Y AsmFault → Type 0
Fails errors.NoMemory read = Unit {0}
Fails (errors.Fault f) read = read ≡ Err f

abbrev pub Gives : {X Y : Type 0} → (X → Y) → Result X AsmError → Result Y AsmFault → Type 0
Gives view (Ok x) read = read ≡ Ok (view x)
Gives view (Err e) read = Fails e read

-- one list more, if it is in its place, has the next number, and there is room for it
abbrev pub with_list : {A : Type 0} → ℕ → Bool → List (List A) → ℕ → List A → Bool → Result (List (List A)) AsmFault
with_list at here lists number list fits = do
  _ ← checked at here (length lists) number (nat_lt (length lists) MOST_TABLES && fits)
  Ok (lists ++ list ∷ [])

-- a constant more
abbrev pub pushed_constant : ℕ → Program → ℕ → List ℕ → Result Program AsmFault
pushed_constant at P number bytes = do
  _ ← checked at (is_before_maps P) (length P.constants) number (fits_constant P bytes)
  Ok (record P { constants = P.constants ++ bytes ∷ [] })

-- which map, jump table, miss or instruction is out of range
abbrev pub index_of : ProgramError → ℕ
index_of (wrong.Entry map entry) = map
index_of (wrong.Address table address) = table
index_of (wrong.Miss miss) = miss
index_of (wrong.Instr address) = address
index_of _ = 0
