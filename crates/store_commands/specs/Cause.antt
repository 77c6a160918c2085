-- Why the commands of a store were not printed. This project's own.
use Rattle.std.specs.Prelude.{◌≡◌, ◌+◌, ◌++◌, ◌∷◌, ℕ, List, length, Ok, Err, Option, None, Some, ⊤}
use Rattle.command_io.specs.declared.run_error.RunError.TheVariants as runs
use Rattle.line_journal.specs.Lines.{Line, lines_in}
use Rattle.line_journal.specs.declared.error.ReadError.{ReadError}
use Rattle.line_journal.specs.declared.error.ReadError.TheVariants as reads
use Rattle.registry_store.specs.Cause.{IsBadLine}
use Rattle.registry_store.specs.Store.{HasCommands}
use Rattle.registry_store.specs.Stored.{Stored}
use Rattle.registry_store.specs.declared.store_fault.OpenFault.{OpenFault}
use Rattle.registry_store.specs.declared.store_fault.OpenFault.TheVariants as stores
use Rattle.store_commands.specs.Listing.{HasNames}
use Rattle.store_commands.specs.declared.exporting.ExportFault.{ExportFault}
use Rattle.store_commands.specs.declared.exporting.ExportFault.TheVariants.{Traffic, Store, NotAccepted}
use Rattle.store_commands.specs.declared.listing.ListingFault.{ListingFault}
use Rattle.store_commands.specs.declared.listing.ListingFault.TheVariants as listings

-- ---- what each of these is reported as

abbrev pub IsOfRead : ReadError → ExportFault → Type 0
IsOfRead reads.NoMemory fault = fault ≡ Traffic runs.NoMemory
IsOfRead (reads.Damaged damage) fault = fault ≡ Store (stores.Damaged damage)

abbrev pub IsOfOpen : OpenFault → ExportFault → Type 0
IsOfOpen stores.NoMemory fault = fault ≡ Traffic runs.NoMemory
IsOfOpen other fault = fault ≡ Store other

abbrev pub IsOfListing : ListingFault → ExportFault → Type 0
IsOfListing listings.NoMemory fault = fault ≡ Traffic runs.NoMemory
IsOfListing (listings.NotAccepted number) fault = fault ≡ NotAccepted number

-- ---- why

-- the command with this number, counted from 1, has other names
pub record LacksNames (commands : List Stored) (number : ℕ) : Type 0 where
  pub before : List Stored
  pub command : Stored
  pub after : List Stored
  pub whole : commands ≡ before ++ command ∷ after
  pub place : number ≡ length before + 1
  pub lacks : ¬ (HasNames command)

-- why commands have no lines
abbrev pub HasListingCause : List Stored → ListingFault → Type 0
HasListingCause commands listings.NoMemory = Unit {0}
HasListingCause commands (listings.NotAccepted number) = LacksNames commands number

-- why the bytes of a file are not those of a store
abbrev pub IsWhyNoStore : List ℕ → OpenFault → Type 0
IsWhyNoStore file stores.NoMemory = ⊥
IsWhyNoStore file (stores.Damaged damage) = lines_in file ≡ Err damage
IsWhyNoStore file (stores.BadLine number fault) =
    (lines : List Line) × (lines_in file ≡ Ok lines) × IsBadLine lines number fault
IsWhyNoStore file (stores.Failed error) = ⊥

-- what was against printing the commands of a file
abbrev pub HasExportCause : List ℕ → ExportFault → Type 0
HasExportCause file (Traffic error) = Unit {0}
HasExportCause file (Store fault) = IsWhyNoStore file fault
HasExportCause file (NotAccepted number) =
    (commands : List Stored) × HasCommands file commands × LacksNames commands number

-- it is not the input, the output or memory
abbrev pub IsOfStore : ExportFault → Type 0
IsOfStore (Traffic error) = ⊥
IsOfStore fault = Unit {0}
