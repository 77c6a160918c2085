-- What loading an image answers: a program, or the first fault. All of this is this project's own.
use Rattle.std.specs.Prelude.{ℕ, List, [], length, Result, Ok, Err}
use Rattle.std.specs.Int.{w32}
use Rattle.spec_avro.specs.declared.mismatch.Mismatch.{Mismatch}
use Rattle.spec_machine.specs.declared.entry.Entry.{Entry}
use Rattle.spec_machine.specs.declared.instr.Instr.{Instr}
use Rattle.spec_machine.specs.declared.limits.TheConstants.{MOST_ENTRIES, MOST_TABLES}
use Rattle.spec_machine.specs.declared.program_error.ProgramError.{ProgramError}
use Rattle.spec_machine.specs.declared.program_error.ProgramError.TheVariants as wrong
use Rattle.spec_machine.specs.Judging.{judged}
use Rattle.spec_machine.specs.Program.{Program}
use Rattle.avro_loader.specs.ImageReading.{◌>>=◌, Read, place, number_at, address_at, opened, ended}
use Rattle.avro_loader.specs.declared.image_fault.ImageFault.{ImageFault}
use Rattle.avro_loader.specs.declared.image_fault.ImageFault.TheVariants.{OutOfRange}
use Rattle.avro_loader.specs.declared.version.Format.{Format}
use Rattle.spec_machine.specs.Image.{image_of}
use Rattle.avro_loader.specs.Reading.{section_at, things_at, code_at, constants_section_at, entry_at, instr_at, miss_at}
use Rattle.avro_loader.specs.declared.places.Sections.{Sections}

-- ---- the sections

-- the bytes from a section on
pub record Starts : Type 0 where
  pub maps : List ℕ
  pub jumps : List ℕ
  pub misses : List ℕ
  pub code : List ℕ

abbrev pub starts_of : Sections → Starts
starts_of s = record { maps = s.maps.now; jumps = s.jumps.now; misses = s.misses.now; code = s.code.now }

abbrev pub maps_at : Format → List ℕ → Read (List (List Entry))
maps_at f = section_at f MOST_TABLES (section_at f MOST_ENTRIES (entry_at f))

abbrev pub jumps_at : Format → List ℕ → Read (List (List ℕ))
jumps_at f = section_at f MOST_TABLES (section_at f MOST_ENTRIES (address_at f))

abbrev pub misses_at : Format → List ℕ → Read (List Mismatch)
misses_at f = section_at f MOST_TABLES (miss_at f)

-- what a program holds before any section is read
abbrev pub nothing : Program
nothing = record { code = []; constants = []; maps = []; jumps = []; misses = [] }

-- what the sections hold and where they begin, and the bytes after them
abbrev pub sections_read : List (List ℕ) × List ℕ → List (List Entry) × List ℕ → List (List ℕ) × List ℕ
    → List Mismatch × List ℕ → List Instr × List ℕ → (Program × Starts) × List ℕ
sections_read constants maps jumps misses code =
    let P : Program = record {
      code = code.0;
      constants = constants.0;
      maps = maps.0;
      jumps = jumps.0;
      misses = misses.0;
    } in
    let starts : Starts = record { maps = constants.1; jumps = maps.1; misses = jumps.1; code = misses.1 } in
    ((P, starts), code.1)

unfoldable pub sections_at : Format → List ℕ → Read (Program × Starts)
sections_at f bytes = do
  constants ← constants_section_at f bytes
  maps ← maps_at f constants.1
  jumps ← jumps_at f maps.1
  misses ← misses_at f jumps.1
  code ← code_at f misses.1
  Ok (sections_read constants maps jumps misses code)

-- ---- what is out of range

-- the bytes after a count and n things
unfoldable pub after : {A : Type 0} → (List ℕ → Read A) → ℕ → List ℕ → Result (List ℕ) ImageFault
after thing n bytes = do
  count ← number_at w32 bytes
  things ← things_at thing n count.1
  Ok things.1

-- the bytes from a thing on that is out of range; all other errors were reported in reading
unfoldable pub from_wrong : Format → Starts → ProgramError → Result (List ℕ) ImageFault
from_wrong f s (wrong.Entry map entry) =
    after (section_at f MOST_ENTRIES (entry_at f)) map s.maps >>= after (entry_at f) entry
from_wrong f s (wrong.Address table address) =
    after (section_at f MOST_ENTRIES (address_at f)) table s.jumps >>= after (address_at f) address
from_wrong f s (wrong.Miss miss) = after (miss_at f) miss s.misses
from_wrong f s (wrong.Instr address) = after (instr_at f) address s.code
from_wrong f s _ = Ok []

abbrev pub in_range : Format → Starts → Result Program ProgramError → Result Program ImageFault
in_range f s (Ok P) = Ok P
in_range f s (Err e) = from_wrong f s e >>= λ left. Err (OutOfRange (place f left))

-- ---- the whole

unfoldable pub loaded_as : Format → List ℕ → Result Program ImageFault
loaded_as f bytes = do
  found ← sections_at f bytes
  nothing ← ended f found.1
  in_range f found.0.1 (judged found.0.0)

unfoldable pub loaded : List ℕ → Result Program ImageFault
loaded bytes = do
  version ← opened bytes
  loaded_as (record { version = version.0; len = length bytes }) version.1

-- the image of version 2 of what is loaded
abbrev pub migrated : List ℕ → Result (List ℕ) ImageFault
migrated bytes = loaded bytes >>= λ P. Ok (image_of P)
