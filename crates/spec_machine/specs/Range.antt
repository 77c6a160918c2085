-- Which programs there are: how many things each has, and what they name. All of this is this project's own.
use Rattle.std.specs.Prelude.{ℕ, ◌<◌, ◌≤◌, List, length}
use Rattle.std.specs.List.{AllByRecursion}
use Rattle.spec_avro.specs.declared.mismatch.Mismatch.{Mismatch}
use Rattle.spec_machine.specs.declared.entry.Entry.{Entry}
use Rattle.spec_machine.specs.declared.entry.Entry.TheVariants as entries
use Rattle.spec_machine.specs.declared.instr.Instr.{Instr}
use Rattle.spec_machine.specs.declared.instr.Instr.TheVariants as op
use Rattle.spec_machine.specs.declared.limits.TheConstants.{MOST_CONSTANT_BYTES, MOST_ENTRIES, MOST_FIXED, MOST_INSTRS, MOST_NODES, MOST_SLOTS, MOST_SYMBOLS, MOST_TABLES}
use Rattle.spec_machine.specs.declared.sizes.Sizes.{Sizes}
use Rattle.spec_machine.specs.Lengths.{total_length}
use Rattle.spec_machine.specs.Program.{Program}

-- ---- what is in range

-- how many things of each kind a program has
abbrev pub sizes_of : Program → Sizes
sizes_of P =
    record {
      code = length P.code;
      constants = length P.constants;
      maps = length P.maps;
      jumps = length P.jumps;
      misses = length P.misses;
    }

-- an address of an instruction
abbrev pub IsAddress : Sizes → ℕ → Type 0
IsAddress n a = a < n.code

-- positions are below the limit of symbols, misses are there
abbrev pub EntryIsInRange : Sizes → Entry → Type 0
EntryIsInRange n (entries.Position i) = i < MOST_SYMBOLS
EntryIsInRange n (entries.Miss m) = m < n.misses

-- the nodes of a miss are below the limit of nodes
pub record MissIsInRange (m : Mismatch) : Type 0 where
  pub writer : m.writer_node < MOST_NODES
  pub reader : m.reader_node < MOST_NODES

-- the operand of an instruction
abbrev pub InstrIsInRange : Sizes → Instr → Type 0
InstrIsInRange n (op.BytesText m) = m < n.misses
InstrIsInRange n (op.Fixed size) = size ≤ MOST_FIXED
InstrIsInRange n (op.Enum t) = t < n.maps
InstrIsInRange n (op.SkipFixed size) = size ≤ MOST_FIXED
InstrIsInRange n (op.SkipEnum many) = many ≤ MOST_SYMBOLS
InstrIsInRange n (op.Put c) = c < n.constants
InstrIsInRange n (op.Record k) = k ≤ MOST_SLOTS
InstrIsInRange n (op.Slot j) = j < MOST_SLOTS
InstrIsInRange n (op.Next a) = IsAddress n a
InstrIsInRange n (op.SkipNext a) = IsAddress n a
InstrIsInRange n (op.Branch t) = t < n.jumps
InstrIsInRange n (op.Miss m) = m < n.misses
InstrIsInRange n (op.Call a) = IsAddress n a
InstrIsInRange n (op.Jump a) = IsAddress n a
InstrIsInRange n _ = Unit {0}

-- ---- how many there are

-- at most `MOST_TABLES` lists, and at most `MOST_ENTRIES` entries in each
pub record AreFew {A : Type 0} (lists : List (List A)) : Type 0 where
  pub many : length lists ≤ MOST_TABLES
  pub each : AllByRecursion (λ list. length list ≤ MOST_ENTRIES) lists

pub record IsWithinLimits (P : Program) : Type 0 where
  pub code : length P.code ≤ MOST_INSTRS
  pub constants : length P.constants ≤ MOST_TABLES
  pub bytes : total_length P.constants ≤ MOST_CONSTANT_BYTES
  pub maps : AreFew P.maps
  pub jumps : AreFew P.jumps
  pub misses : length P.misses ≤ MOST_TABLES

-- There is an instruction, no constant is empty, all is within the limits, and all that is named is there.
pub record IsProgram (P : Program) : Type 0 where
  pub some : 0 < length P.code
  pub within : IsWithinLimits P
  pub constants : AllByRecursion (λ x. 0 < length x) P.constants
  pub entries : AllByRecursion (AllByRecursion (EntryIsInRange (sizes_of P))) P.maps
  pub addresses : AllByRecursion (AllByRecursion (IsAddress (sizes_of P))) P.jumps
  pub misses : AllByRecursion MissIsInRange P.misses
  pub instrs : AllByRecursion (InstrIsInRange (sizes_of P)) P.code
