-- What is read of a listing so far: a program that is not judged yet. All of this is this project's own.
use Rattle.std.specs.Prelude.{◌≡◌, ℕ, ◌+◌, ◌≤◌, length}
use Rattle.spec_machine.specs.declared.limits.TheConstants.{MOST_CONSTANT_BYTES, MOST_INSTRS, MOST_TABLES}
use Rattle.spec_machine.specs.Lengths.{total_length}
use Rattle.spec_machine.specs.Program.{Program}
use Rattle.assembler.specs.declared.draft.FirstLines.{FirstLines}
use Rattle.spec_machine.specs.Assembling.{line_of_code, line_of_jumps, line_of_map, line_of_miss}

-- how many bytes more the constants may have, and that all else is within the limits
pub record IsDraft (P : Program) (room : ℕ) : Type 0 where
  pub bytes : total_length P.constants + room ≡ MOST_CONSTANT_BYTES
  pub code : length P.code ≤ MOST_INSTRS
  pub constants : length P.constants ≤ MOST_TABLES
  pub maps : length P.maps ≤ MOST_TABLES
  pub jumps : length P.jumps ≤ MOST_TABLES
  pub misses : length P.misses ≤ MOST_TABLES

-- the lines in which sections begin
pub record AreFirst (P : Program) (lines : FirstLines) : Type 0 where
  pub maps : lines.maps ≡ line_of_map P
  pub jumps : lines.jumps ≡ line_of_jumps P
  pub misses : lines.misses ≡ line_of_miss P
  pub code : lines.code ≡ line_of_code P
