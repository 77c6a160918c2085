-- Rows before they are counted, and the states between them, whose count stays 0.
use Rattle.std.proofs.Common.{◌≡◌, ℕ, true, List, length, Option, Some, None, refl, slice_get}
use Rattle.spec_avro.specs.declared.meter.Meter.{Meter}
use Rattle.spec_machine.specs.declared.instr.Instr.{Instr}
use Rattle.spec_machine.specs.Program.{Program}
use Rattle.spec_machine.specs.State.{End, Content, State, Store}
use Rattle.spec_machine.specs.Row.{row, row_at}

-- a state in which some of a content is left, or none
abbrev pub moving : Option Content → ℕ → ℕ → List ℕ → Store → ℕ → State
moving content pc pos calls s units = record { pc = pc; pos = pos; calls = calls; store = s; content = content; units = units; count = 0; end = None }

-- a state in which no content is begun
abbrev pub between : ℕ → ℕ → List ℕ → Store → ℕ → State
between pc pos calls s units = moving None pc pos calls s units

-- the meter of a store: each frame is a level
abbrev pub meter : Store → ℕ → Meter
meter s units = record { depth = length s.frames; units = units }

module _ (P : Program) (p : List ℕ) where
  abbrev pub unless_ended : Option End → State → Option State
  unless_ended (Some end) s = None
  unless_ended None s = row_at P p true (slice_get P.code s.pc) s

  -- the row before it is counted, where the input has ended
  unfoldable pub plain_row : State → Option State
  plain_row s = unless_ended s.end s

  -- the row of the instruction that is there
  pub row_of_instr : (s : State) (i : Instr) → s.end ≡ None → slice_get P.code s.pc ≡ Some i → plain_row s ≡ row P p true i s
  unfolding plain_row
  row_of_instr s i e h = rw (e, h) refl
