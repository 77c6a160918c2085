-- How a run ends. All of this is this project's own.
use Rattle.std.specs.Prelude.{◌≡◌, ℕ, Bool, List, length, Option, None}
use Rattle.spec_decoding.specs.declared.fault.Fault.{Fault}
use Rattle.spec_decoding.specs.declared.fault.Fault.TheVariants as fault
use Rattle.spec_avro.specs.Outcome.{Mismatched, OutputTooLarge}
use Rattle.spec_avro.specs.Outcome as outcomes
use Rattle.spec_machine.specs.Program.{Program}
use Rattle.spec_machine.specs.State.{Out, State}
use Rattle.spec_machine.specs.Table.{stop, trap, wait}
use Rattle.machine_store.specs.declared.rules.Verdict.{Verdict}
use Rattle.machine_store.specs.declared.rules.Verdict.TheVariants as verdicts

-- the row that a verdict comes to
abbrev pub told : Verdict → State → Option State
told verdicts.Waits s = None
told (verdicts.Malformed kind at) s = stop (Out (outcomes.Malformed kind at)) s
told (verdicts.Mismatch miss) s = stop (Out (Mismatched miss)) s
told verdicts.OutputTooLarge s = stop (Out OutputTooLarge) s
told verdicts.Done s = stop (Out (outcomes.Done s.store.out)) s
told (verdicts.Trap t) s = trap t s

-- the row at a fault: the run ends if the bytes are malformed, and else it waits
abbrev pub refused : Program → List ℕ → Bool → Fault → State → Option State
refused P input ended (fault.Malformed kind at) s = stop (Out (outcomes.Malformed kind at)) s
refused P input ended f s = wait P input ended s

-- what a state has open, its offset, its mark, and whether it is over the limit
pub record IsAt (s : State) (depth many at : ℕ) (miss : Option ℕ) (passed : Bool) : Type 0 where
  pub frames : length s.store.frames ≡ depth
  pub calls : length s.calls ≡ many
  pub pos : s.pos ≡ at
  pub mark : s.store.mark ≡ miss
  pub over : s.store.over ≡ passed
