-- What no row passes: how much is open, how many units there are, and how many bytes are held. All of this is this
-- project's own.
use Rattle.std.specs.Prelude.{◌≤◌, ℕ, length}
use Rattle.spec_avro.specs.declared.limits.TheConstants.{MOST_DEPTH, MOST_UNITS, MOST_OUTPUT}
use Rattle.spec_machine.specs.declared.limits.TheConstants.{MOST_CALLS}
use Rattle.spec_machine.specs.State.{State, total}

-- no more frames, calls, units and bytes than the limits allow
pub record AreBounded (frames calls units bytes : ℕ) : Type 0 where
  pub frames_few : frames ≤ MOST_DEPTH
  pub calls_few : calls ≤ MOST_CALLS
  pub units_few : units ≤ MOST_UNITS
  pub bytes_few : bytes ≤ MOST_OUTPUT

abbrev pub IsBounded : State → Type 0
IsBounded s = AreBounded (length s.store.frames) (length s.calls) s.units (total s.store)
