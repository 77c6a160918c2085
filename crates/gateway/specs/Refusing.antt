-- Why a pool has no outcome for a pair of schemas. All of this is this project's own.
use Rattle.std.specs.Prelude.{⊤}
use Rattle.spec_registry.specs.Receipt.{Shown}
use Rattle.spec_service.specs.declared.transcode_fault.TranscodeFault.{TranscodeFault}
use Rattle.spec_service.specs.declared.transcode_fault.TranscodeFault.TheVariants as faults
use Rattle.session_pool.specs.declared.pool.ClientSeat.{ClientSeat}
use Rattle.session_pool.specs.declared.refusals.OpenError.{OpenError}
use Rattle.session_pool.specs.declared.refusals.OpenError.TheVariants as opening
use Rattle.session_pool.specs.Opening.{IsWhyNotOpened}
use Rattle.gateway.specs.Stopping.{LetsGo}

-- a refusal of the pool to open a session has the pool's reason; of the other two nothing is said here
abbrev pub IsWhyRefused : TranscodeFault → Shown → Shown → ClientSeat → ClientSeat → Type 0
IsWhyRefused (faults.NoProgram why) writer reader old new =
    IsWhyNotOpened (opening.NoProgram why) writer.schema reader.schema old new
IsWhyRefused faults.Full writer reader old new = IsWhyNotOpened opening.Full writer.schema reader.schema old new
IsWhyRefused faults.NotFinished writer reader old new = ⊤
IsWhyRefused faults.NoMemory writer reader old new = ⊤

-- a call that took the first seat and left the second refuses the pair for this fault; the second has the passes that
-- the first had, or the slot of a session stays taken
pub record Refuses (old new : ClientSeat) (writer reader : Shown) (fault : TranscodeFault) : Type 0 where
  pub why : IsWhyRefused fault writer reader old new
  pub lets_go : LetsGo old new

-- each refusal of the pool becomes the fault of the same name
abbrev pub fault_of : OpenError → TranscodeFault
fault_of (opening.NoProgram why) = faults.NoProgram why
fault_of opening.Full = faults.Full
