-- Why a session was stopped, after more calls.
use Rattle.std.proofs.Common.{Result, Ok, Err, IfErr}
use Rattle.spec_service.specs.declared.transcode_fault.TranscodeFault.{TranscodeFault}
use Rattle.spec_service.specs.declared.transcode_fault.TranscodeFault.TheVariants.{NoProgram, Full, NotFinished, NoMemory}
use Rattle.gateway.specs.Stopping.{IsWhyStopped}

-- where the gate said no in some calls, and so in all of them
pub why_on : (A B : Type 0) → (A → B) → (fault : TranscodeFault) → IsWhyStopped A fault → IsWhyStopped B fault
why_on A B f (NoProgram why) none = none
why_on A B f Full none = none
why_on A B f NotFinished said = f said
why_on A B f NoMemory why = tt

pub if_why_on : (T A B : Type 0) → (A → B) → (result : Result T TranscodeFault) → IfErr result (IsWhyStopped A)
    → IfErr result (IsWhyStopped B)
if_why_on T A B f (Ok value) why = tt
if_why_on T A B f (Err fault) why = why_on A B f fault why
