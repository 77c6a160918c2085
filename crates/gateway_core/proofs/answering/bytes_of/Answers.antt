-- Where there is no memory for the text, that is answered.
use Rattle.std.proofs.Common.{inr, refl, ap, ◌∙◌}
use Rattle.spec_service.specs.Answer.{Refused}
use Rattle.spec_service.specs.Status.{number_of}
use Rattle.spec_service.specs.declared.fault.Fault.TheVariants.{NoMemory}
use Rattle.gateway_core.proofs.answering.bytes_of.Goals as goal

pub returns-in_ok-into_bytes-in-Err : goal.returns-in_ok-into_bytes-in-Err
returns-in_ok-into_bytes-in-Err c = (Refused NoMemory, inr refl, c.in_ok-into_bytes-in-Err.ensures, c.number-status-in-Err.ensures ∙ ap number_of c.status-in-Err.ensures)
