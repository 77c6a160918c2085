-- One more read.
use Rattle.std.proofs.Common.{rules}
use Rattle.gateway_requests.proofs.Sent.{gains_kept, gains_more}
use Rattle.gateway_requests.proofs.sending.receive.Goals.{in-Ok, in-Err+in_default}
use Rattle.gateway_requests.proofs.sending.receive.Goals as goal

pub loop-preserved : goal.loop-preserved
loop-preserved g c = elim c.match-receive.branch [
  | in-Ok w ↦ gains_more _ _ _ _ _ _ w.in-Ok.field-0 c.loop.invariant w.in-Ok.ensures.received
  | in-Err+in_default w ↦ gains_kept _ _ _ _ _ _ c.loop.invariant w.in-Err.ensures.kept (search rules)
]

pub returns-in-Some-clause-received : goal.returns-in-Some-clause-received
returns-in-Some-clause-received g c =
    gains_kept _ _ _ _ _ _ c.loop.invariant c.in-Err.ensures.kept (search rules)
