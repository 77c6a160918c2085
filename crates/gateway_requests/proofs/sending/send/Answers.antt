-- One more write.
use Rattle.gateway_requests.proofs.Sent.{sends_kept, sends_more}
use Rattle.gateway_requests.proofs.sending.send.Goals.{in-Ok, in-Err+in_default}
use Rattle.gateway_requests.proofs.sending.send.Goals as goal

pub loop-preserved : goal.loop-preserved
loop-preserved g c = elim c.match-send.branch [
  | in-Ok w ↦ sends_more _ _ _ _ _ _ w.in-Ok.field-0 c.loop.invariant w.in-Ok.ensures.written w.in-Ok.ensures.counted
  | in-Err+in_default w ↦ sends_kept _ _ _ _ _ _ c.loop.invariant w.in-Err.ensures.written w.in-Err.ensures.refused
]
