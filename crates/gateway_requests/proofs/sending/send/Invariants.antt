-- What was written so far are the next bytes of the answer.
use Rattle.gateway_requests.specs.Exchange.{Sends}
use Rattle.gateway_requests.proofs.sending.send.Given as goal

abbrev pub invariant-loop : goal.invariant-loop
invariant-loop g l = Sends (g.S.Write.contents l.fn.stream) (g.S.Write.contents l.stream) l.fn.sending l.sending
