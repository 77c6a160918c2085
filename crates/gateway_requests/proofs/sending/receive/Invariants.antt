-- What was taken so far follows what had come.
use Rattle.gateway_requests.specs.Exchange.{Gains}
use Rattle.gateway_requests.proofs.sending.receive.Given as goal

abbrev pub invariant-loop : goal.invariant-loop
invariant-loop g l = Gains (g.S.Read.remaining l.fn.stream) (g.S.Read.remaining l.stream) l.fn.reception.bytes l.reception.bytes
