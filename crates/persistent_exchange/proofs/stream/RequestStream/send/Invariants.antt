-- What was written so far are the next of the pending bytes.
use Rattle.persistent_exchange.specs.Persistent.{Writes}
use Rattle.persistent_exchange.proofs.stream.RequestStream.send.Given as goal

abbrev pub invariant-loop : goal.invariant-loop
invariant-loop g l = Writes (g.W.Write.contents l.fn.writer) (g.W.Write.contents l.writer) l.fn.self l.self
