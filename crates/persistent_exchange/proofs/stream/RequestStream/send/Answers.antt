-- One more write.
use Rattle.persistent_exchange.proofs.Writing.{writes_none, writes_on}
use Rattle.persistent_exchange.proofs.stream.RequestStream.send.Goals as goal

pub loop-init : goal.loop-init
loop-init g c = writes_none _ _

pub loop-preserved : goal.loop-preserved
loop-preserved g c = writes_on _ _ _ _ _ _ c.loop.invariant c.send_some.ensures

pub returns-in-Some : goal.returns-in-Some
returns-in-Some g c = writes_on _ _ _ _ _ _ c.loop.invariant c.send_some.ensures
