use Rattle.std.proofs.Common.{ℕ, List, ap, arith, length}
use Rattle.persistent_exchange.proofs.Moving.{none_waits, none_yet, sends_last, sends_server}
use Rattle.persistent_exchange.proofs.exchange.PersistentExchange.send.Goals as goal

pub returns-clause-sent : goal.returns-clause-sent
returns-clause-sent g c =
    sends_last _ c.args.self.now c.in_ok-count-2.count c.self.view_is
    (none_waits c.wants_write.result _ c.if-wants_write.false c.wants_write.ensures)

pub returns-then-wants_write-clause-sent : goal.returns-then-wants_write-clause-sent
returns-then-wants_write-clause-sent g c =
    let waits = c.wants_write.ensures.0 c.if-wants_write.true in
    sends_server _ c.args.self.now _ _ c.in_ok-count.count c.self.view_is c.sent.ensures.history
    (omega (arith, c.in_ok-count.ensures.bound, c.output.ensures.fits))
    (none_yet _ _ waits c.self.invariant.2)
