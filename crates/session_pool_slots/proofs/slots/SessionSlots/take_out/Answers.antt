use Rattle.std.proofs.Common.{rules}
use Rattle.session_pool_slots.proofs.Hands.{comes_out, is_first, takes_out}
use Rattle.session_pool_slots.proofs.slots.SessionSlots.take_out.Goals as goal

pub exchange-requires : goal.exchange-requires
exchange-requires c = (search rules, is_first c.args.seat.now c.seize-word.new.seat _ _ c.requires.pass (c.seize-word.ensures.taken c.if-word-eq-WITH_WORKER.false))

pub unwrap-session-requires : goal.unwrap-session-requires
unwrap-session-requires c = comes_out c.args.seat.now c.seize-word.new.seat _ _ _ c.requires.pass (c.seize-word.ensures.taken c.if-word-eq-WITH_WORKER.false) c.exchange.ensures.2

pub returns-clause-taken : goal.returns-clause-taken
returns-clause-taken c = takes_out c.args.seat.now c.seize-word.new.seat _ _ _ _ _ c.requires.pass (c.seize-word.ensures.taken c.if-word-eq-WITH_WORKER.false) c.exchange.ensures.2 c.unwrap-session.ensures c.exchange.ensures.3
