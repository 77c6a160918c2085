use Rattle.machine_store.proofs.Joining.{HasJoined}
use Rattle.machine_store.proofs.buffers.joined_slots.Given as goal

abbrev pub invariant-loop-slot : goal.invariant-loop-slot
invariant-loop-slot l = HasJoined l.fn.ropes l.ropes l.fn.buffer l.joined l.slots l.first l.slot
