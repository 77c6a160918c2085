use Rattle.std.proofs.Common.{arith}
use Rattle.machine_store.proofs.Joining.{AreRopes-later, all-joined, next-held, one-joined, same-joined}
use Rattle.machine_store.proofs.buffers.joined_slots.Goals as goal

pub loop-slot-init : goal.loop-slot-init
loop-slot-init c = same-joined c.args.ropes.now c.args.buffer c.args.slots.now c.args.first c.requires.held

pub joined_buffer-requires-clause-ropes : goal.joined_buffer-requires-clause-ropes
joined_buffer-requires-clause-ropes c = AreRopes-later c.args.ropes.now c.loop-slot.ropes c.loop-slot.invariant.later c.requires.ropes

pub joined_buffer-requires-clause-behind : goal.joined_buffer-requires-clause-behind
joined_buffer-requires-clause-behind c =
    next-held c.args.ropes.now c.loop-slot.ropes c.args.buffer c.loop-slot.joined c.args.slots.now c.args.first c.loop-slot.slot c.requires.slots c.loop-slot.invariant c.get.result c.get.ensures (omega (arith, c.loop-slot-test.true, c.len-slot-end.ensures))

pub loop-slot-preserved : goal.loop-slot-preserved
loop-slot-preserved c =
    one-joined c.args.ropes.now c.loop-slot.ropes c.args.buffer c.loop-slot.joined c.args.slots.now c.args.first c.loop-slot.slot c.requires.slots c.loop-slot.invariant c.joined_buffer.new.ropes c.get.result c.in_ok-joined.joined c.get.ensures
    (omega (arith, c.loop-slot-test.true, c.len-slot-end.ensures)) c.in_ok-joined.ensures.segments c.in_ok-joined.ensures.held c.in_ok-joined.ensures.later

pub returns-clause-segments : goal.returns-clause-segments
returns-clause-segments c =
    all-joined c.args.ropes.now c.loop-slot.ropes c.args.buffer c.loop-slot.joined c.args.slots.now c.args.first c.loop-slot.slot c.requires.slots c.loop-slot.invariant (omega (arith, c.loop-slot-test.false, c.len-slot-end.ensures))
