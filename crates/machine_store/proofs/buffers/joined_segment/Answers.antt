use Rattle.std.proofs.Common.{◌∷◌, sym}
use Rattle.machine_store.specs.Ropes.{rope_at}
use Rattle.machine_store.proofs.Joining.{after-last, goes_on}
use Rattle.machine_store.proofs.buffers.joined_segment.Goals as goal

pub returns-then-last-segment-2-clause-segments : goal.returns-then-last-segment-2-clause-segments
returns-then-last-segment-2-clause-segments c = rw c.in-More.is (sym (goes_on (c.in-More.first ∷ rope_at c.args.ropes.now c.in-More.middle) c.in-More.last c.args.segment c.if-last-segment-2.true))

pub returns-in_ok-middle-in-More-clause-segments : goal.returns-in_ok-middle-in-More-clause-segments
returns-in_ok-middle-in-More-clause-segments c =
    rw c.in-More.is (after-last c.args.ropes.now _ c.in-More.first c.in-More.last c.args.segment c.in-More.middle _ c.requires.ropes c.if-last-segment-2.false c.in_ok-middle-in-More.ensures.number c.in_ok-middle-in-More.ensures.joined)
