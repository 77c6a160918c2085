use Rattle.std.proofs.Common.{reverse, slice_get}
use Rattle.std.specs.Prelude.{string_bytes}
use Rattle.machine_store.specs.Viewing.{slots_in}
use Rattle.spec_lines.specs.ShownWords.{bytes}
use Rattle.debugger.proofs.Lines.{one_more_there}
use Rattle.debugger.proofs.frames.push_slots.Goals as goal

pub loop-slot-preserved : goal.loop-slot-preserved
loop-slot-preserved c =
    one_more_there bytes (string_bytes c.args.output.now) (string_bytes c.loop-slot.output) (string_bytes c.push_buffer.new.output) c.loop-slot.slot (slots_in (slice_get (reverse c.args.machine.now.state.store.frames) c.args.frame)) c.in_ok-push_buffer.ensures c.loop-slot.invariant
