use Rattle.std.proofs.Common.{◌≡◌, ◌++◌, reverse, slice_get, take}
use Rattle.std.specs.List.{flat_map}
use Rattle.std.specs.Prelude.{string_bytes}
use Rattle.machine_store.specs.Viewing.{slots_in}
use Rattle.spec_lines.specs.ShownWords.{bytes}
use Rattle.debugger.proofs.frames.push_slots.Given as goal

abbrev pub invariant-loop-slot : goal.invariant-loop-slot
invariant-loop-slot l =
    string_bytes l.output ≡ string_bytes l.fn.output ++ flat_map bytes (take l.slot (slots_in (slice_get (reverse l.machine.state.store.frames) l.frame)))
