use Rattle.std.proofs.Common.{◌∙◌, List, ap, length, sym}
use Rattle.machine_store.specs.declared.buffers.Buffer.{Buffer}
use Rattle.machine_store.proofs.Slotting.{slot-count}
use Rattle.machine_store.proofs.slots.Slots.len.Goals as goal

pub returns : goal.returns
returns c = sym (slot-count c.self.inside.len c.self.inside.index.items c.self.inside.held.items) ∙ ap (λ (x : List Buffer). length x) c.self.view_is
