use Rattle.std.proofs.Common.{◌∙◌, List, ap, length, replicate, sym}
use Rattle.machine_store.specs.declared.buffers.Buffer.{Buffer}
use Rattle.machine_store.specs.declared.buffers.Buffer.TheVariants.{Empty}
use Rattle.machine_store.proofs.Slotting.{shown-empty, slot-count}
use Rattle.machine_store.proofs.slots.Slots.empty_all.Goals as goal

pub returns : goal.returns
returns c =
    let i = c.self.inside in
    shown-empty i.len c.clear.new.self.items c.clear-2.new.self.items c.clear.ensures.items
    ∙ ap (λ n. replicate n Empty) (sym (slot-count i.len i.index.items i.held.items) ∙ ap (λ (x : List Buffer). length x) c.self.view_is)
