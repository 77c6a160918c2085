use Rattle.std.proofs.Common.{◌∙◌, ◌<◌, ℕ, List, ap, arith, get_or, length, sym}
use Rattle.machine_store.specs.declared.buffers.Buffer.{Buffer}
use Rattle.machine_store.specs.declared.buffers.Buffer.TheVariants.{Empty}
use Rattle.machine_store.specs.declared.slots.HeldBuffer.{HeldBuffer}
use Rattle.machine_store.specs.Slots.{held_at}
use Rattle.machine_store.proofs.Slotting.{slot-at, slot-count}
use Rattle.machine_store.proofs.slots.Slots.get.Goals as goal

pub returns : goal.returns
returns c =
    let i = c.self.inside in
    let lt : c.args.slot < i.len = omega (arith, c.requires, slot-count i.len i.index.items i.held.items, ap (λ (x : List Buffer). length x) c.self.view_is) in
    c.buffer_held.ensures ∙ ap (λ (x : List HeldBuffer). held_at x c.number_at.result) c.deref.ensures.value
    ∙ ap (held_at i.held.items) (c.number_at.ensures ∙ ap (λ (x : List ℕ). get_or x c.args.slot 0) c.deref-2.ensures.value)
    ∙ sym (slot-at i.len i.index.items i.held.items c.args.slot Empty lt) ∙ ap (λ (x : List Buffer). get_or x c.args.slot Empty) c.self.view_is
