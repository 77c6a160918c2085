use Rattle.std.proofs.Common.{◌∙◌, ◌≤◌, ◌<◌, ℕ, List, ap, arith, length, subst, sym, take}
use Rattle.std.proofs.lemmas.List.{take_all}
use Rattle.machine_store.specs.declared.buffers.Buffer.{Buffer}
use Rattle.machine_store.specs.declared.slots.HeldBuffer.{HeldBuffer}
use Rattle.machine_store.specs.Slots.{IsAbove, buffers_of}
use Rattle.machine_store.proofs.Slotting.{shown-shorter, slot-count}
use Rattle.machine_store.proofs.slots.Slots.shorten.Goals as goal

pub returns-then-first-self : goal.returns-then-first-self
returns-then-first-self c =
    let i = c.self.inside in
    let left = c.left_below-left.result in
    let above = subst (λ (x : List HeldBuffer). (at : ℕ) → left ≤ at → at < length x → IsAbove c.args.first at x) c.deref.ensures.value c.left_below-left.ensures.above in
    ap (λ (x : List ℕ). buffers_of c.args.first x c.truncate.new.self.items) c.truncate-then-first-self.ensures.items
    ∙ ap (λ (x : List HeldBuffer). buffers_of c.args.first (take c.args.first i.index.items) x) c.truncate.ensures.items
    ∙ shown-shorter i.len c.args.first left i.index.items i.held.items c.self.invariant (omega arith) above
    ∙ ap (λ (x : List Buffer). take c.args.first x) c.self.view_is

pub returns-else-first-self : goal.returns-else-first-self
returns-else-first-self c =
    let i = c.self.inside in
    sym (take_all c.args.first c.args.self.now (omega (arith, c.if-first-self.false, slot-count i.len i.index.items i.held.items, ap (λ (x : List Buffer). length x) c.self.view_is)))
