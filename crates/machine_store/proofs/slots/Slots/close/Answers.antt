use Rattle.std.proofs.Common.{◌∙◌, ◌≤◌, ◌<◌, ℕ, List, ap, arith, get_or, length, set, subst, take}
use Rattle.machine_store.specs.declared.buffers.Buffer.{Buffer}
use Rattle.machine_store.specs.declared.slots.HeldBuffer.{HeldBuffer}
use Rattle.machine_store.specs.Slots.{IsAbove, buffers_of, index_after}
use Rattle.machine_store.proofs.Slotting.{kept-closed, kept-same, shown-closed, slot-count}
use Rattle.machine_store.proofs.slots.Slots.close.Goals as goal

pub invariant_of-self : goal.invariant_of-self
invariant_of-self c =
    let i = c.self.inside in
    let n : c.args.first ≤ i.len = omega (arith, c.requires.first, slot-count i.len i.index.items i.held.items, ap (λ (x : List Buffer). length x) c.self.view_is) in
    rw c.make_room.ensures.held (kept-same i.len i.index.items c.make_room.new.index.items i.held.items c.self.invariant (omega (arith, c.make_room.ensures.short i.len n (omega (arith, c.self.invariant.short)))) c.make_room.ensures.same)

pub invariant_of-self-2 : goal.invariant_of-self-2
invariant_of-self-2 c =
    let i = c.self.inside in
    let left = c.left_below-left.result in
    let n : c.args.first ≤ i.len = omega (arith, c.requires.first, slot-count i.len i.index.items i.held.items, ap (λ (x : List Buffer). length x) c.self.view_is) in
    let many : length c.make_room.new.index.items ≤ i.len = omega (arith, c.make_room.ensures.short i.len n (omega (arith, c.self.invariant.short))) in
    let there : c.args.slot < length c.make_room.new.index.items = omega (arith, c.in_ok-make_room.ensures.index, c.requires.below) in
    let above = subst (λ (x : List HeldBuffer). (at : ℕ) → left ≤ at → at < length x → IsAbove c.args.first at x) (c.deref.ensures.value ∙ c.make_room.ensures.held) c.left_below-left.ensures.above in
    let cut_held = c.truncate.ensures.items ∙ ap (λ (x : List HeldBuffer). take left x) c.make_room.ensures.held in
    rw (c.put.ensures.index, c.put.ensures.held) (kept-closed i.len c.args.first left c.args.slot i.index.items c.make_room.new.index.items c.truncate-2.new.self.items i.held.items c.truncate.new.self.items c.args.buffer c.self.invariant n c.requires.below above c.make_room.ensures.same many there c.truncate-2.ensures.items cut_held)

pub returns-clause-closed : goal.returns-clause-closed
returns-clause-closed c =
    let i = c.self.inside in
    let left = c.left_below-left.result in
    let n : c.args.first ≤ i.len = omega (arith, c.requires.first, slot-count i.len i.index.items i.held.items, ap (λ (x : List Buffer). length x) c.self.view_is) in
    let many : length c.make_room.new.index.items ≤ i.len = omega (arith, c.make_room.ensures.short i.len n (omega (arith, c.self.invariant.short))) in
    let there : c.args.slot < length c.make_room.new.index.items = omega (arith, c.in_ok-make_room.ensures.index, c.requires.below) in
    let above = subst (λ (x : List HeldBuffer). (at : ℕ) → left ≤ at → at < length x → IsAbove c.args.first at x) (c.deref.ensures.value ∙ c.make_room.ensures.held) c.left_below-left.ensures.above in
    let cut_held = c.truncate.ensures.items ∙ ap (λ (x : List HeldBuffer). take left x) c.make_room.ensures.held in
    ap (λ (x : List ℕ). buffers_of c.args.first x c.put.new.held.items) c.put.ensures.index
    ∙ ap (λ (x : List HeldBuffer). buffers_of c.args.first (index_after c.args.slot (get_or c.truncate-2.new.self.items c.args.slot 0) (length c.truncate.new.self.items) c.truncate-2.new.self.items) x) c.put.ensures.held
    ∙ shown-closed i.len c.args.first left c.args.slot i.index.items c.make_room.new.index.items c.truncate-2.new.self.items i.held.items c.truncate.new.self.items c.args.buffer c.self.invariant n c.requires.below above c.make_room.ensures.same many there c.truncate-2.ensures.items cut_held
    ∙ ap (λ (x : List Buffer). set (take c.args.first x) c.args.slot c.args.buffer) c.self.view_is
