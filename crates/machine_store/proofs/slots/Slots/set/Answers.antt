use Rattle.std.proofs.Common.{◌∙◌, ◌≤◌, ◌<◌, ℕ, List, ap, arith, get_or, length, refl, set}
use Rattle.machine_store.specs.declared.buffers.Buffer.{Buffer}
use Rattle.machine_store.specs.declared.slots.HeldBuffer.{HeldBuffer}
use Rattle.machine_store.specs.Slots.{buffers_of, held_after, index_after}
use Rattle.machine_store.proofs.Slotting.{kept-put, kept-same, shown-put, shown-same, slot-count}
use Rattle.machine_store.proofs.slots.Slots.set.Goals as goal

pub invariant_of-self : goal.invariant_of-self
invariant_of-self c =
    let i = c.self.inside in
    rw c.make_room.ensures.held (kept-same i.len i.index.items c.make_room.new.index.items i.held.items c.self.invariant (omega (arith, c.make_room.ensures.short i.len (omega arith) (omega (arith, c.self.invariant.short)))) c.make_room.ensures.same)

pub put-requires-clause-there : goal.put-requires-clause-there
put-requires-clause-there c =
    let i = c.self.inside in
    omega (arith, c.in_ok-make_room.ensures.index, c.requires, slot-count i.len i.index.items i.held.items, ap (λ (x : List Buffer). length x) c.self.view_is)

pub invariant_of-self-2 : goal.invariant_of-self-2
invariant_of-self-2 c =
    let i = c.self.inside in
    let n : c.args.slot < i.len = omega (arith, c.requires, slot-count i.len i.index.items i.held.items, ap (λ (x : List Buffer). length x) c.self.view_is) in
    let many : length c.make_room.new.index.items ≤ i.len = omega (arith, c.make_room.ensures.short i.len (omega arith) (omega (arith, c.self.invariant.short))) in
    let there : c.args.slot < length c.make_room.new.index.items = omega (arith, c.in_ok-make_room.ensures.index, n) in
    let k = kept-same i.len i.index.items c.make_room.new.index.items i.held.items c.self.invariant many c.make_room.ensures.same in
    rw (c.put.ensures.index, c.put.ensures.held, c.make_room.ensures.held) (kept-put i.len c.make_room.new.index.items i.held.items c.args.slot c.args.buffer k there (get_or c.make_room.new.index.items c.args.slot 0) refl)

pub returns-clause-set : goal.returns-clause-set
returns-clause-set c =
    let i = c.self.inside in
    let n : c.args.slot < i.len = omega (arith, c.requires, slot-count i.len i.index.items i.held.items, ap (λ (x : List Buffer). length x) c.self.view_is) in
    let many : length c.make_room.new.index.items ≤ i.len = omega (arith, c.make_room.ensures.short i.len (omega arith) (omega (arith, c.self.invariant.short))) in
    let there : c.args.slot < length c.make_room.new.index.items = omega (arith, c.in_ok-make_room.ensures.index, n) in
    let k = kept-same i.len i.index.items c.make_room.new.index.items i.held.items c.self.invariant many c.make_room.ensures.same in
    ap (λ (x : List ℕ). buffers_of i.len x c.put.new.held.items) c.put.ensures.index
    ∙ ap (λ (x : List HeldBuffer). buffers_of i.len (index_after c.args.slot (get_or c.make_room.new.index.items c.args.slot 0) (length c.make_room.new.held.items) c.make_room.new.index.items) x) c.put.ensures.held
    ∙ ap (λ (x : List HeldBuffer). buffers_of i.len (index_after c.args.slot (get_or c.make_room.new.index.items c.args.slot 0) (length x) c.make_room.new.index.items) (held_after (record { slot = c.args.slot; buffer = c.args.buffer }) (get_or c.make_room.new.index.items c.args.slot 0) x)) c.make_room.ensures.held
    ∙ shown-put i.len c.make_room.new.index.items i.held.items c.args.slot c.args.buffer k there (get_or c.make_room.new.index.items c.args.slot 0) refl n
    ∙ ap (λ (x : List Buffer). set x c.args.slot c.args.buffer) (shown-same i.len i.index.items c.make_room.new.index.items i.held.items c.make_room.ensures.same ∙ c.self.view_is)
