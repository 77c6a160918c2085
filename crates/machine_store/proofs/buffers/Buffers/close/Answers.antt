use Rattle.std.proofs.Common.{◌∙◌, ◌++◌, ℕ, List, ap, arith}
use Rattle.machine_store.proofs.Joining.{later-later}
use Rattle.machine_store.proofs.Placing.{IsLaid-later, on_err, shown-later}
use Rattle.machine_store.proofs.Putting.{Closed, closed-put, slots-held}
use Rattle.machine_store.proofs.buffers.Buffers.close.Goals as goal

pub joined_slots-requires-clause-slots : goal.joined_slots-requires-clause-slots
joined_slots-requires-clause-slots c =
    let i = c.self.inside in
    slots-held i.arena.items i.ropes i.out i.slots c.args.self.now c.self.view_is c.self.invariant c.joined_bytes.new.ropes c.in_ok-buffer.ensures.later

pub invariant_of-self : goal.invariant_of-self
invariant_of-self c =
    let i = c.self.inside in
    IsLaid-later i.arena.items i.ropes c.joined_bytes.new.ropes i.out i.slots c.self.invariant c.in_err-buffer.ensures.later

pub returns-in_err-buffer-clause-refused : goal.returns-in_err-buffer-clause-refused
returns-in_err-buffer-clause-refused c =
    let i = c.self.inside in
    on_err c.from_residual.result (shown-later i.arena.items i.ropes c.joined_bytes.new.ropes i.out i.slots c.args.self.now c.self.view_is c.self.invariant c.in_err-buffer.ensures.later)

pub invariant_of-self-in_err-buffer-2 : goal.invariant_of-self-in_err-buffer-2
invariant_of-self-in_err-buffer-2 c =
    let i = c.self.inside in
    IsLaid-later i.arena.items i.ropes c.joined_slots.new.ropes i.out i.slots c.self.invariant (later-later i.ropes c.joined_bytes.new.ropes c.joined_slots.new.ropes c.in_ok-buffer.ensures.later c.in_err-buffer-2.ensures.later)

pub returns-in_err-buffer-2-clause-refused : goal.returns-in_err-buffer-2-clause-refused
returns-in_err-buffer-2-clause-refused c =
    let i = c.self.inside in
    on_err c.from_residual-in_err-buffer-2.result (shown-later i.arena.items i.ropes c.joined_slots.new.ropes i.out i.slots c.args.self.now c.self.view_is c.self.invariant (later-later i.ropes c.joined_bytes.new.ropes c.joined_slots.new.ropes c.in_ok-buffer.ensures.later c.in_err-buffer-2.ensures.later))

pub invariant_of-self-in_err-buffer-3 : goal.invariant_of-self-in_err-buffer-3
invariant_of-self-in_err-buffer-3 c =
    let i = c.self.inside in
    IsLaid-later i.arena.items i.ropes c.joined_bytes-2.new.ropes i.out i.slots c.self.invariant (later-later i.ropes c.joined_slots.new.ropes c.joined_bytes-2.new.ropes (later-later i.ropes c.joined_bytes.new.ropes c.joined_slots.new.ropes c.in_ok-buffer.ensures.later c.in_ok-buffer-2.ensures.later) c.in_err-buffer-3.ensures.later)

pub returns-in_err-buffer-3-clause-refused : goal.returns-in_err-buffer-3-clause-refused
returns-in_err-buffer-3-clause-refused c =
    let i = c.self.inside in
    on_err c.from_residual-in_err-buffer-3.result (shown-later i.arena.items i.ropes c.joined_bytes-2.new.ropes i.out i.slots c.args.self.now c.self.view_is c.self.invariant (later-later i.ropes c.joined_slots.new.ropes c.joined_bytes-2.new.ropes (later-later i.ropes c.joined_bytes.new.ropes c.joined_slots.new.ropes c.in_ok-buffer.ensures.later c.in_ok-buffer-2.ensures.later) c.in_err-buffer-3.ensures.later))

pub invariant_of-self-in_err-try_reserve : goal.invariant_of-self-in_err-try_reserve
invariant_of-self-in_err-try_reserve c =
    let i = c.self.inside in
    rw c.in_err-try_reserve.ensures.items (IsLaid-later i.arena.items i.ropes c.joined_bytes-2.new.ropes i.out i.slots c.self.invariant (later-later i.ropes c.joined_slots.new.ropes c.joined_bytes-2.new.ropes (later-later i.ropes c.joined_bytes.new.ropes c.joined_slots.new.ropes c.in_ok-buffer.ensures.later c.in_ok-buffer-2.ensures.later) c.in_ok-buffer-3.ensures.later))

pub returns-in_err-try_reserve-clause-refused : goal.returns-in_err-try_reserve-clause-refused
returns-in_err-try_reserve-clause-refused c =
    let i = c.self.inside in
    on_err c.from_residual-in_err-try_reserve.result (rw c.in_err-try_reserve.ensures.items (shown-later i.arena.items i.ropes c.joined_bytes-2.new.ropes i.out i.slots c.args.self.now c.self.view_is c.self.invariant (later-later i.ropes c.joined_slots.new.ropes c.joined_bytes-2.new.ropes (later-later i.ropes c.joined_bytes.new.ropes c.joined_slots.new.ropes c.in_ok-buffer.ensures.later c.in_ok-buffer-2.ensures.later) c.in_ok-buffer-3.ensures.later)))

pub invariant_of-self-in_err-put_below : goal.invariant_of-self-in_err-put_below
invariant_of-self-in_err-put_below c =
    let i = c.self.inside in
    rw (c.in_err-put_below.ensures.same_out, c.in_err-put_below.ensures.same_slots, c.in_ok-try_reserve.ensures.items) (IsLaid-later i.arena.items i.ropes c.joined_bytes-2.new.ropes i.out i.slots c.self.invariant (later-later i.ropes c.joined_slots.new.ropes c.joined_bytes-2.new.ropes (later-later i.ropes c.joined_bytes.new.ropes c.joined_slots.new.ropes c.in_ok-buffer.ensures.later c.in_ok-buffer-2.ensures.later) c.in_ok-buffer-3.ensures.later))

pub returns-in_err-put_below-clause-refused : goal.returns-in_err-put_below-clause-refused
returns-in_err-put_below-clause-refused c =
    let i = c.self.inside in
    on_err c.from_residual-in_err-put_below.result (rw (c.in_err-put_below.ensures.same_out, c.in_err-put_below.ensures.same_slots, c.in_ok-try_reserve.ensures.items) (shown-later i.arena.items i.ropes c.joined_bytes-2.new.ropes i.out i.slots c.args.self.now c.self.view_is c.self.invariant (later-later i.ropes c.joined_slots.new.ropes c.joined_bytes-2.new.ropes (later-later i.ropes c.joined_bytes.new.ropes c.joined_slots.new.ropes c.in_ok-buffer.ensures.later c.in_ok-buffer-2.ensures.later) c.in_ok-buffer-3.ensures.later)))

pub invariant_of-self-2 : goal.invariant_of-self-2
invariant_of-self-2 c =
    let i = c.self.inside in
    let a : Closed i.arena.items i.ropes i.out i.slots c.args.self.now c.self.view_is c.self.invariant c.extend_from_slice.new.self.items c.args.around.now c.joined_bytes.new.ropes c.joined_slots.new.ropes c.joined_bytes-2.new.ropes c.buffer_at-buffer.result c.in_ok-buffer.buffer c.in_ok-buffer-2.buffer c.in_ok-buffer-3.buffer c.args.into c.args.first c.args.before c.len-from.result = record {
      there = c.requires.into;
      some = c.requires.first;
      fits = c.requires.before;
      begins = omega (arith, c.len-from.ensures);
      at = c.buffer_at-buffer.ensures;
      front = c.in_ok-buffer.ensures.segments;
      later1 = c.in_ok-buffer.ensures.later;
      middle = c.in_ok-buffer-2.ensures.segments;
      later2 = c.in_ok-buffer-2.ensures.later;
      back = c.in_ok-buffer-3.ensures.segments;
      held = c.in_ok-buffer-3.ensures.held;
      later3 = c.in_ok-buffer-3.ensures.later;
      longer = c.in_ok-extend_from_slice.ensures.items ∙ ap (λ (x : List ℕ). x ++ c.args.around.now) c.in_ok-try_reserve.ensures.items;
    } in
    rw (c.in_ok-put_below.ensures.out, c.in_ok-put_below.ensures.slots) (closed-put i.arena.items i.ropes i.out i.slots c.args.self.now c.self.view_is c.self.invariant c.extend_from_slice.new.self.items c.args.around.now c.joined_bytes.new.ropes c.joined_slots.new.ropes c.joined_bytes-2.new.ropes c.buffer_at-buffer.result c.in_ok-buffer.buffer c.in_ok-buffer-2.buffer c.in_ok-buffer-3.buffer c.args.into c.args.first c.args.before c.len-from.result a).0

pub returns-clause-closed : goal.returns-clause-closed
returns-clause-closed c =
    let i = c.self.inside in
    let a : Closed i.arena.items i.ropes i.out i.slots c.args.self.now c.self.view_is c.self.invariant c.extend_from_slice.new.self.items c.args.around.now c.joined_bytes.new.ropes c.joined_slots.new.ropes c.joined_bytes-2.new.ropes c.buffer_at-buffer.result c.in_ok-buffer.buffer c.in_ok-buffer-2.buffer c.in_ok-buffer-3.buffer c.args.into c.args.first c.args.before c.len-from.result = record {
      there = c.requires.into;
      some = c.requires.first;
      fits = c.requires.before;
      begins = omega (arith, c.len-from.ensures);
      at = c.buffer_at-buffer.ensures;
      front = c.in_ok-buffer.ensures.segments;
      later1 = c.in_ok-buffer.ensures.later;
      middle = c.in_ok-buffer-2.ensures.segments;
      later2 = c.in_ok-buffer-2.ensures.later;
      back = c.in_ok-buffer-3.ensures.segments;
      held = c.in_ok-buffer-3.ensures.held;
      later3 = c.in_ok-buffer-3.ensures.later;
      longer = c.in_ok-extend_from_slice.ensures.items ∙ ap (λ (x : List ℕ). x ++ c.args.around.now) c.in_ok-try_reserve.ensures.items;
    } in
    rw (c.in_ok-put_below.ensures.out, c.in_ok-put_below.ensures.slots) (closed-put i.arena.items i.ropes i.out i.slots c.args.self.now c.self.view_is c.self.invariant c.extend_from_slice.new.self.items c.args.around.now c.joined_bytes.new.ropes c.joined_slots.new.ropes c.joined_bytes-2.new.ropes c.buffer_at-buffer.result c.in_ok-buffer.buffer c.in_ok-buffer-2.buffer c.in_ok-buffer-3.buffer c.args.into c.args.first c.args.before c.len-from.result a).1
