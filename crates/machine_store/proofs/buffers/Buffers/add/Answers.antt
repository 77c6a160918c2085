use Rattle.std.proofs.Common.{◌∙◌, ◌++◌, ℕ, List, ap, arith}
use Rattle.machine_store.proofs.Placing.{IsLaid-later, on_err, shown-later}
use Rattle.machine_store.proofs.Putting.{Added, added-put}
use Rattle.machine_store.proofs.buffers.Buffers.add.Goals as goal

pub invariant_of-self : goal.invariant_of-self
invariant_of-self c =
    let i = c.self.inside in
    IsLaid-later i.arena.items i.ropes c.joined_bytes.new.ropes i.out i.slots c.self.invariant c.in_err-buffer.ensures.later

pub returns-in_err-buffer-clause-refused : goal.returns-in_err-buffer-clause-refused
returns-in_err-buffer-clause-refused c =
    let i = c.self.inside in
    on_err c.from_residual.result (shown-later i.arena.items i.ropes c.joined_bytes.new.ropes i.out i.slots c.args.self.now c.self.view_is c.self.invariant c.in_err-buffer.ensures.later)

pub invariant_of-self-in_err-try_reserve : goal.invariant_of-self-in_err-try_reserve
invariant_of-self-in_err-try_reserve c =
    let i = c.self.inside in
    rw c.in_err-try_reserve.ensures.items (IsLaid-later i.arena.items i.ropes c.joined_bytes.new.ropes i.out i.slots c.self.invariant c.in_ok-buffer.ensures.later)

pub returns-in_err-try_reserve-clause-refused : goal.returns-in_err-try_reserve-clause-refused
returns-in_err-try_reserve-clause-refused c =
    let i = c.self.inside in
    on_err c.from_residual-in_err-try_reserve.result (rw c.in_err-try_reserve.ensures.items (shown-later i.arena.items i.ropes c.joined_bytes.new.ropes i.out i.slots c.args.self.now c.self.view_is c.self.invariant c.in_ok-buffer.ensures.later))

pub invariant_of-self-in_err-put : goal.invariant_of-self-in_err-put
invariant_of-self-in_err-put c =
    let i = c.self.inside in
    rw (c.in_err-put.ensures.same_out, c.in_err-put.ensures.same_slots, c.in_ok-try_reserve.ensures.items) (IsLaid-later i.arena.items i.ropes c.joined_bytes.new.ropes i.out i.slots c.self.invariant c.in_ok-buffer.ensures.later)

pub returns-in_err-put-clause-refused : goal.returns-in_err-put-clause-refused
returns-in_err-put-clause-refused c =
    let i = c.self.inside in
    on_err c.from_residual-in_err-put.result (rw (c.in_err-put.ensures.same_out, c.in_err-put.ensures.same_slots, c.in_ok-try_reserve.ensures.items) (shown-later i.arena.items i.ropes c.joined_bytes.new.ropes i.out i.slots c.args.self.now c.self.view_is c.self.invariant c.in_ok-buffer.ensures.later))

pub invariant_of-self-2 : goal.invariant_of-self-2
invariant_of-self-2 c =
    let i = c.self.inside in
    let a : Added i.arena.items i.ropes i.out i.slots c.args.self.now c.self.view_is c.self.invariant c.extend_from_slice.new.self.items c.args.bytes.now c.joined_bytes.new.ropes c.buffer_at-buffer.result c.in_ok-buffer.buffer c.args.place c.len-from.result = record {
      there = c.requires;
      begins = omega (arith, c.len-from.ensures);
      at = c.buffer_at-buffer.ensures;
      segments = c.in_ok-buffer.ensures.segments;
      held = c.in_ok-buffer.ensures.held;
      later = c.in_ok-buffer.ensures.later;
      longer = c.in_ok-extend_from_slice.ensures.items ∙ ap (λ (x : List ℕ). x ++ c.args.bytes.now) c.in_ok-try_reserve.ensures.items;
    } in
    rw (c.in_ok-put.ensures.out, c.in_ok-put.ensures.slots) (added-put i.arena.items i.ropes i.out i.slots c.args.self.now c.self.view_is c.self.invariant c.extend_from_slice.new.self.items c.args.bytes.now c.joined_bytes.new.ropes c.buffer_at-buffer.result c.in_ok-buffer.buffer c.args.place c.len-from.result a).0

pub returns-clause-added : goal.returns-clause-added
returns-clause-added c =
    let i = c.self.inside in
    let a : Added i.arena.items i.ropes i.out i.slots c.args.self.now c.self.view_is c.self.invariant c.extend_from_slice.new.self.items c.args.bytes.now c.joined_bytes.new.ropes c.buffer_at-buffer.result c.in_ok-buffer.buffer c.args.place c.len-from.result = record {
      there = c.requires;
      begins = omega (arith, c.len-from.ensures);
      at = c.buffer_at-buffer.ensures;
      segments = c.in_ok-buffer.ensures.segments;
      held = c.in_ok-buffer.ensures.held;
      later = c.in_ok-buffer.ensures.later;
      longer = c.in_ok-extend_from_slice.ensures.items ∙ ap (λ (x : List ℕ). x ++ c.args.bytes.now) c.in_ok-try_reserve.ensures.items;
    } in
    rw (c.in_ok-put.ensures.out, c.in_ok-put.ensures.slots) (added-put i.arena.items i.ropes i.out i.slots c.args.self.now c.self.view_is c.self.invariant c.extend_from_slice.new.self.items c.args.bytes.now c.joined_bytes.new.ropes c.buffer_at-buffer.result c.in_ok-buffer.buffer c.args.place c.len-from.result a).1
