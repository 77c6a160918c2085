use Rattle.std.proofs.Common.{◌≡◌, ◌∙◌, ◌++◌, ℕ, List, length, ap, arith}
use Rattle.machine_store.specs.declared.buffers.Buffer.TheVariants.{One}
use Rattle.machine_store.specs.Buffers.{buffer_at}
use Rattle.machine_store.specs.Ropes.{rope_at}
use Rattle.machine_store.specs.Segments.{bytes_at, bytes_of}
use Rattle.machine_store.proofs.Placing.{place-there, within-place, wrote}
use Rattle.machine_store.proofs.Putting.{wide}
use Rattle.machine_store.proofs.buffers.Buffers.write.Goals as goal

pub bytes-requires : goal.bytes-requires
bytes-requires c =
    let i = c.self.inside in
    let p = place-there i.arena.items i.ropes i.out i.slots c.args.place c.args.self.now c.self.view_is c.requires in
    let at : One c.in-One.segment ≡ buffer_at i.out i.slots c.args.place = c.in-One.ensures in
    let w = within-place i.arena.items i.ropes i.out i.slots c.args.place (One c.in-One.segment) c.self.invariant p at in
    record { ordered = omega (arith, w.0.some); within = omega (arith, w.0.within, c.deref.ensures.len) }

pub bytes-requires-in-More : goal.bytes-requires-in-More
bytes-requires-in-More c =
    let i = c.self.inside in
    let w = wide i.arena.items i.ropes i.out i.slots c.args.self.now c.self.view_is c.self.invariant c.in-More.first c.in-More.last c.in-More.middle c.args.place c.requires
    (c.in-More.ensures) in
    record { ordered = omega (arith, w.front.some); within = omega (arith, w.front.within, ap (λ (x : List ℕ). length x) c.deref-in-More.ensures.value) }

pub write-requires : goal.write-requires
write-requires c =
    let i = c.self.inside in
    let w = wide i.arena.items i.ropes i.out i.slots c.args.self.now c.self.view_is c.self.invariant c.in-More.first c.in-More.last c.in-More.middle c.args.place c.requires
    (c.in-More.ensures) in
    record { there = w.there; within = rw c.deref-in-More-2.ensures.value w.rope }

pub bytes-requires-in-More-2 : goal.bytes-requires-in-More-2
bytes-requires-in-More-2 c =
    let i = c.self.inside in
    let w = wide i.arena.items i.ropes i.out i.slots c.args.self.now c.self.view_is c.self.invariant c.in-More.first c.in-More.last c.in-More.middle c.args.place c.requires
    (c.in-More.ensures) in
    record { ordered = omega (arith, w.back.some); within = omega (arith, w.back.within, ap (λ (x : List ℕ). length x) c.deref-in-More-3.ensures.value) }

pub returns-in_ok-write-in-More : goal.returns-in_ok-write-in-More
returns-in_ok-write-in-More c =
    let i = c.self.inside in
    let w = wide i.arena.items i.ropes i.out i.slots c.args.self.now c.self.view_is c.self.invariant c.in-More.first c.in-More.last c.in-More.middle c.args.place c.requires
    (c.in-More.ensures) in
    let one = c.in_ok-extend_from_slice-in-More.ensures.items ∙ ap (λ (x : List ℕ). c.args.out.now.items ++ x) (c.bytes-in-More.ensures ∙ ap (λ (x : List ℕ). bytes_at x c.in-More.first) c.deref-in-More.ensures.value) in
    let two = c.in_ok-write-in-More.ensures ∙ ap (λ (x : List ℕ). c.extend_from_slice-in-More.new.self.items ++ bytes_of x (rope_at i.ropes c.in-More.middle)) c.deref-in-More-2.ensures.value in
    wrote c.extend_from_slice-in-More-2.result c.args.out.now.items (bytes_at i.arena.items c.in-More.first) (bytes_of i.arena.items (rope_at i.ropes c.in-More.middle)) (bytes_at i.arena.items c.in-More.last) _ _ _ _ _ one two
    (c.bytes-in-More-2.ensures ∙ ap (λ (x : List ℕ). bytes_at x c.in-More.last) c.deref-in-More-3.ensures.value) c.extend_from_slice-in-More-2.ensures.items w.bytes
