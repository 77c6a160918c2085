use Rattle.std.proofs.Common.{◌≡◌, ◌∙◌, ◌∷◌, ap, arith, reverse, sym}
use Rattle.spec_machine.specs.State.{add, is_done, total}
use Rattle.machine_store.specs.Buffers.{Laid, with_added}
use Rattle.machine_store.specs.Store.{Held, IsKept, out_of, texts_of}
use Rattle.machine_store.proofs.Framing.{add-done}
use Rattle.machine_store.proofs.Keeping.{add-great, either, kept-added, on_added, shown-added, store_of}
use Rattle.machine_store.proofs.store.Store.add.Goals as goal

pub returns-then-is_done-clause-added : goal.returns-then-is_done-clause-added
returns-then-is_done-clause-added c = sym (add-done c.args.bytes.now c.args.self.now.store (sym c.if-is_done.ensures))

pub returns-then-bytes-room-clause-added : goal.returns-then-bytes-room-clause-added
returns-then-bytes-room-clause-added c =
    c.pass_limit.ensures.passed ∙ add-great c.args.bytes.now c.args.self.now.store (sym c.if-is_done.ensures) (omega (arith, c.room.ensures, c.if-bytes-room.true))

pub invariant_of-self : goal.invariant_of-self
invariant_of-self c =
    let i = c.self.inside in
    either c.add.result (λ (x : Laid). IsKept (i.top ∷ reverse i.below.items) x i.lost i.units i.mark i.over) i.buffers c.add.new.self (with_added c.in-Some.place c.args.bytes.now i.buffers)
    (kept-added i.top (reverse i.below.items) i.buffers i.lost i.units i.mark i.over c.args.bytes.now c.in-Some.place c.self.invariant c.are_laid.ensures (ap (λ (x : Held). is_done x.store.mark x.store.over) c.self.view_is ∙ sym c.if-is_done.ensures) (sym c.in-Some.ensures) (omega (arith, c.room.ensures, c.if-bytes-room.false, ap (λ (x : Held). total x.store) c.self.view_is)))
    c.self.invariant c.add.ensures.added c.add.ensures.refused

pub returns-clause-added : goal.returns-clause-added
returns-clause-added c =
    let i = c.self.inside in
    on_added c.add.result (λ (x : Laid). store_of (i.top ∷ reverse i.below.items) (texts_of x) (out_of x) i.mark i.over ≡ add c.args.bytes.now c.args.self.now.store) i.buffers c.add.new.self (with_added c.in-Some.place c.args.bytes.now i.buffers)
    (shown-added i.top (reverse i.below.items) i.buffers i.lost i.units i.mark i.over c.args.bytes.now c.in-Some.place c.self.invariant c.are_laid.ensures (ap (λ (x : Held). is_done x.store.mark x.store.over) c.self.view_is ∙ sym c.if-is_done.ensures) (sym c.in-Some.ensures) (omega (arith, c.room.ensures, c.if-bytes-room.false, ap (λ (x : Held). total x.store) c.self.view_is)) c.args.self.now c.self.view_is)
    c.add.ensures.added
