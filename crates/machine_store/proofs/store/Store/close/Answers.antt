use Rattle.std.proofs.Common.{◌≡◌, ◌∙◌, List, Some, ap, arith, reverse, subst, sym}
use Rattle.spec_machine.specs.State.{Store, is_done, total}
use Rattle.machine_store.specs.declared.store.Frame.{Frame}
use Rattle.machine_store.specs.Buffers.{with_closed}
use Rattle.machine_store.specs.Frames.{newest_place}
use Rattle.machine_store.specs.Store.{Held, IsKept, closed_between, leave, out_of, texts_of, with_frames}
use Rattle.machine_store.proofs.Closing.{closed-done, closed-great, kept-closed, shown-closed}
use Rattle.machine_store.proofs.Keeping.{store_of}
use Rattle.machine_store.proofs.store.Store.close.Goals as goal

pub returns-then-is_done-clause-closed : goal.returns-then-is_done-clause-closed
returns-then-is_done-clause-closed c = c.drop_newest.ensures.dropped ∙ closed-done c.args.around.now c.args.before c.args.self.now.store c.requires.holds (sym c.if-is_done.ensures)

pub returns-then-around-room-clause-closed : goal.returns-then-around-room-clause-closed
returns-then-around-room-clause-closed c =
    c.drop_newest-then-around-room.ensures.dropped
    ∙ ap (λ (s : Store). with_frames (leave s.frames) s) c.pass_limit.ensures.passed
    ∙ closed-great c.args.around.now c.args.before c.args.self.now.store c.requires.holds c.requires.before (sym c.if-is_done.ensures) (omega (arith, c.room.ensures, c.if-around-room.true))

pub invariant_of-self-2 : goal.invariant_of-self-2
invariant_of-self-2 c =
    let i = c.self.inside in
    let into : newest_place (reverse i.below.items) ≡ Some c.in-Some-newest_place.into = ap (λ (x : List Frame). newest_place (reverse x)) (sym c.deref.ensures.value) ∙ sym c.in-Some-newest_place.ensures in
    rw c.in_ok-close.ensures.closed (subst (λ (fs : List Frame). IsKept fs (with_closed c.in-Some.first c.in-Some-newest_place.into c.args.around.now c.args.before i.buffers) i.lost i.units i.mark i.over) c.popped-self-inside.ensures (kept-closed i.top (reverse i.below.items) i.buffers i.lost i.units i.mark i.over c.args.around.now c.args.before c.in-Some.first c.args.self.now c.self.view_is c.self.invariant (sym c.in-Some.ensures) c.requires.before c.in-Some-newest_place.into c.are_laid.ensures (ap (λ (x : Held). is_done x.store.mark x.store.over) c.self.view_is ∙ sym c.if-is_done.ensures) (omega (arith, c.room.ensures, c.if-around-room.false, ap (λ (x : Held). total x.store) c.self.view_is)) into))

pub returns-clause-closed : goal.returns-clause-closed
returns-clause-closed c =
    let i = c.self.inside in
    let b = with_closed c.in-Some.first c.in-Some-newest_place.into c.args.around.now c.args.before i.buffers in
    let into : newest_place (reverse i.below.items) ≡ Some c.in-Some-newest_place.into = ap (λ (x : List Frame). newest_place (reverse x)) (sym c.deref.ensures.value) ∙ sym c.in-Some-newest_place.ensures in
    rw c.in_ok-close.ensures.closed (subst (λ (fs : List Frame). store_of fs (texts_of b) (out_of b) i.mark i.over ≡ closed_between c.args.around.now c.args.before c.args.self.now.store.frames c.args.self.now.store) c.popped-self-inside.ensures (shown-closed i.top (reverse i.below.items) i.buffers i.lost i.units i.mark i.over c.args.around.now c.args.before c.in-Some.first c.args.self.now c.self.view_is c.self.invariant (sym c.in-Some.ensures) c.requires.before c.in-Some-newest_place.into c.are_laid.ensures (ap (λ (x : Held). is_done x.store.mark x.store.over) c.self.view_is ∙ sym c.if-is_done.ensures) (omega (arith, c.room.ensures, c.if-around-room.false, ap (λ (x : Held). total x.store) c.self.view_is)) into))
