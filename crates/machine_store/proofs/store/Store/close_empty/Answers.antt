use Rattle.std.proofs.Common.{rules, ◌≡◌, ◌≢◌, ◌∙◌, ◌∷◌, [], ◌+◌, ◌-◌, List, ℕ, Some, ap, arith, length, reverse, subst, sym}
use Rattle.std.specs.Prelude.{vec_len}
use Rattle.spec_avro.specs.declared.limits.TheConstants.{MOST_OUTPUT}
use Rattle.spec_machine.specs.State.{Store, add, is_done, total}
use Rattle.machine_store.specs.declared.buffers.TargetBuffer.TheVariants.{Slot}
use Rattle.machine_store.specs.declared.store.Frame.{Frame}
use Rattle.machine_store.specs.Buffers.{with_added, with_fewer}
use Rattle.machine_store.specs.Frames.{newest_place}
use Rattle.machine_store.specs.Store.{Held, IsKept, leave, out_of, texts_of, with_frames}
use Rattle.machine_store.proofs.Closing.{dropped-empty}
use Rattle.machine_store.proofs.Dropping.{kept-emptied, lost-then, shown-emptied, too-much, written-length}
use Rattle.machine_store.proofs.Framing.{add-done}
use Rattle.machine_store.proofs.Keeping.{store_of}
use Rattle.machine_store.proofs.store.Store.close_empty.Goals as goal

pub returns-then-is_done-clause-closed : goal.returns-then-is_done-clause-closed
returns-then-is_done-clause-closed c =
    let s = c.args.self.now.store in
    c.drop_newest.ensures.dropped ∙ sym (add-done (0 ∷ []) (with_frames (leave s.frames) s) (sym c.if-is_done.ensures))

pub returns-then-held-eq-MOST_OUTPUT-clause-closed : goal.returns-then-held-eq-MOST_OUTPUT-clause-closed
returns-then-held-eq-MOST_OUTPUT-clause-closed c =
    let i = c.self.inside in
    let s = c.args.self.now.store in
    c.drop_newest-then-held-eq-MOST_OUTPUT.ensures.dropped
    ∙ ap (λ (x : Store). with_frames (leave x.frames) x) c.pass_limit.ensures.passed
    ∙ dropped-empty s (0 ∷ []) (sym c.if-is_done.ensures)
    (too-much i.top (reverse i.below.items) i.buffers i.lost i.units i.mark i.over c.in-Some.first c.args.self.now c.self.view_is c.self.invariant (sym c.in-Some.ensures) c.requires.blocks c.len.result (written-length (Slot c.in-Some.first) i.buffers c.clear.new.self.items c.write.new.out.items c.len.result c.clear.ensures.items c.in_ok-write.ensures (c.len.ensures ∙ (let z : vec_len c.write.new.out ≡ length c.write.new.out.items = search rules in z))) (omega (arith, c.held.ensures.held, c.if-held-eq-MOST_OUTPUT.true)))

pub overflow_sub-self : goal.overflow_sub-self
overflow_sub-self c =
    let i = c.self.inside in
    let into : newest_place (reverse i.below.items) ≡ Some c.in-Some-newest_place.into = ap (λ (x : List Frame). newest_place (reverse x)) (sym c.deref.ensures.value) ∙ sym c.in-Some-newest_place.ensures in
    let n = written-length (Slot c.in-Some.first) i.buffers c.clear.new.self.items c.write.new.out.items c.len.result c.clear.ensures.items c.in_ok-write.ensures (c.len.ensures ∙ (let z : vec_len c.write.new.out ≡ length c.write.new.out.items = search rules in z)) in
    let held : c.held.result - c.len.result ≡ total c.args.self.now.store - c.len.result = ap (λ (k : ℕ). k - c.len.result) c.held.ensures.held in
    omega (arith, (lost-then i.top (reverse i.below.items) i.buffers i.lost i.units i.mark i.over c.in-Some.first c.args.self.now c.self.view_is c.self.invariant (sym c.in-Some.ensures) c.requires.blocks c.len.result n c.in-Some-newest_place.into c.are_laid.ensures (ap (λ (x : Held). is_done x.store.mark x.store.over) c.self.view_is ∙ sym c.if-is_done.ensures) (λ e. c.if-held-eq-MOST_OUTPUT.false (held ∙ e)) _ c.shorten.new.self held (c.shorten.ensures ∙ ap (with_fewer c.in-Some.first) c.in_ok-add.ensures.added)).0, ap (λ (x : List ℕ). length x) c.arena.ensures)

pub invariant_of-self-2 : goal.invariant_of-self-2
invariant_of-self-2 c =
    let i = c.self.inside in
    let into : newest_place (reverse i.below.items) ≡ Some c.in-Some-newest_place.into = ap (λ (x : List Frame). newest_place (reverse x)) (sym c.deref.ensures.value) ∙ sym c.in-Some-newest_place.ensures in
    let n = written-length (Slot c.in-Some.first) i.buffers c.clear.new.self.items c.write.new.out.items c.len.result c.clear.ensures.items c.in_ok-write.ensures (c.len.ensures ∙ (let z : vec_len c.write.new.out ≡ length c.write.new.out.items = search rules in z)) in
    let held : c.held.result - c.len.result ≡ total c.args.self.now.store - c.len.result = ap (λ (k : ℕ). k - c.len.result) c.held.ensures.held in
    let d = ap (λ (x : Held). is_done x.store.mark x.store.over) c.self.view_is ∙ sym c.if-is_done.ensures in
    let some : total c.args.self.now.store - c.len.result ≢ MOST_OUTPUT = λ e. c.if-held-eq-MOST_OUTPUT.false (held ∙ e) in
    let new = c.shorten.ensures ∙ ap (with_fewer c.in-Some.first) c.in_ok-add.ensures.added in
    let lost : length c.arena.result.now - (c.held.result - c.len.result + 1) ≡ i.lost + c.len.result = ap (λ (x : List ℕ). length x - (c.held.result - c.len.result + 1)) c.arena.ensures ∙ (lost-then i.top (reverse i.below.items) i.buffers i.lost i.units i.mark i.over c.in-Some.first c.args.self.now c.self.view_is c.self.invariant (sym c.in-Some.ensures) c.requires.blocks c.len.result n c.in-Some-newest_place.into c.are_laid.ensures d some _ c.shorten.new.self held new).1 in
    rw (new, lost) (subst (λ (fs : List Frame). IsKept fs (with_fewer c.in-Some.first (with_added c.in-Some-newest_place.into (0 ∷ []) i.buffers)) (i.lost + c.len.result) i.units i.mark i.over) c.popped-self-inside.ensures (kept-emptied i.top (reverse i.below.items) i.buffers i.lost i.units i.mark i.over c.in-Some.first c.args.self.now c.self.view_is c.self.invariant (sym c.in-Some.ensures) c.requires.blocks c.len.result n c.in-Some-newest_place.into c.are_laid.ensures d some into))

pub returns-clause-closed : goal.returns-clause-closed
returns-clause-closed c =
    let i = c.self.inside in
    let s = c.args.self.now.store in
    let into : newest_place (reverse i.below.items) ≡ Some c.in-Some-newest_place.into = ap (λ (x : List Frame). newest_place (reverse x)) (sym c.deref.ensures.value) ∙ sym c.in-Some-newest_place.ensures in
    let n = written-length (Slot c.in-Some.first) i.buffers c.clear.new.self.items c.write.new.out.items c.len.result c.clear.ensures.items c.in_ok-write.ensures (c.len.ensures ∙ (let z : vec_len c.write.new.out ≡ length c.write.new.out.items = search rules in z)) in
    let held : c.held.result - c.len.result ≡ total s - c.len.result = ap (λ (k : ℕ). k - c.len.result) c.held.ensures.held in
    let d = ap (λ (x : Held). is_done x.store.mark x.store.over) c.self.view_is ∙ sym c.if-is_done.ensures in
    let some : total c.args.self.now.store - c.len.result ≢ MOST_OUTPUT = λ e. c.if-held-eq-MOST_OUTPUT.false (held ∙ e) in
    let new = c.shorten.ensures ∙ ap (with_fewer c.in-Some.first) c.in_ok-add.ensures.added in
    let b = with_fewer c.in-Some.first (with_added c.in-Some-newest_place.into (0 ∷ []) i.buffers) in
    rw new (subst (λ (fs : List Frame). store_of fs (texts_of b) (out_of b) i.mark i.over ≡ add (0 ∷ []) (with_frames (leave s.frames) s)) c.popped-self-inside.ensures (shown-emptied i.top (reverse i.below.items) i.buffers i.lost i.units i.mark i.over c.in-Some.first c.args.self.now c.self.view_is c.self.invariant (sym c.in-Some.ensures) c.requires.blocks c.len.result n c.in-Some-newest_place.into c.are_laid.ensures d some into))
