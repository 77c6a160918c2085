use Rattle.std.proofs.Common.{◌∙◌, ℕ, ◌++◌, List, ap, arith}
use Rattle.machine_store.proofs.Writing.{began, down, down_smaller, on, on_smaller, popped, segment_there, wrote}
use Rattle.machine_store.proofs.ropes.Ropes.write.Goals as goal

pub loop-at-init : goal.loop-at-init
loop-at-init c = began c.args.self.now c.args.arena.now c.self.inside.joints.items c.args.rope c.args.out.now.items c.new-pending.result.items c.self.view_is c.self.invariant.ordered c.requires.there c.requires.within c.new-pending.ensures.items

pub loop-at-smaller-then-at-gt0 : goal.loop-at-smaller-then-at-gt0
loop-at-smaller-then-at-gt0 c =
    down_smaller c.args.arena.now c.self.inside.joints.items _ c.loop-at.out.items c.loop-at.at c.loop-at.pending.items c.push.new.self.items c.index.result.now c.loop-at.invariant c.if-at-gt0.true c.in_ok-push.ensures.items c.index.ensures

pub loop-at-preserved-then-at-gt0 : goal.loop-at-preserved-then-at-gt0
loop-at-preserved-then-at-gt0 c =
    down c.args.arena.now c.self.inside.joints.items _ c.loop-at.out.items c.loop-at.at c.loop-at.pending.items c.push.new.self.items c.index.result.now c.loop-at.invariant c.if-at-gt0.true c.in_ok-push.ensures.items c.index.ensures

pub returns-in_default : goal.returns-in_default
returns-in_default c =
    wrote c.args.arena.now c.self.inside.joints.items _ c.loop-at.out.items c.loop-at.at c.loop-at.pending.items c.loop-at.invariant (omega (arith, c.if-at-gt0.false)) (omega (arith, c.in_default.ensures.cases.0))

pub bytes-requires : goal.bytes-requires
bytes-requires c =
    let w = popped c.args.arena.now c.self.inside.joints.items _ c.loop-at.out.items c.loop-at.at c.in-Some.next c.loop-at.pending.items c.pop.new.self.items c.loop-at.invariant (omega (arith, c.if-at-gt0.false)) c.in-Some.ensures.items in
    let there = segment_there c.args.arena.now c.self.inside.joints.items _ c.loop-at.out.items c.in-Some.next c.pop.new.self.items c.index-joint.result.now w c.index-joint.ensures in
    record { ordered = omega (arith, there.some); within = there.within }

pub loop-at-preserved : goal.loop-at-preserved
loop-at-preserved c =
    let w = popped c.args.arena.now c.self.inside.joints.items _ c.loop-at.out.items c.loop-at.at c.in-Some.next c.loop-at.pending.items c.pop.new.self.items c.loop-at.invariant (omega (arith, c.if-at-gt0.false)) c.in-Some.ensures.items in
    on c.args.arena.now c.self.inside.joints.items _ c.loop-at.out.items c.extend_from_slice.new.self.items c.in-Some.next c.pop.new.self.items c.index-joint.result.now w c.index-joint.ensures
    (c.in_ok-extend_from_slice.ensures.items ∙ ap (λ (x : List ℕ). c.loop-at.out.items ++ x) c.bytes.ensures)

pub loop-at-smaller : goal.loop-at-smaller
loop-at-smaller c =
    let w = popped c.args.arena.now c.self.inside.joints.items _ c.loop-at.out.items c.loop-at.at c.in-Some.next c.loop-at.pending.items c.pop.new.self.items c.loop-at.invariant (omega (arith, c.if-at-gt0.false)) c.in-Some.ensures.items in
    on_smaller c.args.arena.now c.self.inside.joints.items _ c.loop-at.out.items c.loop-at.at c.in-Some.next c.loop-at.pending.items c.pop.new.self.items c.index-joint.result.now w (omega (arith, c.if-at-gt0.false)) c.in-Some.ensures.items c.index-joint.ensures
