use Rattle.std.proofs.Common.{◌≡◌, ◌<◌, ◌∙◌, ℕ, None, ap, arith, slice_get, subst, sym}
use Rattle.machine_store.specs.Ropes.{rope_at}
use Rattle.machine_store.proofs.Roping.{before_there, first_rope, how_many, sought_before, sought_behind, sought_here, sought_smaller}
use Rattle.machine_store.proofs.ropes.Ropes.segment.Goals as goal

pub index-joint-requires : goal.index-joint-requires
index-joint-requires c =
    omega (arith, how_many c.args.self.now c.self.inside.joints.items c.self.view_is, c.loop-at.invariant.there, c.loop-at-test.true)

pub len-before-requires : goal.len-before-requires
len-before-requires c =
    before_there c.args.self.now c.self.inside.joints.items c.args.rope c.args.number c.loop-at.at c.loop-at.left c.index-joint.result.now c.self.view_is c.self.invariant c.requires.few c.loop-at.invariant c.loop-at-test.true c.index-joint.ensures

pub returns-then-left-before : goal.returns-then-left-before
returns-then-left-before c =
    sought_here c.args.self.now c.self.inside.joints.items c.args.rope c.args.number c.loop-at.at c.loop-at.left c.index-joint.result.now c.self.view_is c.self.invariant c.requires.few c.loop-at.invariant c.loop-at-test.true c.index-joint.ensures
    (c.if-left-before.true ∙ c.len-before.ensures)

pub loop-at-smaller-then-left-before-2 : goal.loop-at-smaller-then-left-before-2
loop-at-smaller-then-left-before-2 c =
    (sought_smaller c.args.self.now c.self.inside.joints.items c.args.rope c.args.number c.loop-at.at c.loop-at.left c.index-joint.result.now c.self.view_is c.self.invariant c.requires.few c.loop-at.invariant c.loop-at-test.true c.index-joint.ensures).0

pub loop-at-preserved-then-left-before-2 : goal.loop-at-preserved-then-left-before-2
loop-at-preserved-then-left-before-2 c =
    sought_before c.args.self.now c.self.inside.joints.items c.args.rope c.args.number c.loop-at.at c.loop-at.left c.index-joint.result.now c.self.view_is c.self.invariant c.requires.few c.loop-at.invariant c.loop-at-test.true c.index-joint.ensures
    (subst (λ (n : ℕ). c.loop-at.left < n) c.len-before.ensures c.if-left-before-2.true)

pub loop-at-smaller : goal.loop-at-smaller
loop-at-smaller c =
    (sought_smaller c.args.self.now c.self.inside.joints.items c.args.rope c.args.number c.loop-at.at c.loop-at.left c.index-joint.result.now c.self.view_is c.self.invariant c.requires.few c.loop-at.invariant c.loop-at-test.true c.index-joint.ensures).1

pub loop-at-preserved : goal.loop-at-preserved
loop-at-preserved c =
    sought_behind c.args.self.now c.self.inside.joints.items c.args.rope c.args.number c.loop-at.at c.loop-at.left c.index-joint.result.now c.self.view_is c.self.invariant c.requires.few c.loop-at.invariant c.loop-at-test.true c.index-joint.ensures
    c.len-before.result c.len-before.ensures (omega (arith, c.if-left-before.false, c.if-left-before-2.false))

pub returns : goal.returns
returns c =
    let js = c.self.inside.joints.items in
    let z : c.loop-at.at ≡ 0 = omega (arith, c.loop-at-test.false) in
    let none : None ≡ slice_get (rope_at c.args.self.now 0) c.loop-at.left = sym (ap (λ x. slice_get (rope_at x 0) c.loop-at.left) (sym c.self.view_is) ∙ ap (λ x. slice_get x c.loop-at.left) (first_rope js)) in
    none ∙ ap (λ (n : ℕ). slice_get (rope_at c.args.self.now n) c.loop-at.left) (sym z) ∙ c.loop-at.invariant.same
