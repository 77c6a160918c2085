use Rattle.std.proofs.Common.{refl, sym, ◌∙◌, drop_of_length-le}
use Rattle.schema_registry.proofs.Safe.{leaves-safe, leaves-unknown, leaves-unsafe}
use Rattle.schema_registry.proofs.candidate.Candidate.goes_with_all.Goals as goal

pub loop-place-init : goal.loop-place-init
loop-place-init c = ((λ h. h), (λ h. h))

pub loop-place-preserved-in_default : goal.loop-place-preserved-in_default
loop-place-preserved-in_default c =
    leaves-unknown c.args.level c.args.self.now c.args.schemas.now c.args.ids.now c.loop-place.place c.loop-place-test.true c.loop-place.invariant
    (sym c.get.ensures ∙ rw c.in_default.is refl)

pub returns-then-not-branch : goal.returns-then-not-branch
returns-then-not-branch c =
    let is = sym c.get.ensures ∙ rw c.in-Some.is refl in
    let unsafe = leaves-unsafe c.args.level c.args.self.now c.args.schemas.now c.args.ids.now c.loop-place.place c.loop-place-test.true c.loop-place.invariant
    c.in-Some.old.now is (λ safe. let t = c.in_ok-goes_with.ensures.1 safe in let f = c.if-not-branch.true in let no : ⊥ = cc in no) in
    ((λ t. absurd (let no : ⊥ = cc in no)), (λ all. absurd (unsafe all)))

pub loop-place-preserved : goal.loop-place-preserved
loop-place-preserved c =
    let is = sym c.get.ensures ∙ rw c.in-Some.is refl in
    leaves-safe c.args.level c.args.self.now c.args.schemas.now c.args.ids.now c.loop-place.place c.loop-place-test.true c.loop-place.invariant
    c.in-Some.old.now is (c.in_ok-goes_with.ensures.0 c.if-not-branch.false)

pub returns : goal.returns
returns c =
    let left = rw (drop_of_length-le c.args.ids.now c.loop-place-test.false) at c.loop-place.invariant in
    ((λ t. left.0 tt), (λ all. refl))
