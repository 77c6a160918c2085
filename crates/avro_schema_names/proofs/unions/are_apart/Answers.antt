use Rattle.std.proofs.Common.{◌≡◌, refl, sym, ◌∙◌, false}
use Rattle.spec_schema.specs.Head.{heads_of}
use Rattle.avro_schema_names.proofs.MemberHeads.{apart_from, apart-at, apart-end, take-at}
use Rattle.avro_schema_names.proofs.unions.are_apart.Goals as goal

pub returns-then-not-branch : goal.returns-then-not-branch
returns-then-not-branch c =
    let heads = heads_of c.args.drafts.now in
    let step = apart-at heads c.args.members.now c.loop-position.position c.loop-position-test.true in
    let here : apart_from heads c.args.members.now c.loop-position.position ≡ false = step ∙ rw (← c.in_ok-is_apart.ensures.apart, c.if-not-branch.true) refl in
    sym here ∙ c.loop-position.invariant.1

pub loop-position-preserved : goal.loop-position-preserved
loop-position-preserved c =
    let heads = heads_of c.args.drafts.now in
    let step = apart-at heads c.args.members.now c.loop-position.position c.loop-position-test.true in (
      rw (take-at c.args.members.now c.loop-position.position c.loop-position-test.true) c.in_ok-is_apart.ensures.named,
      sym (step ∙ rw (← c.in_ok-is_apart.ensures.apart, c.if-not-branch.false) refl) ∙ c.loop-position.invariant.1,
    )

pub returns : goal.returns
returns c = sym (apart-end (heads_of c.args.drafts.now) c.args.members.now c.loop-position.position c.loop-position-test.false) ∙ c.loop-position.invariant.1
