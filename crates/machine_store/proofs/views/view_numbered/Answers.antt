-- No such frame, or one that is skipped.
use Rattle.std.proofs.Common.{◌∷◌, ap, arith, reverse, sym}
use Rattle.std.proofs.lemmas.List.{length-reverse}
use Rattle.machine_store.specs.declared.store.Frame.{Frame}
use Rattle.machine_store.specs.declared.views.FrameView.TheVariants as views
use Rattle.machine_store.specs.Viewing.{view_at, view_in}
use Rattle.machine_store.proofs.Viewing.{numbered-none, skipped-seen}
use Rattle.machine_store.proofs.views.view_numbered.Goals as goal

pub returns-then-number-below : goal.returns-then-number-below
returns-then-number-below c =
    ap view_in (sym (numbered-none c.args.number (c.args.top ∷ reverse c.args.below.now) c.args.slots (omega (arith, c.if-number-below.true, length-reverse c.args.below.now))))

pub returns-in-Some-Skip : goal.returns-in-Some-Skip
returns-in-Some-Skip c =
    let there = c.in-Some-Skip in
    skipped-seen c.args.number c.args.top there.field-0.now c.args.below.now c.args.slots views.Skip (grind (arith, there.ensures.lookup.0)) there.ensures.lookup.1 (λ end. ap (λ (f : Frame). view_at f end) (sym there.field-0-is))

pub returns-in-Some-SkipBlocks : goal.returns-in-Some-SkipBlocks
returns-in-Some-SkipBlocks c =
    let there = c.in-Some-SkipBlocks in
    skipped-seen c.args.number c.args.top there.field-0.now c.args.below.now c.args.slots (views.SkipBlocks there.walk) (grind (arith, there.ensures.lookup.0)) there.ensures.lookup.1 (λ end. ap (λ (f : Frame). view_at f end) (sym there.field-0-is))
