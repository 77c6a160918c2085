-- One miss more, and those of the pairs stay.
use Rattle.std.proofs.Common.{◌∷◌, []}
use Rattle.std.proofs.lemmas.Result.{on_ok_weaker}
use Rattle.program_compiler.proofs.Noting.{noted_still}
use Rattle.program_compiler.proofs.misses.note.Goals as goal

pub returns-in-Miss-clause-noted : goal.returns-in-Miss-clause-noted
returns-in-Miss-clause-noted c = on_ok_weaker c.add.result (λ h. noted_still c.args.w.now c.args.r.now c.args.pairs.now c.args.misses.now _ (c.in-Miss.miss ∷ []) c.requires h) c.add.ensures.added

pub returns-in-BytesText-clause-noted : goal.returns-in-BytesText-clause-noted
returns-in-BytesText-clause-noted c = on_ok_weaker c.add-in-BytesText.result (λ h. noted_still c.args.w.now c.args.r.now c.args.pairs.now c.args.misses.now _ (c.in-BytesText.miss ∷ []) c.requires h) c.add-in-BytesText.ensures.added
