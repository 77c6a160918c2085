-- A pair that was there has no further miss, and of one that was not all are there then.
use Rattle.std.proofs.lemmas.Result.{on_ok_weaker}
use Rattle.program_compiler.proofs.Noting.{noted_before, noted_on, was_there}
use Rattle.program_compiler.proofs.misses.note_pair.Goals as goal

pub returns-then-not-branch-clause-added : goal.returns-then-not-branch-clause-added
returns-then-not-branch-clause-added c = noted_before c.args.w.now c.args.r.now c.args.pairs.now c.args.misses.now c.args.writer c.args.reader c.requires (was_there _ _ c.in_ok-insert.ensures.added c.if-not-branch.true)

pub returns-clause-noted : goal.returns-clause-noted
returns-clause-noted c = on_ok_weaker c.note_symbols.result (λ h. noted_on c.args.w.now c.args.r.now c.args.pairs.now c.insert.new.self c.args.misses.now _ (c.args.writer, c.args.reader) c.requires h c.in_ok-insert.ensures.updates.0) c.note_symbols.ensures
