use Rattle.program_cache.proofs.Pairs.{answers_for}
use Rattle.program_cache.proofs.cache.ProgramCache.compile.Goals as goal

pub returns-in-Ok-keep-clause-pair : goal.returns-in-Ok-keep-clause-pair
returns-in-Ok-keep-clause-pair c =
    answers_for c.args.writer.now c.args.reader.now _ _ c.in-Ok-keep.kept.now _ c.schema-from.ensures.same c.schema-to.ensures.same c.program.ensures c.in-Ok-keep.ensures.kept
