use Rattle.std.proofs.Common.{refl}
use Rattle.program_cache.proofs.Pairs.{answers_for}
use Rattle.program_cache.proofs.cache.ProgramCache.pair.Goals as goal

pub returns-in-Some-clause-pair : goal.returns-in-Some-clause-pair
returns-in-Some-clause-pair c =
    answers_for c.args.writer.now c.args.reader.now _ _ c.in-Some.compiled.now _ refl refl c.program.ensures c.in-Some.ensures.found
