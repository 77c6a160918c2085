use Rattle.std.proofs.Common.{rules}
use Rattle.program_cache.proofs.compiled.Compiled.program_of.Goals as goal

pub returns : goal.returns
returns c = c.program.ensures c.args.writer.now c.args.reader.now (search rules)
