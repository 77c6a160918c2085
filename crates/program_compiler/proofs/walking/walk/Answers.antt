-- Nothing is known at first.
use Rattle.program_compiler.proofs.walking.walk.Goals as goal

pub add_sections-requires-clause-known : goal.add_sections-requires-clause-known
add_sections-requires-clause-known c = c.new-known.ensures c.args.writer.now c.args.reader.now
