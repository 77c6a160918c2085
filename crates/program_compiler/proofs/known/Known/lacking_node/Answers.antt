-- What is known is returned, and what is found is known from then on.
use Rattle.std.proofs.Common.{rules}
use Rattle.program_compiler.proofs.Kept.{lacking_on}
use Rattle.program_compiler.proofs.known.Known.lacking_node.Goals as goal

pub returns-in-Some-clause-node : goal.returns-in-Some-clause-node
returns-in-Some-clause-node c = c.requires.known.lacking (c.args.writer_node, c.args.reader_node) c.in-Some.node (search rules)

pub returns-clause-known : goal.returns-clause-known
returns-clause-known c = record {
  lacking = lacking_on c.args.pair.now.writer.now c.args.pair.now.reader.now c.args.self.now.lacking c.insert.new.self (c.args.writer_node, c.args.reader_node) c.in_ok-node.node c.requires.known.lacking c.in_ok-node.ensures c.in_ok-insert.ensures.updates.0;
  types = c.requires.known.types;
  positions = c.requires.known.positions;
}
