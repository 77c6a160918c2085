use Rattle.std.proofs.Common.{rules}
use Rattle.embedding.proofs.opening.can_read.Goals as goal

pub returns-in-Ok-can_read : goal.returns-in-Ok-can_read
returns-in-Ok-can_read c = (
  record { writer = c.nodes.result.now; reader = c.nodes-2.result.now },
  (search rules, search rules),
  c.in-Ok-can_read.ensures,
)

pub returns-in-Err : goal.returns-in-Err
returns-in-Err c = c.fault_of_writer.ensures c.args.writer.now c.args.reader.now c.in-Err.ensures

pub returns-in-Err-parse : goal.returns-in-Err-parse
returns-in-Err-parse c =
    c.fault_of_reader.ensures c.args.writer.now c.args.reader.now c.in-Ok.schema.nodes c.in-Ok.ensures
    c.in-Err-parse.ensures
