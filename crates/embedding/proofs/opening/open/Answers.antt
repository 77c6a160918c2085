use Rattle.embedding.proofs.opening.open.Goals as goal

pub returns-in-Err-ProgramTooLarge : goal.returns-in-Err-ProgramTooLarge
returns-in-Err-ProgramTooLarge c = (
  record { writer = c.in-Ok.schema.nodes; reader = c.in-Ok-parse.schema.nodes },
  (c.in-Ok.ensures, c.in-Ok-parse.ensures),
  c.in-Err-ProgramTooLarge.ensures.refused c.in-Err-ProgramTooLarge.field-0-is,
)

pub returns-in-Err : goal.returns-in-Err
returns-in-Err c = c.fault_of_writer.ensures c.args.writer.now c.args.reader.now c.in-Err.ensures

pub returns-in-Err-parse : goal.returns-in-Err-parse
returns-in-Err-parse c =
    c.fault_of_reader.ensures c.args.writer.now c.args.reader.now c.in-Ok.schema.nodes c.in-Ok.ensures
    c.in-Err-parse.ensures
