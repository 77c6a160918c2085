use Rattle.avro_loader.proofs.Images.{head_of}
use Rattle.avro_loader.proofs.loading.migrate.Goals as goal

pub returns-clause-memory : goal.returns-clause-memory
returns-clause-memory c none = head_of c.args.bytes.now c.in_ok-program.program c.in_ok-program.ensures.exact
