use Rattle.std.proofs.Common.{arith}
use Rattle.avro_loader.proofs.Images.{is_found, is_only}
use Rattle.avro_loader.proofs.loading.load.Goals as goal

pub returns-clause-found : goal.returns-clause-found
returns-clause-found c = is_found c.args.bytes.now c.load_whole.result (λ i. omega (arith, c.type_inv.bytes i)) c.load_whole.ensures.exact

pub returns-clause-only : goal.returns-clause-only
returns-clause-only c = is_only c.args.bytes.now c.load_whole.result c.load_whole.ensures.exact
