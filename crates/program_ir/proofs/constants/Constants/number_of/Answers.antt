-- The number of what is there, and of what is not how many there are.
use Rattle.std.specs.Str.{bytes_eq}
use Rattle.program_ir.proofs.Tables.{number_or}
use Rattle.program_ir.proofs.constants.Constants.number_of.Goals as goal

pub returns : goal.returns
returns c = number_or bytes_eq c.args.bytes.now.items c.args.self.now _ _ _ c.get.ensures c.len.ensures c.unwrap_or.ensures
