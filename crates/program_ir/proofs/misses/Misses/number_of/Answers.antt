-- The number of what is there, and of what is not how many there are.
use Rattle.spec_machine.specs.Numbering.{same_miss}
use Rattle.program_ir.proofs.Tables.{number_or}
use Rattle.program_ir.proofs.misses.Misses.number_of.Goals as goal

pub returns : goal.returns
returns c = number_or same_miss c.args.miss c.args.self.now _ _ _ c.get.ensures c.len.ensures c.unwrap_or.ensures
