use Rattle.assembler.proofs.Again.{one_program}
use Rattle.assembler.proofs.laws.listing_is_of_one_program.Goals as goal

pub returns : goal.returns
returns c P Q = one_program P Q
