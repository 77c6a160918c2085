use Rattle.assembler.proofs.Again.{is_only}
use Rattle.assembler.proofs.Whole.{is_found}
use Rattle.assembler.proofs.assembling.assemble.Goals as goal

pub returns-clause-found : goal.returns-clause-found
returns-clause-found c = is_found c.args.text.now c.assemble_whole.result c.assemble_whole.ensures

pub returns-clause-only : goal.returns-clause-only
returns-clause-only c = is_only c.args.text.now c.assemble_whole.result c.assemble_whole.ensures
